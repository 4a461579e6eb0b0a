-- What is counted of bitmap blocks.
use Rattle.std.specs.Prelude.{◌≡◌, ◌⊎◌, ℕ, ◌+◌, ◌-◌, ◌*◌, ◌<◌, ◌≤◌, min, true, false}
use Rattle.std.specs.Prelude.{List, length, slice_index_or, count_by, Option, Some, None}
use Rattle.std.specs.List.{range_with_len}
use Rattle.zd_base.specs.Geometry.{Shape, zone_count, per}
use Rattle.zd_base.specs.Layout.{Fits, used_blocks}
use Rattle.zd_base.specs.declared.layout.Layout.{Layout}
use Rattle.zd_bits.specs.Bits.{AllAre, IsFirstValid, weight_of}
use Rattle.zd_model.specs.Tables.{Tables, is_valid}
use Rattle.zd_sets.specs.Blocks.{blocks_of}
use Rattle.zd_tables.specs.declared.part.PartCount.{PartCount}

-- the bits of a bitmap block that belong to blocks of its zone
abbrev pub part_blocks : Shape → ℕ
part_blocks g = min g.zone_blocks 32768

-- so many of the first bits are set, and this is the first of them
pub record IsCounted (bits : List ℕ) (end : ℕ) (count : PartCount) : Type 0 where
  pub weight : count.weight ≡ weight_of bits end
  pub some : (n : ℕ) → count.first ≡ Some n → IsFirstValid bits 0 end n
  pub none : count.first ≡ None → AllAre false bits 0 end

-- none of a zone's blocks from `from` on, below `end`, is valid
abbrev pub AreInvalid : Tables → ℕ → ℕ → ℕ → Type 0
AreInvalid t zone from end = (x : ℕ) → from ≤ x → x < end → is_valid t zone x ≡ false

-- so many blocks of a zone from `from` on, below `end`, are valid, and this is the first of them,
-- counted from `from` on
pub record CountsValid (t : Tables) (zone from end : ℕ) (count : PartCount) : Type 0 where
  pub weight : count.weight ≡ count_by (is_valid t zone) (range_with_len from (end - from))
  pub some : (n : ℕ) → count.first ≡ Some n →
      (from + n < end) × (is_valid t zone (from + n) ≡ true) × AreInvalid t zone from (from + n)
  pub none : count.first ≡ None → AreInvalid t zone from end

-- the first bit of all after those from `from` on, below `to`, were cleared, by the first before
pub record IsFirstWithout (bits : List ℕ) (from to end : ℕ) (old new : Option ℕ) : Type 0 where
  pub none : old ≡ None → new ≡ None
  pub outside : (n : ℕ) → old ≡ Some n → (n < from) ⊎ (to ≤ n) → new ≡ Some n
  pub some : (n m : ℕ) → old ≡ Some n → from ≤ n → n < to → new ≡ Some m →
      IsFirstValid bits to end m
  pub all : (n : ℕ) → old ≡ Some n → from ≤ n → n < to → new ≡ None → AllAre false bits to end

-- what is counted of bitmap block k
abbrev pub count_at : List PartCount → ℕ → PartCount
count_at counts k = slice_index_or counts k (record { weight = 0; first = None })

-- the blocks are those of a layout that fits, and each bitmap block is counted
pub record AreHeld (g : Shape) (l : Layout) (bytes : List ℕ) (counts : List PartCount)
    : Type 0 where
  pub fits : Fits g l
  pub size : length bytes ≡ 4096 * used_blocks g l
  pub parts : length counts ≡ zone_count g * per g
  pub each : (k : ℕ) → k < zone_count g * per g →
      IsCounted (blocks_of bytes (1 + l.map_blocks + k) 1) (part_blocks g) (count_at counts k)
