-- A super block: 4096 bytes that stand for a record.
use Rattle.std.specs.Prelude.{◌≡◌, ◌⊎◌, ℕ, ◌%◌, ◌^◌, ◌<◌, ◌≤◌, Bool, ◌==◌, ◌||◌, if◌then◌else◌}
use Rattle.std.specs.Prelude.{List, [], ◌∷◌, ◌++◌, take, drop, replicate, slice_range, slice_index}
use Rattle.std.specs.Prelude.{Result, Ok, Err}
use Rattle.std.specs.Int.{w32, w64, to_le_bytes}
use Rattle.std.specs.List.{list_all, concat}
use Rattle.zd_model.specs.Bytes.{u32_at, u64_at, AreBytes}
use Rattle.zd_model.specs.Crc.{crc32_le}
use Rattle.zd_base.specs.declared.layout.Layout.{Layout}
use Rattle.zd_model.specs.declared.metadata.Super.{Super}
use Rattle.zd_model.specs.declared.metadata.NotSuper.{NotSuper}
use Rattle.zd_model.specs.declared.metadata.NotSuper.TheVariants.{Magic, Version, Crc, Tail}

-- the versions that there are
abbrev pub IsVersion : ℕ → Type 0
IsVersion version = (version ≡ 1) ⊎ (version ≡ 2)

abbrev pub is_version : ℕ → Bool
is_version version = version == 1 || version == 2

-- where the fields of a version end: version 1 has neither label nor identifiers
unfoldable pub fields_end : ℕ → ℕ
fields_end version = if version == 1 then 48 else 112

-- the five numbers of the layout at their places
abbrev pub layout_at : List ℕ → Layout
layout_at block = record {
  meta_blocks = u32_at block 24;
  reserved = u32_at block 28;
  chunks = u32_at block 32;
  map_blocks = u32_at block 36;
  bitmap_blocks = u32_at block 40;
}

-- the fields at their places. In a super block of version 1 the last three are zeros, as all bytes
-- after its fields
abbrev pub super_at : List ℕ → Super
super_at block = record {
  version = u32_at block 4;
  generation = u64_at block 8;
  own = u64_at block 16;
  layout = layout_at block;
  label = slice_range block 48 80;
  volume = slice_range block 80 96;
  device = slice_range block 96 112;
}

-- the crc of the block with zeros in the crc field, started with the generation's lower half
unfoldable pub crc_of : List ℕ → ℕ
crc_of block =
    crc32_le (u64_at block 8 % 2 ^ 32) (take 44 block ++ 0 ∷ 0 ∷ 0 ∷ 0 ∷ [] ++ drop 48 block)

-- the block stands for this record: magic, a version that there is, crc, zeros after the fields
pub record IsSuper (block : List ℕ) (s : Super) : Type 0 where
  pub bytes : AreBytes 4096 block
  pub magic : u32_at block 0 ≡ 0x445A4244
  pub version : IsVersion (u32_at block 4)
  pub crc : u32_at block 44 ≡ crc_of block
  pub tail : (i : ℕ) → fields_end (u32_at block 4) ≤ i → slice_index block i ≡ 0
  pub fields : s ≡ super_at block

-- zeros after the fields of its version
unfoldable pub has_zero_tail : List ℕ → Bool
has_zero_tail block = list_all (λ b. b == 0) (drop (fields_end (u32_at block 4)) block)

-- the record, or the first rule that the block breaks
unfoldable pub decoded : List ℕ → Result Super NotSuper
decoded block =
    if u32_at block 0 == 0x445A4244 then
    (if is_version (u32_at block 4) then
    (if u32_at block 44 == crc_of block then
    (if has_zero_tail block then Ok (super_at block)
    else Err Tail) else Err Crc) else Err Version) else Err Magic

-- the bytes of a record before its crc
abbrev pub before_crc : Super → List ℕ
before_crc s = concat (
    to_le_bytes w32 0x445A4244
    ∷ to_le_bytes w32 s.version
    ∷ to_le_bytes w64 s.generation
    ∷ to_le_bytes w64 s.own
    ∷ to_le_bytes w32 s.layout.meta_blocks
    ∷ to_le_bytes w32 s.layout.reserved
    ∷ to_le_bytes w32 s.layout.chunks
    ∷ to_le_bytes w32 s.layout.map_blocks
    ∷ to_le_bytes w32 s.layout.bitmap_blocks
    ∷ [])

-- and those after it
unfoldable pub behind_crc : Super → List ℕ
behind_crc s = s.label ++ (s.volume ++ (s.device ++ replicate 3984 0))

-- the bytes of a record with this crc
abbrev pub spelled : Super → ℕ → List ℕ
spelled s crc = before_crc s ++ to_le_bytes w32 crc ++ behind_crc s

-- the one block of a record
unfoldable pub block_of : Super → List ℕ
block_of s = spelled s (crc32_le (s.generation % 2 ^ 32) (spelled s 0))

-- a record with another own number
abbrev pub with_own : ℕ → Super → Super
with_own own s = record s { own = own }

-- a version that there is, and no more than it has: in version 1 a label of zeros and nil identifiers
pub record FitsVersion (s : Super) : Type 0 where
  pub version : IsVersion s.version
  pub label : s.version ≡ 1 → s.label ≡ replicate 32 0
  pub volume : s.version ≡ 1 → s.volume ≡ replicate 16 0
  pub device : s.version ≡ 1 → s.device ≡ replicate 16 0

-- a record that has a block: fields of their sizes, which fit its version
pub record HasBlock (s : Super) : Type 0 where
  pub generation : s.generation < 2 ^ 64
  pub own : s.own < 2 ^ 64
  pub meta_blocks : s.layout.meta_blocks < 2 ^ 32
  pub reserved : s.layout.reserved < 2 ^ 32
  pub chunks : s.layout.chunks < 2 ^ 32
  pub map_blocks : s.layout.map_blocks < 2 ^ 32
  pub bitmap_blocks : s.layout.bitmap_blocks < 2 ^ 32
  pub label : AreBytes 32 s.label
  pub volume : AreBytes 16 s.volume
  pub device : AreBytes 16 s.device
  pub fits : FitsVersion s
