-- The other set made equal to the chosen one.
use Rattle.std.specs.Prelude.{◌≡◌, ℕ, ◌+◌, ◌*◌, ◌/◌, ◌%◌, ◌<◌, ◌≤◌, List, take, is_some, Bool, true, false, Some}
use Rattle.zd_base.specs.Geometry.{Shape}
use Rattle.zd_model.specs.Image.{Image, SameZone, block_at, set_block}
use Rattle.zd_model.specs.Bytes.{zero_sector}
use Rattle.zd_model.specs.Super.{with_own}
use Rattle.zd_model.specs.Volume.{good_super}
use Rattle.zd_model.specs.declared.metadata.Super.{Super}
use Rattle.zd_sets.specs.Blocks.{blocks_of}
use Rattle.zd_sets.specs.declared.choice.Chosen.{Chosen as Choice}

-- new is old but for blocks at such places of conventional zones
pub record OnlyAt (At : ℕ → ℕ → Type 0) (old new : Image) : Type 0 where
  pub geometry : new.geometry ≡ old.geometry
  pub sequential : (z : ℕ) → old.geometry.conv ≤ z → SameZone old new z
  pub elsewhere : (z x : ℕ) → z < old.geometry.conv → x < old.geometry.zone_blocks → (At z x → ⊥) →
      block_at new z x ≡ block_at old z x

-- the places of the blocks of the set that begins in zone `first`, from block `from` up to block `end`
abbrev pub InSet : Shape → ℕ → ℕ → ℕ → ℕ → ℕ → Type 0
InSet g first from end z x =
    (k : ℕ) × (from ≤ k) × (k < end) × (z ≡ first + k / g.zone_blocks) × (x ≡ k % g.zone_blocks)

-- the blocks of the set from block `from` up to block `end` are those of these bytes, and no other
-- block changed
pub record HasSetBlocks (g : Shape) (first from end : ℕ) (bytes : List ℕ) (old new : Image) : Type 0 where
  pub only : OnlyAt (InSet g first from end) old new
  pub each : (k : ℕ) → from ≤ k → k < end → set_block new first k ≡ blocks_of bytes k 1

-- the head with the own number of a super block in this zone
abbrev pub head_at : Shape → ℕ → Super → Super
head_at g zone head = with_own (zone * g.zone_blocks) head

-- two heads differ in their own numbers alone
abbrev pub IsSameHead : Super → Super → Type 0
IsSameHead s t = with_own 0 s ≡ with_own 0 t

-- the super block of a zone is good, with the fields of this head, and no other block changed
pub record HasSuper (g : Shape) (zone : ℕ) (head : Super) (old new : Image) : Type 0 where
  pub only : OnlyAt (InSet g zone 0 1) old new
  pub super : good_super new zone ≡ Some (head_at g zone head)

-- the other set has a good super block with the fields of the chosen one and its own number, and
-- otherwise the used blocks of the chosen set, up to block `end`; no other block changed
pub record IsMadeEqual (g : Shape) (c : Choice) (end : ℕ) (old new : Image) : Type 0 where
  pub only : OnlyAt (InSet g c.other 0 end) old new
  pub super : good_super new c.other ≡ Some (head_at g c.other c.head)
  pub each : (k : ℕ) → 1 ≤ k → k < end → set_block new c.other k ≡ set_block old c.zone k
  pub kept : (k : ℕ) → k < end → set_block new c.zone k ≡ set_block old c.zone k

-- the first sector of a zone is zeros where its super block is bad, and no block changed but its first
pub record IsCleared (g : Shape) (zone : ℕ) (good : Bool) (old new : Image) : Type 0 where
  pub only : OnlyAt (InSet g zone 0 1) old new
  pub zeros : good ≡ false → take 512 (block_at new zone 0) ≡ zero_sector
  pub same : good ≡ true → block_at new zone 0 ≡ block_at old zone 0

-- the other super block may be written: the used blocks of both sets are equal from block 1 on, and
-- where it isn't good, no part of the write makes it good but the whole
pub record IsReady (c : Choice) (end : ℕ) (image : Image) : Type 0 where
  pub each : (k : ℕ) → 1 ≤ k → k < end → set_block image c.other k ≡ set_block image c.zone k
  pub good : c.other_good ≡ true → is_some (good_super image c.other) ≡ true
  pub zeros : c.other_good ≡ false → take 512 (block_at image c.other 0) ≡ zero_sector
