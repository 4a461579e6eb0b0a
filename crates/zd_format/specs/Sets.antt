-- Sets of metadata that are written block by block.
use Rattle.std.specs.Prelude.{◌≡◌, ◌⊎◌, ℕ, ◌+◌, ◌*◌, ◌/◌, ◌<◌, ◌≤◌}
use Rattle.std.specs.Prelude.{List, length, take, drop, replicate}
use Rattle.zd_base.specs.Geometry.{Shape, IsShape}
use Rattle.zd_base.specs.Layout.{Fits, set_zones}
use Rattle.zd_disk.specs.Runs.{blocks_in}
use Rattle.zd_model.specs.Image.{Image, set_block}
use Rattle.zd_model.specs.Super.{block_of, with_own}
use Rattle.zd_model.specs.Tables.{entry_at}
use Rattle.zd_model.specs.declared.metadata.Super.{Super}
use Rattle.zd_map.specs.Numbers.{unmapped}

-- the jth block of these bytes
abbrev pub block_in : List ℕ → ℕ → List ℕ
block_in bytes j = take 4096 (drop (4096 * j) bytes)

-- so many blocks of zeros
unfoldable pub zero_blocks : ℕ → List ℕ
zero_blocks n = replicate (4096 * n) 0

-- a map block whose entries name no zone
abbrev pub NamesNothing : List ℕ → Type 0
NamesNothing block = (i : ℕ) → i < 512 → entry_at block i ≡ unmapped

-- block k of a set with this head, of a volume that nobody wrote
pub record IsFreshBlock (head : Super) (k : ℕ) (block : List ℕ) : Type 0 where
  pub super : k ≡ 0 → block ≡ block_of head
  pub map : 1 ≤ k → k ≤ head.layout.map_blocks → NamesNothing block
  pub bitmap : head.layout.map_blocks < k → block ≡ zero_blocks 1

-- new is old with these blocks in the set that begins in zone `first`, from block b on; the blocks of
-- the disk before them are as they were
pub record PutBlocks (first b : ℕ) (bytes : List ℕ) (old new : Image) : Type 0 where
  pub geometry : new.geometry ≡ old.geometry
  pub put : (j : ℕ) → j < blocks_in bytes → set_block new first (b + j) ≡ block_in bytes j
  pub before : (f k : ℕ) →
      f * old.geometry.zone_blocks + k < first * old.geometry.zone_blocks + b →
      set_block new f k ≡ set_block old f k

-- the set that begins in zone `first` has this head, and is one of the two that fit
pub record IsFittingSet (g : Shape) (head : Super) (first : ℕ) : Type 0 where
  pub shape : IsShape g
  pub fits : Fits g head.layout
  pub start : (first ≡ 0) ⊎ (first ≡ set_zones g head.layout)

-- the set that begins in zone `first` is written up to block b, and the first set whole where this is
-- the second
pub record HasWritten (g : Shape) (head : Super) (first b : ℕ) (image : Image) : Type 0 where
  pub geometry : image.geometry ≡ g
  pub earlier : 0 < first → (k : ℕ) → k < head.layout.meta_blocks →
      IsFreshBlock (with_own 0 head) k (set_block image 0 k)
  pub blocks : (k : ℕ) → k < b → IsFreshBlock head k (set_block image first k)

-- both sets are written, the first with this head
pub record HasBothSets (g : Shape) (head : Super) (image : Image) : Type 0 where
  pub geometry : image.geometry ≡ g
  pub first : (k : ℕ) → k < head.layout.meta_blocks → IsFreshBlock head k (set_block image 0 k)
  pub second : (k : ℕ) → k < head.layout.meta_blocks →
      IsFreshBlock (with_own (set_zones g head.layout * g.zone_blocks) head) k
      (set_block image (set_zones g head.layout) k)
