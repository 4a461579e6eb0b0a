-- A set of metadata on its way from old blocks to new ones, and the blocks of the chosen set.
use Rattle.std.specs.Prelude.{◌≡◌, ◌⊎◌, ℕ, ◌+◌, ◌*◌, ◌/◌, ◌%◌, ◌<◌, ◌≤◌, List, Some, IsNone}
use Rattle.zd_base.specs.Geometry.{Shape}
use Rattle.zd_base.specs.Layout.{used_blocks}
use Rattle.zd_base.specs.declared.layout.Layout.{Layout}
use Rattle.zd_model.specs.Image.{Image, set_block}
use Rattle.zd_model.specs.Volume.{Chosen, chosen, good_super}
use Rattle.zd_model.specs.declared.metadata.Super.{Super}
use Rattle.zd_disk.specs.Steps.{piece}
use Rattle.zd_sets.specs.Blocks.{blocks_of}
use Rattle.zd_sets.specs.Equal.{head_at}

-- sector j of block k of the set that begins in zone `first`
abbrev pub sector_in_set : Shape → Image → ℕ → ℕ → ℕ → List ℕ
sector_in_set g i first k j =
    i.sector (first + k / g.zone_blocks) (8 * (k % g.zone_blocks) + j)

-- sector j of block k of these bytes
abbrev pub sector_of_block : List ℕ → ℕ → ℕ → List ℕ
sector_of_block bytes k j = piece (blocks_of bytes k 1) j

-- the head that the next commit writes
abbrev pub next_head : Super → Super
next_head head = record head { generation = head.generation + 1 }

-- the set has a good super block with this head, and these used blocks behind it
pub record HasSet (g : Shape) (first used : ℕ) (head : Super) (bytes : List ℕ) (i : Image) : Type 0 where
  pub super : good_super i first ≡ Some (head_at g first head)
  pub each : (k j : ℕ) → 1 ≤ k → k < used → j < 8 →
      sector_in_set g i first k j ≡ sector_of_block bytes k j

-- each sector of a used block behind the super block is the old or the new one
pub record IsBetween
    (g : Shape) (first used : ℕ) (head : Super) (old new : List ℕ) (i : Image)
    : Type 0 where
  pub super : good_super i first ≡ Some (head_at g first head)
  pub each : (k j : ℕ) → 1 ≤ k → k < used → j < 8 →
      (sector_in_set g i first k j ≡ sector_of_block old k j)
      ⊎ (sector_in_set g i first k j ≡ sector_of_block new k j)

-- of the used blocks behind the super block those below block `upto` are new, and the others old
pub record IsWritten
    (g : Shape) (first used : ℕ) (head : Super) (old new : List ℕ) (upto : ℕ) (i : Image)
    : Type 0 where
  pub super : good_super i first ≡ Some (head_at g first head)
  pub below : (k j : ℕ) → 1 ≤ k → k < used → k < upto → j < 8 →
      sector_in_set g i first k j ≡ sector_of_block new k j
  pub from : (k j : ℕ) → 1 ≤ k → k < used → upto ≤ k → j < 8 →
      sector_in_set g i first k j ≡ sector_of_block old k j

-- how far a set may be: as it was committed; with old and new sectors; with all new blocks, but the old
-- head; with these and either head; with both new
pub data Stage : Type 0 where
  Before : Stage
  Mixed : Stage
  Whole : Stage
  Either : Stage
  After : Stage

abbrev pub InStage : Stage → Shape → ℕ → ℕ → Super → List ℕ → List ℕ → Image → Type 0
InStage Before g first used head old new i = HasSet g first used head old i
InStage Mixed g first used head old new i = IsBetween g first used head old new i
InStage Whole g first used head old new i = HasSet g first used head new i
InStage Either g first used head old new i =
    HasSet g first used head new i ⊎ HasSet g first used (next_head head) new i
InStage After g first used head old new i = HasSet g first used (next_head head) new i

-- super block and used blocks of the set are as they were
pub record SetStays (g : Shape) (first used : ℕ) (i c : Image) : Type 0 where
  pub super : good_super c first ≡ good_super i first
  pub each : (k j : ℕ) → 1 ≤ k → k < used → j < 8 →
      sector_in_set g c first k j ≡ sector_in_set g i first k j

-- the chosen set of the image has this layout, and from block 1 on these used blocks; and the super
-- block of set 0 is good, so that no other block can be meant for one
pub record ChoosesBlocks (g : Shape) (l : Layout) (bytes : List ℕ) (i : Image) : Type 0 where
  pub set : Chosen
  pub is_chosen : chosen i ≡ Some set
  pub layout : set.head.layout ≡ l
  pub each : (k : ℕ) → 1 ≤ k → k < used_blocks g l → set_block i set.first k ≡ blocks_of bytes k 1
  pub some_good : IsNone (good_super i 0) → ⊥
