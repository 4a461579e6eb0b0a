-- What an examined disk is found to be.
use Rattle.std.specs.Prelude.{◌≡◌, ℕ, ◌*◌, ◌<◌, ◌≤◌, Bool, List, [], length, slice_index, Some, None, IsNone}
use Rattle.std.specs.Option.{is_some}
use Rattle.zd_base.specs.Geometry.{Shape, zone_count, zone_sectors}
use Rattle.zd_base.specs.Layout.{Fits, set_zones, used_blocks}
use Rattle.zd_base.specs.declared.layout.Layout.{Layout as Sizes}
use Rattle.zd_model.specs.Faults.{bad_bit, bad_chunk}
use Rattle.zd_model.specs.Image.{Image as Disk}
use Rattle.zd_model.specs.Tables.{BitsFollowRules, MapFollowsRules}
use Rattle.zd_model.specs.Volume.{Chosen as Set, IsWellFormed, chosen, good_super, tables_of}
use Rattle.zd_sets.specs.Blocks.{AreBlocks}
use Rattle.zd_sets.specs.Choice.{IsMisplaced, IsPlacedChoice, NoMagicAfter, chosen_of}
use Rattle.zd_sets.specs.declared.choice.Chosen.{Chosen}
use Rattle.zd_tables.specs.Tables.{entries_in, tables_in}
use Rattle.zd_examine.specs.Padded.{named_flags}
use Rattle.zd_examine.specs.declared.examining.OpenFault.{OpenFault}
use Rattle.zd_examine.specs.declared.examining.OpenFault.TheVariants.{NoSuperBlock, Layout, BadMap, BadBits, Device, Memory}

-- the pointers of the sequential zones, in sectors; those of conventional zones are 0
pub record ArePointers (disk : Disk) (pointers : List ℕ) : Type 0 where
  pub count : length pointers ≡ zone_count disk.geometry
  pub conventional : (z : ℕ) → z < disk.geometry.conv → slice_index pointers z ≡ 0
  pub sequential : (z : ℕ) → disk.geometry.conv ≤ z → z < zone_count disk.geometry →
      slice_index pointers z ≡ disk.held z

-- a well-formed image, with its chosen set, the used blocks of this set, and the pointers
pub record IsExamined (g : Shape) (c : Chosen) (bytes reported : List ℕ) (disk : Disk) : Type 0 where
  pub geometry : g ≡ disk.geometry
  pub well_formed : IsWellFormed disk (chosen_of c)
  pub other_good : c.other_good ≡ is_some (good_super disk c.other)
  pub blocks : AreBlocks disk c.zone (used_blocks disk.geometry c.head.layout) bytes
  pub pointers : ArePointers disk reported

-- a set is chosen, its layout fits, and no other super block can be meant
pub record IsPlacedSet (disk : Disk) (c : Set) : Type 0 where
  pub is_chosen : chosen disk ≡ Some c
  pub layout : Fits disk.geometry c.head.layout
  pub no_other_magic : IsNone (good_super disk 0) →
      NoMagicAfter disk c.first (set_zones disk.geometry c.head.layout)

-- why an image is no volume, the first rule that it breaks
abbrev pub ExplainsRefusal : OpenFault → Disk → Type 0
ExplainsRefusal NoSuperBlock disk = chosen disk ≡ None
ExplainsRefusal Layout disk = (c : Set) × (chosen disk ≡ Some c) × IsMisplaced disk c
ExplainsRefusal (BadMap chunk) disk = (c : Set) × IsPlacedSet disk c
    × (bad_chunk disk.geometry c.head.layout [] 0 (tables_of disk c).entries ≡ Some chunk)
ExplainsRefusal (BadBits zone block) disk = (c : Set) × IsPlacedSet disk c
    × (bad_chunk disk.geometry c.head.layout [] 0 (tables_of disk c).entries ≡ None)
    × (bad_bit disk.geometry disk.held (tables_of disk c) ≡ Some (zone, block))
ExplainsRefusal Device disk = Unit {0}
ExplainsRefusal Memory disk = Unit {0}

-- the tables in the blocks of a set follow the rules of map and bitmaps
pub record FollowsRules (g : Shape) (l : Sizes) (reported bytes : List ℕ) : Type 0 where
  pub map : bad_chunk g l [] 0 (entries_in l bytes) ≡ None
  pub bits : bad_bit g (slice_index reported) (tables_in g l bytes) ≡ None

-- What holds of an examined volume, whatever the disk tells: both sets stand where the layout puts
-- them, these are the used blocks of the chosen one, there is a pointer and a flag for each zone, the tables
-- follow the rules, and the flags say which zones they name.
pub record IsUsable (g : Shape) (c : Chosen) (bytes reported : List ℕ) (named : List Bool) : Type 0 where
  pub placed : IsPlacedChoice g c
  pub size : length bytes ≡ 4096 * used_blocks g c.head.layout
  pub count : length reported ≡ zone_count g
  pub map : MapFollowsRules g c.head.layout (entries_in c.head.layout bytes)
  pub bits : BitsFollowRules g (slice_index reported) (tables_in g c.head.layout bytes)
  pub within : (z : ℕ) → slice_index reported z ≤ zone_sectors g
  pub flags : named ≡ named_flags g (tables_in g c.head.layout bytes)

-- which rule they break first, where that is the fault
abbrev pub BreaksTableRule : Shape → Sizes → List ℕ → List ℕ → OpenFault → Type 0
BreaksTableRule g l reported bytes NoSuperBlock = ⊥
BreaksTableRule g l reported bytes Layout = ⊥
BreaksTableRule g l reported bytes (BadMap chunk) = bad_chunk g l [] 0 (entries_in l bytes) ≡ Some chunk
BreaksTableRule g l reported bytes (BadBits zone block) =
    (bad_chunk g l [] 0 (entries_in l bytes) ≡ None)
    × (bad_bit g (slice_index reported) (tables_in g l bytes) ≡ Some (zone, block))
BreaksTableRule g l reported bytes Device = ⊥
BreaksTableRule g l reported bytes Memory = Unit {0}
