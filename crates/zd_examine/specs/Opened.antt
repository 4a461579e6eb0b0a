-- What opening makes of a disk, and what it leaves of it.
use Rattle.std.specs.Prelude.{◌≡◌, ◌⊎◌, ℕ, ◌+◌, ◌-◌, ◌%◌, ◌<◌, ◌≤◌, ◌^◌, Bool, true, false, List, Some, slice_index, slice_index_or}
use Rattle.zd_base.specs.Geometry.{Shape}
use Rattle.zd_base.specs.Layout.{set_zones, used_blocks}
use Rattle.zd_disk.specs.Told.{next_count, WhereTold}
use Rattle.zd_disk.specs.View.{View, Holds, IsDurable, MadeOf, Turns}
use Rattle.zd_model.specs.Image.{Image, Same, SameZone, set_block}
use Rattle.zd_model.specs.Tables.{BitsFollowRules, served}
use Rattle.zd_model.specs.Volume.{Chosen as Set, IsWellFormed, content, good_super, tables_of}
use Rattle.zd_model.specs.declared.metadata.Super.{Super}
use Rattle.zd_sets.specs.Blocks.{blocks_of}
use Rattle.zd_sets.specs.Calls.{equal_calls}
use Rattle.zd_sets.specs.Choice.{chosen_of}
use Rattle.zd_sets.specs.Equal.{head_at}
use Rattle.zd_sets.specs.Kept.{ServesSame}
use Rattle.zd_sets.specs.declared.choice.Chosen.{Chosen}
use Rattle.zd_examine.specs.Examined.{ArePointers, IsUsable}
use Rattle.zd_examine.specs.Padded.{ArePadsAscending, HasPad, IsShortOf, named_flags, needs_pad, pad_count}
use Rattle.zd_tables.specs.Tables.{tables_in}
use Rattle.zd_examine.specs.declared.examining.Image.{Image as Volume}
use Rattle.zd_examine.specs.declared.examining.OpenFault.{OpenFault}
use Rattle.zd_examine.specs.declared.examining.OpenFault.TheVariants.{Device, Memory}

-- the disk was a volume, and reads so now that it is opened: these tables serve its content from it, and each
-- sequential zone is as it was, with its pad where it needed one
pub record IsOpened (g : Shape) (c : Chosen) (bytes reported : List ℕ) (named : List Bool)
    (old new : Image) : Type 0 where
  pub geometry : g ≡ new.geometry
  pub stays : new.geometry ≡ old.geometry
  pub well_formed : IsWellFormed old (chosen_of c)
  pub served : served g.zone_blocks (tables_in g c.head.layout bytes) new.sector
      ≡ content old (chosen_of c)
  pub pointers : ArePointers new reported
  pub pads : (z : ℕ) → needs_pad named old z ≡ true → HasPad old new z
  pub others : (z : ℕ) → old.geometry.conv ≤ z → needs_pad named old z ≡ false → SameZone old new z

-- the pointers of the sequential zones that are named stand at blocks' ends
pub record AreWhole (g : Shape) (named : List Bool) (reported : List ℕ) : Type 0 where
  pub whole : (z : ℕ) → g.conv ≤ z → slice_index_or named z false ≡ true → slice_index reported z % 8 ≡ 0

-- the set that begins in this zone has a good super block with the fields of this head and its own number,
-- and behind it these blocks, up to block `used`
pub record HoldsSet (g : Shape) (first used : ℕ) (head : Super) (bytes : List ℕ) (image : Image) : Type 0 where
  pub super : good_super image first ≡ Some (head_at g first head)
  pub each : (k : ℕ) → 1 ≤ k → k < used → set_block image first k ≡ blocks_of bytes k 1

-- both sets have the chosen head and these blocks
pub record HoldsBothSets (g : Shape) (c : Chosen) (bytes : List ℕ) (image : Image) : Type 0 where
  pub first : HoldsSet g 0 (used_blocks g c.head.layout) c.head bytes image
  pub second : HoldsSet g (set_zones g c.head.layout) (used_blocks g c.head.layout) c.head bytes image

-- the tables in these blocks serve from new the content of old, and no valid block ends above new's pointers
pub record ServesContent (g : Shape) (c : Chosen) (bytes : List ℕ) (old new : Image) : Type 0 where
  pub served : served g.zone_blocks (tables_in g c.head.layout bytes) new.sector
      ≡ content old (chosen_of c)
  pub bits : BitsFollowRules g new.held (tables_in g c.head.layout bytes)

-- both are well-formed, with the same content
abbrev pub IsSameVolume : Image → Image → Type 0
IsSameVolume old new = (c : Set) × IsWellFormed old c × ServesSame c old new

-- the new one holds the same, or it is the same volume
abbrev pub IsKept : Image → Image → Type 0
IsKept old new = Same old new ⊎ IsSameVolume old new

-- a stop may leave the new one: it holds the same as one that it could leave before, or it is the volume
-- that the disk read as
abbrev pub IsLeftOrKept : Image → Image → Image → Type 0
IsLeftOrKept reads old new = Same old new ⊎ IsSameVolume reads new

-- from this moment on each image that a stop may leave holds the same as what the disk read as, or is the
-- same volume
pub record KeepsFrom (from : ℕ) (u v : View) : Type 0 where
  pub left : v.calls < 2 ^ 64 - 1 → WhereTold u.zones (λ old. (k : ℕ) (new : Image) → from ≤ k → k ≤ v.calls
      → v.left k new → IsKept old new)

-- the disk had one writing call, after which it holds the same
pub record IsFlushed (u v : View) : Type 0 where
  pub holds : Turns Same u v
  pub counted : v.calls ≡ next_count u.calls

-- the image is no volume
abbrev pub IsRefusal : OpenFault → Type 0
IsRefusal Device = ⊥
IsRefusal Memory = ⊥
IsRefusal fault = Unit {0}

-- the flags of the zones that the map of a set names
abbrev pub flags_in : Image → Set → List Bool
flags_in image c = named_flags image.geometry (tables_of image c)

-- the writing calls of an opening up to its pads: a flush, and those that make the other set equal
abbrev pub set_calls : Chosen → Image → ℕ
set_calls c image = 1 + equal_calls c (used_blocks image.geometry c.head.layout) image

-- and with the pads, one call each
abbrev pub open_calls : Chosen → Image → ℕ
open_calls c image = set_calls c image + pad_count (flags_in image (chosen_of c)) image

-- a stop may leave what the disk reads as, but that sectors at the ends of sequential zones may lack
pub record IsAlmostDurable (v : View) : Type 0 where
  pub left : v.calls < 2 ^ 64 - 1 → WhereTold v.zones (λ i. (other : Image) → v.left v.calls other → IsShortOf i other)

-- this is the volume that was opened, by what the disk told before and tells now: what it reads as, what a
-- stop may leave of it now and while zones are padded, and how many writing calls there were
pub record IsOpening (v : Volume) (u w : View) : Type 0 where
  pub told : w.told ≡ Some v.geometry
  pub usable : IsUsable v.geometry v.chosen v.blocks v.pointers.items v.named.items
  pub whole : AreWhole v.geometry v.named.items v.pointers.items
  pub opened : Turns (IsOpened v.geometry v.chosen v.blocks v.pointers.items v.named.items) u w
  pub sets : Holds (HoldsBothSets v.geometry v.chosen v.blocks) w
  pub leaves : w.calls < 2 ^ 64 - 1 → WhereTold u.zones (λ old. (i : Image) → w.left w.calls i →
      ServesContent v.geometry v.chosen v.blocks old i)
  pub almost_durable : IsAlmostDurable w
  -- where no zone needs a pad a stop leaves nothing else
  pub durable : WhereTold u.zones (λ old.
      pad_count (flags_in old (chosen_of v.chosen)) old ≡ 0 → IsDurable w)
  pub ascending : w.calls < 2 ^ 64 - 1 → WhereTold u.zones (λ old.
      ArePadsAscending v.named.items old (u.calls + set_calls v.chosen old) w)
  pub counted : MadeOf (open_calls v.chosen) u w
