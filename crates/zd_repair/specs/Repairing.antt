-- A disk that is repaired: what is left of it at the end, and what a stop leaves.
use Rattle.std.specs.Prelude.{◌≡◌, ◌⊎◌, ℕ, ◌+◌, ◌-◌, ◌*◌, ◌<◌, ◌≤◌, ◌^◌, length, Some, None, Result, Ok, Err}
use Rattle.zd_base.specs.Geometry.{Shape}
use Rattle.zd_base.specs.Layout.{set_zones, used_blocks}
use Rattle.zd_disk.specs.Told.{Both, WhereTold}
use Rattle.zd_disk.specs.View.{View, HasFailed, IsDurable, MadeOf, Turns}
use Rattle.zd_examine.specs.Examined.{IsPlacedSet}
use Rattle.zd_examine.specs.Opened.{IsFlushed}
use Rattle.zd_model.specs.Image.{Image, Same, set_block}
use Rattle.zd_model.specs.Tables.{Tables}
use Rattle.zd_model.specs.Volume.{Chosen as Set, IsWellFormed, chosen, first_set, good_super, tables_of}
use Rattle.zd_model.specs.declared.metadata.Super.{Super}
use Rattle.zd_sets.specs.Calls.{differ, equal_calls, passing}
use Rattle.zd_sets.specs.Choice.{IsChoice, IsMisplaced, chosen_of}
use Rattle.zd_sets.specs.Equal.{InSet, IsSameHead, OnlyAt, head_at}
use Rattle.zd_sets.specs.Stages.{next_head}
use Rattle.zd_sets.specs.declared.choice.Chosen.{Chosen}
use Rattle.zd_repair.specs.Committed.{InBothSets}
use Rattle.zd_repair.specs.Repaired.{CountsDropped, IsLeftOf, IsNothing}
use Rattle.zd_repair.specs.declared.repairing.RepairFault.{RepairFault}
use Rattle.zd_repair.specs.declared.repairing.RepairFault.TheVariants.{NoSuperBlock, Layout, Device, Generation, Memory}
use Rattle.zd_repair.specs.declared.tables.Repaired.{Repaired}

-- what is left of the tables of set c, where what is wrong in them is dropped
abbrev pub AreLeft : Set → Image → Tables → Type 0
AreLeft c image left = IsLeftOf image.geometry c.head.layout image.held (tables_of image c) left

-- something is wrong in them: what is left has an entry for each chunk and no other
pub record HasWrong (c : Set) (image : Image) : Type 0 where
  pub dropped : Repaired
  pub left : Tables
  pub count : length left.entries ≡ c.head.layout.chunks
  pub tables : AreLeft c image left
  pub counts : CountsDropped image.geometry c.head.layout (tables_of image c) left dropped
  pub some : IsNothing dropped → ⊥

-- a set is chosen that has this head, but for its own number, and such tables, and no other super block can be meant
pub record ChoosesWith (head : Super) (P : Tables → Type 0) (image : Image) : Type 0 where
  pub set : Set
  pub placed : IsPlacedSet image set
  pub same_head : IsSameHead set.head head
  pub tables : P (tables_of image set)

-- The repair of an image of which set c is chosen has come so far: used blocks of both sets changed alone, and the
-- chosen set has the head and the tables of c; or something was wrong in these, and it has the next head and what is
-- left of them.
pub record IsPartOfRepair (c : Set) (old new : Image) : Type 0 where
  pub only : OnlyAt (InBothSets old.geometry c.head.layout) old new
  pub chooses : ChoosesWith c.head (λ t. t ≡ tables_of old c) new
      ⊎ (HasWrong c old × ChoosesWith (next_head c.head) (AreLeft c old) new)

-- a set is chosen of old, and its repair has come so far
abbrev pub IsPartlyRepaired : Image → Image → Type 0
IsPartlyRepaired old new = (c : Set) × IsPlacedSet old c × IsPartOfRepair c old new

-- the new one holds the same, or is partly repaired
abbrev pub IsSameOrPart : Image → Image → Type 0
IsSameOrPart old new = Same old new ⊎ IsPartlyRepaired old new

-- a stop may leave the new one: it holds the same as one that it could leave before, or is what the disk read as,
-- partly repaired
abbrev pub IsLeftOrPart : Image → Image → Image → Type 0
IsLeftOrPart reads old new = Same old new ⊎ IsPartlyRepaired reads new

-- from this moment on each image that a stop may leave holds the same as what the disk read as, or is that, partly
-- repaired
pub record KeepsPartFrom (from : ℕ) (u v : View) : Type 0 where
  pub left : v.calls < 2 ^ 64 - 1 → WhereTold u.zones (λ old. (k : ℕ) (new : Image) → from ≤ k → k ≤ v.calls
      → v.left k new → IsSameOrPart old new)

-- set 0, where both sets have this head
abbrev pub equal_set : Shape → Super → Set
equal_set g head = first_set (set_zones g head.layout) (head_at g 0 head)

-- both sets have this head, each with its own number, and the same used blocks behind it, and set 0 is chosen
pub record HasEqualSets (g : Shape) (head : Super) (image : Image) : Type 0 where
  pub is_chosen : chosen image ≡ Some (equal_set g head)
  pub second : good_super image (set_zones g head.layout) ≡ Some (head_at g (set_zones g head.layout) head)
  pub each : (k : ℕ) → 1 ≤ k → k < used_blocks g head.layout →
      set_block image (set_zones g head.layout) k ≡ set_block image 0 k

-- the head stays where nothing was dropped; else it is the next one
abbrev pub IsHeadAfter : Repaired → Super → Super → Type 0
IsHeadAfter dropped old new = (IsNothing dropped × (new ≡ old))
    ⊎ ((IsNothing dropped → ⊥) × (old.generation + 1 < 2 ^ 64) × (new ≡ next_head old))

-- An image of which set c is chosen was repaired: both sets are equal, with what is left of the tables of c, a
-- well-formed volume, and no block changed but used blocks of both sets. So much was wrong.
pub record IsRepair (c : Set) (dropped : Repaired) (old new : Image) : Type 0 where
  pub only : OnlyAt (InBothSets old.geometry c.head.layout) old new
  pub head : Super
  pub head_is : IsHeadAfter dropped c.head head
  pub sets : HasEqualSets old.geometry head new
  pub well_formed : IsWellFormed new (equal_set old.geometry head)
  pub left : AreLeft c old (tables_of new (equal_set old.geometry head))
  pub counts : CountsDropped old.geometry c.head.layout (tables_of old c) (tables_of new (equal_set old.geometry head))
      dropped

-- how many used blocks of the chosen set, from block 1 on, differ from those that both sets have then
abbrev pub changed_blocks : Chosen → Image → Image → ℕ
changed_blocks c old new = passing (λ k. differ (set_block old c.zone k) (set_block new 0 k)) 1
    (used_blocks old.geometry c.head.layout)

-- the writing calls from the flush on: those that make the other set equal; and where something was dropped, for
-- each set a write for each block that changes, a flush, a write of its super block, and a flush
pub record CountsRepair (c : Chosen) (dropped : Repaired) (from to : ℕ) (old new : Image) : Type 0 where
  pub nothing : IsNothing dropped → to ≡ from + equal_calls c (used_blocks old.geometry c.head.layout) old
  pub something : (IsNothing dropped → ⊥) →
      to ≡ from + equal_calls c (used_blocks old.geometry c.head.layout) old + 2 * changed_blocks c old new + 6

-- the same of a disk whose chosen set was found
pub record HasMended (c : Chosen) (dropped : Repaired) (u v : View) : Type 0 where
  pub repaired : Turns (IsRepair (chosen_of c) dropped) u v
  pub durable : IsDurable v
  pub counted : v.calls < 2 ^ 64 - 1 → Both u.zones v.zones (CountsRepair c dropped u.calls v.calls)

-- by what the disk told before and tells now
pub record HasRepaired (dropped : Repaired) (u v : View) : Type 0 where
  pub repaired : Turns (λ old new. (c : Set) × IsPlacedSet old c × IsRepair c dropped old new) u v
  pub durable : IsDurable v
  pub counted : v.calls < 2 ^ 64 - 1 → Both u.zones v.zones (λ old new.
      (c : Chosen) × IsChoice c old × CountsRepair c dropped (u.calls + 1) v.calls old new)

-- the other set was made equal to set c
pub record IsMadeSame (c : Chosen) (old new : Image) : Type 0 where
  pub only : OnlyAt (InSet old.geometry c.other 0 (used_blocks old.geometry c.head.layout)) old new
  pub sets : HasEqualSets old.geometry c.head new
  pub tables : tables_of new (equal_set old.geometry c.head) ≡ tables_of old (chosen_of c)

-- and nothing else was done since the chosen set was found
pub record IsOnlyEqual (c : Chosen) (u v : View) : Type 0 where
  pub equal : Turns (IsMadeSame c) u v
  pub durable : IsDurable v
  pub counted : MadeOf (λ old. equal_calls c (used_blocks old.geometry c.head.layout) old) u v

-- as something is wrong, and its generation is the last
pub record CannotMend (c : Chosen) (u v : View) : Type 0 where
  pub last : c.head.generation ≡ 2 ^ 64 - 1
  pub wrong : WhereTold u.zones (HasWrong (chosen_of c))
  pub done : IsOnlyEqual c u v

-- what a repair that failed did then
abbrev pub MendLeaves : Chosen → View → View → RepairFault → Type 0
MendLeaves c u v NoSuperBlock = ⊥
MendLeaves c u v Layout = ⊥
MendLeaves c u v Device = HasFailed u v
MendLeaves c u v Generation = CannotMend c u v
MendLeaves c u v Memory = IsOnlyEqual c u v

-- why no set was found
abbrev pub ExplainsFind : RepairFault → Image → Type 0
ExplainsFind NoSuperBlock image = chosen image ≡ None
ExplainsFind Layout image = (c : Set) × (chosen image ≡ Some c) × IsMisplaced image c
ExplainsFind Device image = Unit {0}
ExplainsFind Generation image = ⊥
ExplainsFind Memory image = Unit {0}

-- the faults of that
abbrev pub IsFindFault : RepairFault → Type 0
IsFindFault NoSuperBlock = Unit {0}
IsFindFault Layout = Unit {0}
IsFindFault Device = Unit {0}
IsFindFault Generation = ⊥
IsFindFault Memory = Unit {0}

-- the same of a disk that was flushed first
pub record HasOnlyEqualled (u v : View) : Type 0 where
  pub equal : Turns (λ old new. (c : Chosen) × IsChoice c old × IsMadeSame c old new) u v
  pub durable : IsDurable v
  pub counted : v.calls < 2 ^ 64 - 1 → WhereTold u.zones (λ old. (c : Chosen) × IsChoice c old
      × (v.calls ≡ u.calls + 1 + equal_calls c (used_blocks old.geometry c.head.layout) old))

-- why an image wasn't repaired
abbrev pub ExplainsRepair : RepairFault → Image → Type 0
ExplainsRepair NoSuperBlock image = chosen image ≡ None
ExplainsRepair Layout image = (c : Set) × (chosen image ≡ Some c) × IsMisplaced image c
ExplainsRepair Device image = Unit {0}
ExplainsRepair Generation image =
    (c : Set) × IsPlacedSet image c × (c.head.generation ≡ 2 ^ 64 - 1) × HasWrong c image
ExplainsRepair Memory image = Unit {0}

-- the disk that an answer hands back
abbrev pub disk_after : {D : Type 0} → Result (Repaired × D) (RepairFault × D) → D
disk_after (Ok r) = r.1
disk_after (Err e) = e.1

-- what was done then
abbrev pub RepairLeaves : RepairFault → View → View → Type 0
RepairLeaves NoSuperBlock u v = IsFlushed u v
RepairLeaves Layout u v = IsFlushed u v
RepairLeaves Device u v = HasFailed u v
RepairLeaves Generation u v = HasOnlyEqualled u v
RepairLeaves Memory u v = IsFlushed u v ⊎ HasOnlyEqualled u v
