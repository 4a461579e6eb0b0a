-- A volume with new heads.
use Rattle.std.specs.Prelude.{◌≡◌, ◌⊎◌, ℕ, ◌+◌, ◌-◌, ◌<◌, ◌≤◌, ◌^◌, Some, Result, Ok, Err}
use Rattle.zd_disk.specs.Told.{WhereTold}
use Rattle.zd_disk.specs.View.{View, Holds, IsDurable, MadeOf, Turns}
use Rattle.zd_examine.specs.Examined.{IsUsable}
use Rattle.zd_examine.specs.Opened.{IsOpened, IsOpening, open_calls}
use Rattle.zd_examine.specs.declared.examining.Image.{Image as Volume}
use Rattle.zd_model.specs.Image.{Image, Same}
use Rattle.zd_model.specs.Volume.{Chosen, IsWellFormed, content}
use Rattle.zd_model.specs.declared.metadata.Super.{Super}
use Rattle.zd_sets.specs.Choice.{chosen_of}
use Rattle.zd_sets.specs.Equal.{IsSameHead}
use Rattle.zd_repair.specs.Heads.{HoldsHeads, LeavesHeads}

-- the disk that an answer hands back
abbrev pub disk_in : {D E : Type 0} → Result D (E × D) → D
disk_in (Ok disk) = disk
disk_in (Err e) = e.1

-- the volume was opened, and nothing else was done
abbrev pub IsOnlyOpened : View → View → Type 0
IsOnlyOpened u w = (v : Volume) × IsOpening v u w

-- new is well-formed by a set with this head, but for its own number, which serves from it what set c serves from
-- old
pub record ServesWith (head : Super) (c : Chosen) (old new : Image) : Type 0 where
  pub set : Chosen
  pub well_formed : IsWellFormed new set
  pub same_head : IsSameHead set.head head
  pub same : content new set ≡ content old c

-- with one of two heads
abbrev pub ServesWithEither : Super → Super → Chosen → Image → Image → Type 0
ServesWithEither head other c old new = ServesWith head c old new ⊎ ServesWith other c old new

-- both are well-formed, with the same content, and the head of the new one is that of the old one changed so
abbrev pub IsVolumeWith : (Super → Super) → Image → Image → Type 0
IsVolumeWith change old new = (c : Chosen) × IsWellFormed old c × ServesWith (change c.head) c old new

-- or that of the old one is as it was
abbrev pub IsVolumeBut : (Super → Super) → Image → Image → Type 0
IsVolumeBut change old new =
    (c : Chosen) × IsWellFormed old c × ServesWithEither c.head (change c.head) c old new

-- the new one holds the same, or it is such a volume
abbrev pub IsKeptBut : (Super → Super) → Image → Image → Type 0
IsKeptBut change old new = Same old new ⊎ IsVolumeBut change old new

-- a stop may leave the new one: it holds the same as one that it could leave before, or it is such a volume for what
-- the disk read as
abbrev pub IsLeftOrBut : (Super → Super) → Image → Image → Image → Type 0
IsLeftOrBut change reads old new = Same old new ⊎ IsVolumeBut change reads new

-- from this moment on each image that a stop may leave holds the same as what the disk read as, or is such a volume
pub record KeepsFromBut (change : Super → Super) (from : ℕ) (u v : View) : Type 0 where
  pub left : v.calls < 2 ^ 64 - 1 → WhereTold u.zones (λ old. (k : ℕ) (new : Image) → from ≤ k → k ≤ v.calls
      → v.left k new → IsKeptBut change old new)

-- The heads of a volume are changed, by what the disk told before and tells now: the volume was opened, and
-- then both super blocks were written in their order, where the calls up to `done` did their work. It was of this
-- version, and its generation could rise.
pub record ChangesHeads (version : ℕ) (change : Super → Super) (done : ℕ) (u w : View) : Type 0 where
  -- as it was opened
  pub volume : Volume
  pub told : w.told ≡ Some volume.geometry
  pub usable : IsUsable volume.geometry volume.chosen volume.blocks volume.pointers.items volume.named.items
  pub opened : Turns (IsOpened volume.geometry volume.chosen volume.blocks volume.pointers.items
      volume.named.items) u w
  pub version_is : volume.chosen.head.version ≡ version
  pub rises : volume.chosen.head.generation + 1 < 2 ^ 64
  -- how the heads stand from the end of opening on
  pub heads : w.calls < 2 ^ 64 - 1 → WhereTold u.zones (λ old.
      LeavesHeads (u.calls + open_calls volume.chosen old) done volume.geometry volume.chosen.head
      (change volume.chosen.head) volume.blocks w)
  -- so that a stop leaves the same volume with one of both
  pub kept : w.calls < 2 ^ 64 - 1 → WhereTold u.zones (λ old. (k : ℕ) (i : Image) →
      u.calls + open_calls volume.chosen old ≤ k → k ≤ w.calls → w.left k i →
      ServesWithEither volume.chosen.head (change volume.chosen.head) (chosen_of volume.chosen) old i)

-- and they have changed
pub record HasChangedHeads (version : ℕ) (change : Super → Super) (u w : View) : Type 0 where
  pub changes : ChangesHeads version change w.calls u w
  pub heads : Holds (HoldsHeads changes.volume.geometry changes.volume.chosen.head.layout
      (change changes.volume.chosen.head) (change changes.volume.chosen.head) changes.volume.blocks) w
  pub is_volume : Turns (IsVolumeWith change) u w
  pub durable : IsDurable w
  -- four calls after those of opening
  pub counted : MadeOf (λ old. open_calls changes.volume.chosen old + 4) u w
