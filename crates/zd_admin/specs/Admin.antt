-- What a run is promised to do and to tell.
use Rattle.std.specs.Prelude.{◌≡◌, ◌⊎◌, ℕ, ◌+◌, List, replicate, Option}
use Rattle.zd_base.specs.Geometry.{Shape}
use Rattle.zd_base.specs.Layout.{formatted}
use Rattle.zd_check.specs.Verdicts.{IsVerdict}
use Rattle.zd_check.specs.declared.comparing.Verdict.{Verdict}
use Rattle.zd_check.specs.declared.comparing.Verdict.TheVariants.{Same}
use Rattle.zd_disk.specs.Told.{WhereTold}
use Rattle.zd_disk.specs.View.{HasFailed, Holds, Keeps, OnlyReads, ReachesBy, View}
use Rattle.zd_examine.specs.Opened.{IsFlushed}
use Rattle.zd_format.specs.Fresh.{IsFresh, IsUnfit}
use Rattle.zd_model.specs.Image.{Image}
use Rattle.zd_model.specs.Volume.{WellFormed}
use Rattle.zd_model.specs.declared.metadata.Super.{Super as Head}
use Rattle.zd_repair.specs.Reheaded.{HasChangedHeads, IsKeptBut, IsLeftOrBut, IsOnlyOpened, KeepsFromBut}
use Rattle.zd_repair.specs.Relabeled.{relabeled}
use Rattle.zd_repair.specs.Repairing.{ExplainsRepair, HasOnlyEqualled, HasRepaired, IsLeftOrPart, IsSameOrPart, KeepsPartFrom}
use Rattle.zd_repair.specs.Upgraded.{upgraded}
use Rattle.zd_repair.specs.declared.repairing.RepairFault.TheVariants as repairs
use Rattle.zd_repair.specs.declared.tables.Repaired.{Repaired as Dropped}
use Rattle.zd_tell.specs.Stages.{EndsIn, RunStage}
use Rattle.zd_tell.specs.Telling.{IsDone, TellsMessage}
use Rattle.zd_admin.specs.Words.{Asks, AsksCheck, AsksFormat, AsksRelabel, AsksUpgrade}
use Rattle.zd_admin.specs.Output.{IsFixedOutput, admin_status, admin_telling}
use Rattle.zd_admin.specs.Ends.{AdminCause, AdminMayEnd, IsAdminDecided, IsAtLast, IsOfVersion, IsOpenedFor, admin_course}
use Rattle.zd_admin.specs.declared.outcome.Outcome.{Outcome}
use Rattle.zd_admin.specs.declared.outcome.Outcome.TheVariants.{Done, NoVolume, Generation, Unfit, Old, NotOld}
use Rattle.zd_admin.specs.declared.words.Asked.{Asked}
use Rattle.zd_admin.specs.declared.words.Asked.TheVariants.{Format, Check, Repair, Relabel, Show, Upgrade}

-- a run ended in a stage with an outcome, whose cause holds, and told of it
pub record AdminReports
    (words : List (List ℕ)) (zones : Option Image) (told : Option Shape) (status : ℕ)
    (held after : Option (List ℕ)) (faults now : ℕ) : Type 0 where
  pub stage : RunStage
  pub outcome : Outcome
  pub ends : EndsIn (admin_course words zones told) stage outcome
  pub statuses : AdminMayEnd stage status
  pub tells : TellsMessage (admin_telling outcome) (IsFixedOutput outcome) status held after faults now

-- a label of no letters
unfoldable pub no_label : List ℕ
no_label = replicate 32 0

-- a volume that nobody wrote, with so many reserved zones, no label and this identifier
abbrev pub WasMade : ℕ → List ℕ → Image → Type 0
WasMade reserved volume image =
    IsFresh reserved no_label volume (formatted image.geometry reserved) image

-- what was asked for was done: the disk is the volume that was to be made, also after a stop; it was a volume both
-- of whose sets are the same; it is a volume without what was wrong; it was a volume; or it is the volume that it was,
-- with the new head in both sets
abbrev pub WasDone : Asked → View → View → Type 0
WasDone (Format reserved volume) u v = Holds (WasMade reserved volume) v
WasDone Check u v = WhereTold u.zones (λ image. IsVerdict image Same)
WasDone Repair u v = (dropped : Dropped) × HasRepaired dropped u v
WasDone Show u v = WhereTold u.zones WellFormed
WasDone (Relabel label) u v = HasChangedHeads 2 (relabeled label) u v
WasDone (Upgrade volume) u v = HasChangedHeads 1 (upgraded no_label volume) u v

-- what was done where the disk is no volume: nothing was written, or it had one flush and no write
abbrev pub LeavesRefused : Asked → View → View → Type 0
LeavesRefused (Format reserved volume) u v = ⊥
LeavesRefused Check u v = OnlyReads u v
LeavesRefused Show u v = OnlyReads u v
LeavesRefused asked u v = IsFlushed u v

-- it needs a next generation, and there is none
abbrev pub IsLastFor : Asked → Image → Type 0
IsLastFor Repair image = ExplainsRepair repairs.Generation image
IsLastFor (Relabel label) image = IsAtLast 2 image
IsLastFor (Upgrade volume) image = IsAtLast 1 image
IsLastFor asked image = ⊥

-- what was done then: both sets were made equal, or the volume was opened, and nothing else
abbrev pub LeavesLast : Asked → View → View → Type 0
LeavesLast Repair u v = HasOnlyEqualled u v
LeavesLast (Relabel label) u v = IsOnlyOpened u v
LeavesLast (Upgrade volume) u v = IsOnlyOpened u v
LeavesLast asked u v = ⊥

-- what was done where it ended so
abbrev pub AskedLeaves : Asked → Outcome → View → View → Type 0
AskedLeaves asked (Done work) u v = WasDone asked u v
AskedLeaves asked (NoVolume kind) u v = LeavesRefused asked u v
AskedLeaves asked Generation u v = LeavesLast asked u v
AskedLeaves asked Unfit u v = OnlyReads u v
AskedLeaves asked Old u v = IsOnlyOpened u v
AskedLeaves asked NotOld u v = IsOnlyOpened u v
AskedLeaves asked outcome u v = Unit {0}

-- what is kept where the heads of a volume are changed so, at each moment and at any answer: what the disk reads as and
-- what a stop leaves is the same volume, with the old head or the new one; where a stop before would not have left
-- what the disk read as, that is so from the end of the first flush on, if it was answered
pub record KeepsHeads (change : Head → Head) (flushed : Type 0) (u v : View) : Type 0 where
  pub way : ReachesBy (IsLeftOrBut change) u v
  pub kept : Keeps (IsKeptBut change) u v
  pub settled : flushed → KeepsFromBut change (u.calls + 1) u v

-- and where a disk is repaired: each image is the one before, or partly repaired, which no repair refuses
pub record KeepsRepair (flushed : Type 0) (u v : View) : Type 0 where
  pub way : ReachesBy IsLeftOrPart u v
  pub kept : Keeps IsSameOrPart u v
  pub settled : flushed → KeepsPartFrom (u.calls + 1) u v

-- what is kept at any answer: checking and showing write nothing
abbrev pub KeepsAsked : Asked → Type 0 → View → View → Type 0
KeepsAsked (Format reserved volume) flushed u v = Unit {0}
KeepsAsked Check flushed u v = OnlyReads u v
KeepsAsked Repair flushed u v = KeepsRepair flushed u v
KeepsAsked Show flushed u v = OnlyReads u v
KeepsAsked (Relabel label) flushed u v = KeepsHeads (relabeled label) flushed u v
KeepsAsked (Upgrade volume) flushed u v = KeepsHeads (upgraded no_label volume) flushed u v

-- how it ends, whichever words ask for it: in a stage with an outcome, whose cause holds
abbrev pub EndsAsked : Asked → View → View → Outcome → Type 0
EndsAsked asked u v outcome = (words : List (List ℕ)) → Asks words asked →
    (stage : RunStage) × EndsIn (admin_course words u.zones v.told) stage outcome

-- what the words ask for was done
abbrev pub WasDoneBy : List (List ℕ) → View → View → Type 0
WasDoneBy words u v = (asked : Asked) × Asks words asked × WasDone asked u v

-- the words ask for what can't be done, as the disk is no volume
pub record IsRefusedBy (words : List (List ℕ)) (u v : View) : Type 0 where
  pub asked : Asked
  pub asks : Asks words asked
  pub no_volume : WhereTold u.zones (λ image. IsOpenedFor asked image → ⊥)
  pub leaves : LeavesRefused asked u v

-- the words ask for a change of a volume whose generation is the last one
pub record IsLastBy (words : List (List ℕ)) (u v : View) : Type 0 where
  pub asked : Asked
  pub asks : Asks words asked
  pub last : WhereTold u.zones (IsLastFor asked)
  pub leaves : LeavesLast asked u v

-- the words ask for a new label of a volume of version 1, or for the upgrade of one of version 2; it was opened
abbrev pub IsOldBy : List (List ℕ) → View → View → Type 0
IsOldBy words u v = (label : List ℕ) × AsksRelabel words label × WhereTold u.zones (IsOfVersion 1)
    × IsOnlyOpened u v

abbrev pub IsNotOldBy : List (List ℕ) → View → View → Type 0
IsNotOldBy words u v = (volume : List ℕ) × AsksUpgrade words volume × WhereTold u.zones (IsOfVersion 2)
    × IsOnlyOpened u v

-- the words ask to check a volume whose sets differ
pub record DiffersBy (words : List (List ℕ)) (zones : Option Image) : Type 0 where
  pub asks : AsksCheck words
  pub differs : WhereTold zones (λ image.
      (verdict : Verdict) × IsVerdict image verdict × (verdict ≡ Same → ⊥))

-- the disk has no room for the volume for which the words ask
abbrev pub IsUnfitBy : List (List ℕ) → Option Shape → Type 0
IsUnfitBy words told = (reserved : ℕ) × (volume : List ℕ) × AsksFormat words reserved volume
    × IsUnfit reserved told

-- what the status says of words and disk: all was done; the disk is no volume; it failed; its generation is the last;
-- its sets differ; it has no room, and nothing was written; it is of version 1 and so has no label; it is of version 2
-- already
pub record StatusSays (words : List (List ℕ)) (u v : View) (status : ℕ) : Type 0 where
  pub ok : IsDone status → WasDoneBy words u v
  pub no_volume : status ≡ 3 → IsRefusedBy words u v
  pub device : status ≡ 4 → HasFailed u v
  pub generation : status ≡ 8 → IsLastBy words u v
  pub differs : status ≡ 9 → DiffersBy words u.zones
  pub unfit : status ≡ 10 → IsUnfitBy words v.told × OnlyReads u v
  pub old : status ≡ 12 → IsOldBy words u v
  pub not_old : status ≡ 13 → IsNotOldBy words u v

-- how a run with right words ends where nothing fails: as words, geometry and image decide, unless no memory
-- is found
abbrev pub EndsWell : List (List ℕ) → Option Image → Option Shape → ℕ → Type 0
EndsWell words zones told status = (status ≡ 7) ⊎ ((outcome : Outcome) × IsAdminDecided outcome
    × (status ≡ admin_status outcome) × AdminCause words zones told outcome)
