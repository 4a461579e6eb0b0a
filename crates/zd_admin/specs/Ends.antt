-- How a run ends: in which stage, and for which cause.
use Rattle.std.specs.Prelude.{◌≡◌, ℕ, ◌+◌, ◌-◌, ◌<◌, ◌^◌, List, length, IsSome, Option}
use Rattle.zd_base.specs.Geometry.{Shape}
use Rattle.zd_base.specs.Layout.{formatted}
use Rattle.zd_check.specs.Verdicts.{IsVerdict}
use Rattle.zd_check.specs.declared.comparing.Verdict.{Verdict}
use Rattle.zd_check.specs.declared.comparing.Verdict.TheVariants as verdicts
use Rattle.zd_disk.specs.Told.{WhereTold}
use Rattle.zd_examine.specs.Examined.{ExplainsRefusal, IsPlacedSet}
use Rattle.zd_examine.specs.declared.examining.OpenFault.{OpenFault}
use Rattle.zd_examine.specs.declared.examining.OpenFault.TheVariants as faults
use Rattle.zd_format.specs.Fresh.{IsFormatted, IsUnfit}
use Rattle.zd_model.specs.Image.{Image}
use Rattle.zd_model.specs.Tables.{Tables}
use Rattle.zd_model.specs.Volume.{Chosen, IsWellFormed, WellFormed, tables_of}
use Rattle.zd_model.specs.declared.texts.NoVolume.{NoVolume as Kind}
use Rattle.zd_model.specs.declared.texts.NoVolume.TheVariants as kinds
use Rattle.zd_repair.specs.Repaired.{CountsDropped, IsNothing}
use Rattle.zd_repair.specs.Repairing.{AreLeft, ExplainsRepair}
use Rattle.zd_repair.specs.declared.repairing.RepairFault.TheVariants as repairs
use Rattle.zd_repair.specs.declared.tables.Repaired.{Repaired as Dropped}
use Rattle.zd_tell.specs.Stages.{CausesExclude, Course, MayEnd, RunStage}
use Rattle.zd_tell.specs.Stages.RunStage.{Words, Opening, Run}
use Rattle.zd_admin.specs.Words.{Asks, IsAdminCommand}
use Rattle.zd_admin.specs.Output.{admin_status}
use Rattle.zd_admin.specs.Shown.{IsStatus}
use Rattle.zd_admin.specs.declared.outcome.AdminWork.TheVariants.{Formatted, Checked, Repaired, Shown, Relabeled, Upgraded}
use Rattle.zd_admin.specs.declared.outcome.Difference.{Difference}
use Rattle.zd_admin.specs.declared.outcome.Difference.TheVariants as differences
use Rattle.zd_admin.specs.declared.outcome.Outcome.{Outcome}
use Rattle.zd_admin.specs.declared.outcome.Outcome.TheVariants.{Done, Usage, NoVolume, Device, Memory, Generation, Differs, Unfit, Old, NotOld}
use Rattle.zd_admin.specs.declared.words.Asked.{Asked}
use Rattle.zd_admin.specs.declared.words.Asked.TheVariants.{Format, Check, Repair, Relabel, Show, Upgrade}

-- the answer of examining that tells so
abbrev pub refusal_of : Kind → OpenFault
refusal_of kinds.NoSuperBlock = faults.NoSuperBlock
refusal_of kinds.Layout = faults.Layout
refusal_of (kinds.BadMap chunk) = faults.BadMap chunk
refusal_of (kinds.BadBits zone block) = faults.BadBits zone block

-- the verdict that tells so
abbrev pub verdict_of : Difference → Verdict
verdict_of (differences.Super set) = verdicts.Super set
verdict_of (differences.Block block) = verdicts.Block block

-- how formatting ends, for so many reserved zones, where the disk tells its geometry so
abbrev pub FormatEnds : ℕ → Option Shape → Outcome → Type 0
FormatEnds reserved told (Done (Formatted chunks zone_blocks)) = (g : Shape)
    × IsFormatted reserved g (formatted g reserved) told
    × (chunks ≡ (formatted g reserved).chunks) × (zone_blocks ≡ g.zone_blocks)
FormatEnds reserved told Unfit = IsUnfit reserved told
FormatEnds reserved told Device = Unit {0}
FormatEnds reserved told Memory = Unit {0}
FormatEnds reserved told outcome = ⊥

-- how work ends that didn't come further than to examine the disk, which tells its zones so
abbrev pub ExamineEnds : Option Image → Outcome → Type 0
ExamineEnds zones (NoVolume kind) = WhereTold zones (ExplainsRefusal (refusal_of kind))
ExamineEnds zones Device = Unit {0}
ExamineEnds zones Memory = Unit {0}
ExamineEnds zones outcome = ⊥

-- how checking ends
abbrev pub CheckEnds : Option Image → Outcome → Type 0
CheckEnds zones (Done Checked) = WhereTold zones (λ image. IsVerdict image verdicts.Same)
CheckEnds zones (Differs difference) = WhereTold zones (λ image. IsVerdict image (verdict_of difference))
CheckEnds zones outcome = ExamineEnds zones outcome

-- a set is chosen that can be repaired: so much is wrong in its tables, and where that isn't nothing, its generation
-- can rise
pub record CanRepair (dropped : Dropped) (image : Image) : Type 0 where
  pub set : Chosen
  pub placed : IsPlacedSet image set
  pub left : Tables
  pub count : length left.entries ≡ set.head.layout.chunks
  pub tables : AreLeft set image left
  pub counts : CountsDropped image.geometry set.head.layout (tables_of image set) left dropped
  pub rises : (IsNothing dropped → ⊥) → set.head.generation + 1 < 2 ^ 64

-- how a repair ends, which refuses no disk for its tables
abbrev pub RepairEnds : Option Image → Outcome → Type 0
RepairEnds zones (Done (Repaired dropped)) = WhereTold zones (CanRepair dropped)
RepairEnds zones Generation = WhereTold zones (ExplainsRepair repairs.Generation)
RepairEnds zones (NoVolume (kinds.BadMap chunk)) = ⊥
RepairEnds zones (NoVolume (kinds.BadBits zone block)) = ⊥
RepairEnds zones outcome = ExamineEnds zones outcome

-- how showing a volume ends
abbrev pub ShowEnds : Option Image → Outcome → Type 0
ShowEnds zones (Done (Shown status)) = WhereTold zones (λ image. IsStatus image status)
ShowEnds zones outcome = ExamineEnds zones outcome

-- a volume of this version; one whose generation can rise; and one whose generation is the last
abbrev pub IsOfVersion : ℕ → Image → Type 0
IsOfVersion version image = (c : Chosen) × IsWellFormed image c × (c.head.version ≡ version)

abbrev pub CanRise : ℕ → Image → Type 0
CanRise version image = (c : Chosen) × IsWellFormed image c × (c.head.version ≡ version)
    × (c.head.generation + 1 < 2 ^ 64)

abbrev pub IsAtLast : ℕ → Image → Type 0
IsAtLast version image = (c : Chosen) × IsWellFormed image c × (c.head.version ≡ version)
    × (c.head.generation ≡ 2 ^ 64 - 1)

-- how giving a new label ends, which a volume of version 2 can have
abbrev pub RelabelEnds : Option Image → Outcome → Type 0
RelabelEnds zones (Done Relabeled) = WhereTold zones (CanRise 2)
RelabelEnds zones Generation = WhereTold zones (IsAtLast 2)
RelabelEnds zones Old = WhereTold zones (IsOfVersion 1)
RelabelEnds zones outcome = ExamineEnds zones outcome

-- how an upgrade ends, which is for a volume of version 1
abbrev pub UpgradeEnds : Option Image → Outcome → Type 0
UpgradeEnds zones (Done Upgraded) = WhereTold zones (CanRise 1)
UpgradeEnds zones Generation = WhereTold zones (IsAtLast 1)
UpgradeEnds zones NotOld = WhereTold zones (IsOfVersion 2)
UpgradeEnds zones outcome = ExamineEnds zones outcome

-- how that ends which is asked for, over a disk that tells its zones so before, and its geometry so after
abbrev pub AskedEnds : Asked → Option Image → Option Shape → Outcome → Type 0
AskedEnds (Format reserved volume) zones told outcome = FormatEnds reserved told outcome
AskedEnds Check zones told outcome = CheckEnds zones outcome
AskedEnds Repair zones told outcome = RepairEnds zones outcome
AskedEnds Show zones told outcome = ShowEnds zones outcome
AskedEnds (Relabel label) zones told outcome = RelabelEnds zones outcome
AskedEnds (Upgrade volume) zones told outcome = UpgradeEnds zones outcome

-- it looks at what the disk reads as
abbrev pub Examines : Asked → Type 0
Examines (Format reserved volume) = ⊥
Examines asked = Unit {0}

-- what the image has to be for it
abbrev pub IsOpenedFor : Asked → Image → Type 0
IsOpenedFor (Format reserved volume) image = Unit {0}
IsOpenedFor Repair image = (c : Chosen) × IsPlacedSet image c
IsOpenedFor asked image = WellFormed image

-- the outcomes that may come while a disk is examined, and once that is done, or where nothing is examined
abbrev pub EndsExamining : Outcome → Type 0
EndsExamining (NoVolume kind) = Unit {0}
EndsExamining Device = Unit {0}
EndsExamining Memory = Unit {0}
EndsExamining outcome = ⊥

abbrev pub EndsWork : Outcome → Type 0
EndsWork Usage = ⊥
EndsWork (NoVolume kind) = ⊥
EndsWork outcome = Unit {0}

-- in which stages a run may end so: its words are no command, its disk is no volume, or the work is done
abbrev pub AdminComes : RunStage → Outcome → Type 0
AdminComes Words outcome = outcome ≡ Usage
AdminComes Opening outcome = EndsExamining outcome
AdminComes Run outcome = EndsWork outcome
AdminComes stage outcome = ⊥

-- what holds where a stage was passed: the words come first; then the disk is examined, where what they ask for
-- looks at it; and the work is the last
abbrev pub AdminPassed : List (List ℕ) → Option Image → RunStage → Type 0
AdminPassed words zones Words = IsAdminCommand words
AdminPassed words zones Opening = (asked : Asked) → Asks words asked → WhereTold zones (IsOpenedFor asked)
AdminPassed words zones Run = ⊥
AdminPassed words zones stage = Unit {0}

-- what holds where a run ends so
abbrev pub AdminCause : List (List ℕ) → Option Image → Option Shape → Outcome → Type 0
AdminCause words zones told Usage = IsAdminCommand words → ⊥
AdminCause words zones told outcome =
    (asked : Asked) × Asks words asked × AskedEnds asked zones told outcome

-- the runs by these words over a disk that tells its zones so before, and its geometry so after
abbrev pub admin_course : List (List ℕ) → Option Image → Option Shape → Course Outcome
admin_course words zones told = record {
  Comes = AdminComes;
  Passed = AdminPassed words zones;
  Cause = AdminCause words zones told;
}

-- the outcomes that words, geometry and image decide, and no count of faults and no memory
abbrev pub IsAdminDecided : Outcome → Type 0
IsAdminDecided Device = ⊥
IsAdminDecided Memory = ⊥
IsAdminDecided outcome = Unit {0}

-- one of them comes at most: so each comes exactly where its cause holds, but for faults and memory. The image
-- counts only where what the words ask for looks at it.
abbrev pub OneAdminOutcome : Type 0
OneAdminOutcome = (words : List (List ℕ)) (zones : Option Image) (told : Option Shape) →
    ((asked : Asked) → Asks words asked → Examines asked → IsSome zones) →
    CausesExclude (admin_course words zones told) IsAdminDecided

-- the statuses that a run can have that ends in this stage
abbrev pub AdminMayEnd : RunStage → ℕ → Type 0
AdminMayEnd stage status = MayEnd AdminComes admin_status stage status
