-- How what was asked for ends, by its answer.
use Rattle.std.proofs.Common.{◌≡◌, ℕ, ◌<◌, List, replicate, Option, Result, Ok, Err, IfOk, IfErr, refl, ap, subst, arith}
use Rattle.zd_base.specs.Geometry.{Shape}
use Rattle.zd_base.specs.declared.layout.Layout.{Layout}
use Rattle.zd_check.specs.Verdicts.{IsVerdict}
use Rattle.zd_check.specs.declared.comparing.Verdict.{Verdict}
use Rattle.zd_check.specs.declared.comparing.Verdict.TheVariants as verdicts
use Rattle.zd_disk.specs.Told.{WhereTold}
use Rattle.zd_disk.specs.View.{Holds, OnlyReads, View}
use Rattle.zd_disk.proofs.ViewLaws.{holds_as}
use Rattle.zd_examine.specs.Examined.{ExplainsRefusal}
use Rattle.zd_examine.specs.Opened.{IsRefusal}
use Rattle.zd_examine.specs.declared.examining.OpenFault.{OpenFault}
use Rattle.zd_examine.specs.declared.examining.OpenFault.TheVariants as faults
use Rattle.zd_format.specs.Fresh.{IsFormatted, IsFresh, IsUnfit}
use Rattle.zd_format.specs.declared.formatting.FormatFault.{FormatFault}
use Rattle.zd_format.specs.declared.formatting.FormatFault.TheVariants as formats
use Rattle.zd_format.specs.declared.formatting.Formatted.{Formatted as Made}
use Rattle.zd_model.specs.Image.{Image}
use Rattle.zd_model.specs.Volume.{WellFormed}
use Rattle.zd_tell.specs.Stages.{RunStage, stage_order}
use Rattle.zd_tell.specs.Stages.RunStage.{Words, Script, Opening, Run}
use Rattle.zd_admin.proofs.AskLaws.{asked_once}
use Rattle.zd_admin.specs.Words.{Asks}
use Rattle.zd_admin.specs.Shown.{IsStatus}
use Rattle.zd_admin.specs.Answers.{check_outcome, examine_outcome, format_outcome, status_outcome}
use Rattle.zd_admin.specs.Ends.{AdminCause, AdminPassed, AskedEnds, CheckEnds, EndsExamining, EndsWork, ExamineEnds, FormatEnds, IsOpenedFor, ShowEnds}
use Rattle.zd_admin.specs.Admin.{AskedLeaves, EndsAsked, LeavesRefused, WasMade, no_label}
use Rattle.zd_admin.specs.declared.outcome.AdminWork.TheVariants.{Formatted, Checked, Shown}
use Rattle.zd_admin.specs.declared.outcome.Outcome.{Outcome}
use Rattle.zd_admin.specs.declared.outcome.Outcome.TheVariants.{Done, Usage, Device, Memory, Differs, Unfit}
use Rattle.zd_admin.specs.declared.volume.VolumeStatus.{VolumeStatus}
use Rattle.zd_admin.specs.declared.words.Asked.{Asked}
use Rattle.zd_admin.specs.declared.words.Asked.TheVariants.{Format, Check, Show}

-- a run by these words ends in a stage
module _ (asked : Asked) (words : List (List ℕ)) (zones : Option Image) (told : Option Shape) (asks : Asks words asked) where
  cause_work : (o : Outcome) → EndsWork o → AskedEnds asked zones told o → AdminCause words zones told o
  cause_work Usage comes ends = absurd comes
  cause_work o comes ends = (asked, asks, ends)

  cause_examining : (o : Outcome) → EndsExamining o → AskedEnds asked zones told o → AdminCause words zones told o
  cause_examining Usage comes ends = absurd comes
  cause_examining o comes ends = (asked, asks, ends)

  words_before : (s : RunStage) → stage_order s < 2 → AdminPassed words zones s
  words_before Words early = (asked, asks)
  words_before Script early = tt
  words_before Opening early = absurd (omega (arith, early))
  words_before Run early = absurd (omega (arith, early))

  opened_before : WhereTold zones (IsOpenedFor asked) → (s : RunStage) → stage_order s < 3 → AdminPassed words zones s
  opened_before opened Words early = (asked, asks)
  opened_before opened Script early = tt
  opened_before opened Opening early =
      λ other others. subst (λ (a : Asked). WhereTold zones (IsOpenedFor a)) (asked_once words asked other asks others) opened
  opened_before opened Run early = absurd (omega (arith, early))

module _ (asked : Asked) (u v : View) where
  -- in its last stage, where the disk was opened for it
  pub in_run : (o : Outcome) → EndsWork o → WhereTold u.zones (IsOpenedFor asked) → AskedEnds asked u.zones v.told o → EndsAsked asked u v o
  in_run o comes opened ends words asks = (
    Run,
    record {
      comes = comes;
      earlier = opened_before asked words u.zones v.told asks opened;
      cause = cause_work asked words u.zones v.told asks o comes ends;
    },
  )

  -- and before
  pub in_opening : (o : Outcome) → EndsExamining o → AskedEnds asked u.zones v.told o → EndsAsked asked u v o
  in_opening o comes ends words asks = (
    Opening,
    record {
      comes = comes;
      earlier = words_before asked words u.zones v.told asks;
      cause = cause_examining asked words u.zones v.told asks o comes ends;
    },
  )

  -- a disk that can't be examined, or is no volume
  pub examining : ((o : Outcome) → ExamineEnds u.zones o → AskedEnds asked u.zones v.told o) → (fault : OpenFault)
      → WhereTold u.zones (ExplainsRefusal fault) → EndsAsked asked u v (examine_outcome fault)
  examining lift faults.NoSuperBlock why = in_opening (examine_outcome faults.NoSuperBlock) tt (lift (examine_outcome faults.NoSuperBlock) why)
  examining lift faults.Layout why = in_opening (examine_outcome faults.Layout) tt (lift (examine_outcome faults.Layout) why)
  examining lift (faults.BadMap chunk) why = in_opening (examine_outcome (faults.BadMap chunk)) tt (lift (examine_outcome (faults.BadMap chunk)) why)
  examining lift (faults.BadBits zone block) why =
      in_opening (examine_outcome (faults.BadBits zone block)) tt (lift (examine_outcome (faults.BadBits zone block)) why)
  examining lift faults.Device why = in_opening Device tt (lift Device tt)
  examining lift faults.Memory why = in_opening Memory tt (lift Memory tt)

  pub examining_leaves : (fault : OpenFault) → (IsRefusal fault → LeavesRefused asked u v) → AskedLeaves asked (examine_outcome fault) u v
  examining_leaves faults.NoSuperBlock leaves = leaves tt
  examining_leaves faults.Layout leaves = leaves tt
  examining_leaves (faults.BadMap chunk) leaves = leaves tt
  examining_leaves (faults.BadBits zone block) leaves = leaves tt
  examining_leaves faults.Device leaves = tt
  examining_leaves faults.Memory leaves = tt

pub examining_device : (fault : OpenFault) → examine_outcome fault ≡ Device → fault ≡ faults.Device
examining_device faults.Device e = refl
examining_device faults.NoSuperBlock e = cc
examining_device faults.Layout e = cc
examining_device (faults.BadMap chunk) e = cc
examining_device (faults.BadBits zone block) e = cc
examining_device faults.Memory e = cc

-- formatting

label_is : replicate 32 0 ≡ no_label
unfolding no_label
label_is = refl

by_rule : (reserved : ℕ) (volume : List ℕ) (layout : Layout) (image : Image)
    → IsFresh reserved (replicate 32 0) volume layout image → WasMade reserved volume image
by_rule reserved volume layout image fresh =
    subst (λ (l : Layout). IsFresh reserved no_label volume l image) fresh.numbers
    (subst (λ (label : List ℕ). IsFresh reserved label volume layout image) label_is fresh)

format_told : (reserved : ℕ) (told : Option Shape) (g : Shape) (l : Layout) → IsFormatted reserved g l told
    → FormatEnds reserved told (Done (Formatted l.chunks g.zone_blocks))
format_told reserved told g l made = (
  g,
  subst (λ (k : Layout). IsFormatted reserved g k told) made.numbers made,
  ap (λ (k : Layout). k.chunks) made.numbers,
  refl,
)

pub format_ends : (reserved : ℕ) (volume : List ℕ) (u v : View) (answer : Result Made FormatFault)
    → IfOk answer (λ made. IsFormatted reserved made.geometry made.layout v.told)
    → (answer ≡ Err formats.Unfit → IsUnfit reserved v.told) → EndsAsked (Format reserved volume) u v (format_outcome answer)
format_ends reserved volume u v (Ok made) ok unfit =
    in_run (Format reserved volume) u v (format_outcome (Ok made)) tt (λ image is. tt) (format_told reserved v.told made.geometry made.layout ok)
format_ends reserved volume u v (Err formats.Unfit) ok unfit =
    in_run (Format reserved volume) u v Unfit tt (λ image is. tt) (unfit refl)
format_ends reserved volume u v (Err formats.Device) ok unfit = in_run (Format reserved volume) u v Device tt (λ image is. tt) tt
format_ends reserved volume u v (Err formats.Memory) ok unfit = in_run (Format reserved volume) u v Memory tt (λ image is. tt) tt

pub format_leaves : (reserved : ℕ) (volume : List ℕ) (u v : View) (answer : Result Made FormatFault)
    → IfOk answer (λ made. Holds (IsFresh reserved (replicate 32 0) volume made.layout) v)
    → (answer ≡ Err formats.Unfit → OnlyReads u v) → AskedLeaves (Format reserved volume) (format_outcome answer) u v
format_leaves reserved volume u v (Ok made) ok same = holds_as (λ image fresh. by_rule reserved volume made.layout image fresh) ok
format_leaves reserved volume u v (Err formats.Unfit) ok same = same refl
format_leaves reserved volume u v (Err formats.Device) ok same = tt
format_leaves reserved volume u v (Err formats.Memory) ok same = tt

pub format_device : (answer : Result Made FormatFault) → format_outcome answer ≡ Device → answer ≡ Err formats.Device
format_device (Ok made) e = cc
format_device (Err formats.Unfit) e = cc
format_device (Err formats.Device) e = refl
format_device (Err formats.Memory) e = cc

-- checking

examine_check : (zones : Option Image) (o : Outcome) → ExamineEnds zones o → CheckEnds zones o
examine_check zones (Done Checked) ends = absurd ends
examine_check zones (Differs difference) ends = absurd ends
examine_check zones o ends = ends

verdict_opens : (zones : Option Image) (verdict : Verdict) → WhereTold zones (λ image. IsVerdict image verdict) → WhereTold zones WellFormed
verdict_opens zones verdict ends image is = let v = ends image is in (v.set, v.well_formed)

pub check_ends : (u v : View) (answer : Result Verdict OpenFault)
    → IfOk answer (λ verdict. WhereTold u.zones (λ image. IsVerdict image verdict))
    → IfErr answer (λ fault. WhereTold u.zones (ExplainsRefusal fault)) → EndsAsked Check u v (check_outcome answer)
check_ends u v (Ok verdicts.Same) ok err =
    in_run Check u v (check_outcome (Ok verdicts.Same)) tt (verdict_opens u.zones verdicts.Same ok) ok
check_ends u v (Ok (verdicts.Super set)) ok err =
    in_run Check u v (check_outcome (Ok (verdicts.Super set))) tt (verdict_opens u.zones (verdicts.Super set) ok) ok
check_ends u v (Ok (verdicts.Block block)) ok err =
    in_run Check u v (check_outcome (Ok (verdicts.Block block))) tt (verdict_opens u.zones (verdicts.Block block) ok) ok
check_ends u v (Err fault) ok err = examining Check u v (examine_check u.zones) fault err

pub check_leaves : (u v : View) (answer : Result Verdict OpenFault)
    → IfOk answer (λ verdict. WhereTold u.zones (λ image. IsVerdict image verdict)) → OnlyReads u v
    → AskedLeaves Check (check_outcome answer) u v
check_leaves u v (Ok verdicts.Same) ok reads = ok
check_leaves u v (Ok (verdicts.Super set)) ok reads = tt
check_leaves u v (Ok (verdicts.Block block)) ok reads = tt
check_leaves u v (Err fault) ok reads = examining_leaves Check u v fault (λ refused. reads)

pub check_device : (answer : Result Verdict OpenFault) → check_outcome answer ≡ Device → answer ≡ Err faults.Device
check_device (Ok verdicts.Same) e = cc
check_device (Ok (verdicts.Super set)) e = cc
check_device (Ok (verdicts.Block block)) e = cc
check_device (Err fault) e = ap (λ (f : OpenFault). Err f) (examining_device fault e)

-- showing

examine_show : (zones : Option Image) (o : Outcome) → ExamineEnds zones o → ShowEnds zones o
examine_show zones (Done (Shown status)) ends = absurd ends
examine_show zones o ends = ends

status_opens : (zones : Option Image) (status : VolumeStatus) → WhereTold zones (λ image. IsStatus image status) → WhereTold zones WellFormed
status_opens zones status ends image is = let s = ends image is in (s.set, s.well_formed)

pub status_ends : (u v : View) (answer : Result VolumeStatus OpenFault)
    → IfOk answer (λ status. WhereTold u.zones (λ image. IsStatus image status))
    → IfErr answer (λ fault. WhereTold u.zones (ExplainsRefusal fault)) → EndsAsked Show u v (status_outcome answer)
status_ends u v (Ok status) ok err = in_run Show u v (status_outcome (Ok status)) tt (status_opens u.zones status ok) ok
status_ends u v (Err fault) ok err = examining Show u v (examine_show u.zones) fault err

pub status_leaves : (u v : View) (answer : Result VolumeStatus OpenFault)
    → IfOk answer (λ status. WhereTold u.zones (λ image. IsStatus image status)) → OnlyReads u v
    → AskedLeaves Show (status_outcome answer) u v
status_leaves u v (Ok status) ok reads = status_opens u.zones status ok
status_leaves u v (Err fault) ok reads = examining_leaves Show u v fault (λ refused. reads)

pub status_device : (answer : Result VolumeStatus OpenFault) → status_outcome answer ≡ Device → answer ≡ Err faults.Device
status_device (Ok status) e = cc
status_device (Err fault) e = ap (λ (f : OpenFault). Err f) (examining_device fault e)
