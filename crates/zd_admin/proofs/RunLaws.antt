-- How a run comes together.
use Rattle.std.proofs.Common.{◌≡◌, ◌⊎◌, ℕ, ◌<◌, List, Option, refl, sym, ◌∙◌, subst, inl, inr, arith}
use Rattle.zd_base.specs.Geometry.{Shape}
use Rattle.zd_disk.specs.Told.{WhereTold}
use Rattle.zd_disk.specs.View.{HasFailed, OnlyReads, View}
use Rattle.zd_model.specs.Image.{Image}
use Rattle.zd_model.specs.declared.metadata.Super.{Super as Head}
use Rattle.zd_tell.specs.Stages.{EndsIn, RunStage, stage_order}
use Rattle.zd_tell.specs.Stages.RunStage.{Words, Script, Opening, Run}
use Rattle.zd_tell.specs.Telling.{HasStatus, TellsMessage}
use Rattle.zd_tell.proofs.TellLaws.{fixed_told, own_status, status_told}
use Rattle.zd_admin.proofs.AskLaws.{asked_once}
use Rattle.zd_admin.proofs.CauseLaws.{asked_at, differs_not_same, refused_for}
use Rattle.zd_admin.specs.Words.{Asks, IsAdminCommand}
use Rattle.zd_admin.specs.Output.{IsFixedOutput, admin_status, admin_telling}
use Rattle.zd_admin.specs.Ends.{AdminCause, AdminComes, AdminPassed, AskedEnds, admin_course, verdict_of}
use Rattle.zd_admin.specs.Admin.{AdminReports, AskedLeaves, DiffersBy, EndsWell, IsLastBy, IsLastFor, IsNotOldBy, IsOldBy, IsRefusedBy, IsUnfitBy, KeepsAsked, KeepsHeads, StatusSays, WasDone}
use Rattle.zd_admin.specs.declared.outcome.Outcome.{Outcome}
use Rattle.zd_admin.specs.declared.outcome.Outcome.TheVariants.{Done, Usage, NoVolume, Device, Memory, Generation, Differs, Unfit, Old, NotOld}
use Rattle.zd_admin.specs.declared.words.Asked.{Asked}
use Rattle.zd_admin.specs.declared.words.Asked.TheVariants.{Format, Check, Repair, Relabel, Show, Upgrade}

none_before : (words : List (List ℕ)) (zones : Option Image) (s : RunStage) → stage_order s < 0 → AdminPassed words zones s
none_before words zones s early = absurd (omega (arith, early))

-- right words end in no run for wrong ones
not_usage : (words : List (List ℕ)) (zones : Option Image) (told : Option Shape) (o : Outcome) → IsAdminCommand words
    → AdminCause words zones told o → o ≡ Usage → ⊥
not_usage words zones told o right cause is = subst (AdminCause words zones told) is cause right

-- in which stage want of memory may come too
memory_comes : (words : List (List ℕ)) (zones : Option Image) (told : Option Shape) (stage : RunStage) (o : Outcome) → IsAdminCommand words
    → EndsIn (admin_course words zones told) stage o → AdminComes stage Memory
memory_comes words zones told Words o right ends = absurd (not_usage words zones told o right ends.cause ends.comes)
memory_comes words zones told Script o right ends = absurd ends.comes
memory_comes words zones told Opening o right ends = tt
memory_comes words zones told Run o right ends = tt

module _ (words : List (List ℕ)) (zones : Option Image) (told : Option Shape) {status : ℕ}
    {held after : Option (List ℕ)} {faults now : ℕ} where
  -- the report of words that are no command
  pub reports_usage : (IsAdminCommand words → ⊥) → TellsMessage (admin_telling Usage)
      (Unit {0}) status held after faults now
      → AdminReports words zones told status held after faults now
  reports_usage wrong tells = record {
    stage = Words;
    outcome = Usage;
    ends = record { comes = refl; earlier = none_before words zones; cause = wrong };
    statuses = (Usage, refl, fixed_told tells tt);
    tells = tells;
  }

  -- the report of a run that did what was asked, or did not
  pub reports : (outcome : Outcome) → IsAdminCommand words
      → (stage : RunStage) × EndsIn (admin_course words zones told) stage outcome
      → TellsMessage (admin_telling outcome) (IsFixedOutput outcome) status held after faults now
      → AdminReports words zones told status held after faults now
  reports outcome right ends tells = record {
    stage = ends.0;
    outcome = outcome;
    ends = ends.1;
    statuses = elim (status_told tells) [
      | inl has ↦ (outcome, ends.1.comes, has)
      | inr seven ↦ (Memory, memory_comes words zones told ends.0 outcome right ends.1, inl seven)
    ];
    tells = tells;
  }

-- the status of wrong words
pub usage_status : {status : ℕ} → HasStatus 1 status → status ≡ 1
usage_status (inl is) = is
usage_status (inr six) = absurd (omega (arith, six.1))

-- an outcome's own status, where it is neither 6 nor 7
own_is : {own status : ℕ} (n : ℕ) → HasStatus own status ⊎ (status ≡ 7) → status ≡ n → (n ≡ 6 → ⊥) → (n ≡ 7 → ⊥) → own ≡ n
own_is n has is six seven = own_status has (λ e. six (sym is ∙ e)) (λ e. seven (sym is ∙ e)) ∙ is

-- each outcome has a status of its own
usage_of : (o : Outcome) → admin_status o ≡ 1 → o ≡ Usage
usage_of Usage is = refl
usage_of o is = absurd (omega (arith, is))

device_of : (o : Outcome) → admin_status o ≡ 4 → o ≡ Device
device_of Device is = refl
device_of o is = absurd (omega (arith, is))

-- a run with right words has another status than one with wrong words
pub no_usage_status : {status : ℕ} (words : List (List ℕ)) (zones : Option Image) (told : Option Shape) (o : Outcome) → IsAdminCommand words
    → AdminCause words zones told o → HasStatus (admin_status o) status ⊎ (status ≡ 7) → status ≡ 1 → ⊥
no_usage_status words zones told o right cause has one =
    not_usage words zones told o right cause (usage_of o (own_is 1 has one (λ e. omega (arith, e)) (λ e. omega (arith, e))))

-- what each status says, by what was asked for
module _ (words : List (List ℕ)) (u v : View) (asked : Asked) (asks : Asks words asked) where
  done_by : (o : Outcome) → AskedLeaves asked o u v → admin_status o ≡ 0 → WasDone asked u v
  done_by (Done work) leaves is = leaves
  done_by o leaves is = absurd (omega (arith, is))

  refused_by : (o : Outcome) → AskedEnds asked u.zones v.told o → AskedLeaves asked o u v → admin_status o ≡ 3 → IsRefusedBy words u v
  refused_by (NoVolume kind) ends leaves is = record {
    asked = asked;
    asks = asks;
    no_volume = refused_for u.zones v.told asked kind ends;
    leaves = leaves;
  }
  refused_by o ends leaves is = absurd (omega (arith, is))

  last_for : (a : Asked) → AskedEnds a u.zones v.told Generation → WhereTold u.zones (IsLastFor a)
  last_for (Format reserved volume) ends = absurd ends
  last_for Check ends = absurd ends
  last_for Repair ends = ends
  last_for Show ends = absurd ends
  last_for (Relabel label) ends = ends
  last_for (Upgrade volume) ends = ends

  last_by : (o : Outcome) → AskedEnds asked u.zones v.told o → AskedLeaves asked o u v → admin_status o ≡ 8 → IsLastBy words u v
  last_by Generation ends leaves is = record { asked = asked; asks = asks; last = last_for asked ends; leaves = leaves }
  last_by o ends leaves is = absurd (omega (arith, is))

  unfit_reads : (o : Outcome) → AskedLeaves asked o u v → admin_status o ≡ 10 → OnlyReads u v
  unfit_reads Unfit leaves is = leaves
  unfit_reads o leaves is = absurd (omega (arith, is))

-- the two versions
module _ (words : List (List ℕ)) (u v : View) where
  old_by : (asked : Asked) (o : Outcome) → Asks words asked → AskedEnds asked u.zones v.told o → AskedLeaves asked o u v
      → admin_status o ≡ 12 → IsOldBy words u v
  old_by (Relabel label) Old asks ends leaves is = (label, asks, ends, leaves)
  old_by (Format reserved volume) Old asks ends leaves is = absurd ends
  old_by Check Old asks ends leaves is = absurd ends
  old_by Repair Old asks ends leaves is = absurd ends
  old_by Show Old asks ends leaves is = absurd ends
  old_by (Upgrade volume) Old asks ends leaves is = absurd ends
  old_by asked o asks ends leaves is = absurd (omega (arith, is))

  not_old_by : (asked : Asked) (o : Outcome) → Asks words asked → AskedEnds asked u.zones v.told o → AskedLeaves asked o u v
      → admin_status o ≡ 13 → IsNotOldBy words u v
  not_old_by (Upgrade volume) NotOld asks ends leaves is = (volume, asks, ends, leaves)
  not_old_by (Format reserved volume) NotOld asks ends leaves is = absurd ends
  not_old_by Check NotOld asks ends leaves is = absurd ends
  not_old_by Repair NotOld asks ends leaves is = absurd ends
  not_old_by Show NotOld asks ends leaves is = absurd ends
  not_old_by (Relabel label) NotOld asks ends leaves is = absurd ends
  not_old_by asked o asks ends leaves is = absurd (omega (arith, is))

-- what is kept where the first flush was answered is kept where more is known
heads_when : {change : Head → Head} {u v : View} (P Q : Type 0) → (Q → P) → KeepsHeads change P u v → KeepsHeads change Q u v
heads_when P Q f keeps = record { way = keeps.way; kept = keeps.kept; settled = λ q. keeps.settled (f q) }

pub keeps_when : (asked : Asked) (P Q : Type 0) (u v : View) → (Q → P) → KeepsAsked asked P u v → KeepsAsked asked Q u v
keeps_when (Format reserved volume) P Q u v f keeps = tt
keeps_when Check P Q u v f keeps = keeps
keeps_when Repair P Q u v f keeps = record { way = keeps.way; kept = keeps.kept; settled = λ q. keeps.settled (f q) }
keeps_when Show P Q u v f keeps = keeps
keeps_when (Relabel label) P Q u v f keeps = heads_when P Q f keeps
keeps_when (Upgrade volume) P Q u v f keeps = heads_when P Q f keeps

-- a run that a failed disk ended has status 4
pub device_told : (o : Outcome) {status : ℕ} {held after : Option (List ℕ)} {faults now : ℕ}
    → TellsMessage (admin_telling o) (IsFixedOutput o) status held after faults now → o ≡ Device → status ≡ 4
device_told o {status} tells is =
    own_four (subst (λ (x : Outcome). HasStatus (admin_status x) status) is (fixed_told tells (subst IsFixedOutput (sym is) tt)))
  where
    own_four : {n : ℕ} → HasStatus 4 n → n ≡ 4
    own_four (inl four) = four
    own_four (inr six) = absurd (let e = six.1 in omega (arith, e))

module _ (words : List (List ℕ)) (zones : Option Image) (told : Option Shape) where
  differs_by : (asked : Asked) (o : Outcome) → Asks words asked → AskedEnds asked zones told o → admin_status o ≡ 9 → DiffersBy words zones
  differs_by (Format reserved volume) (Differs difference) asks ends is = absurd ends
  differs_by Check (Differs difference) asks ends is = record {
    asks = asks;
    differs = λ image here. (verdict_of difference, ends image here, differs_not_same difference);
  }
  differs_by Repair (Differs difference) asks ends is = absurd ends
  differs_by Show (Differs difference) asks ends is = absurd ends
  differs_by (Relabel label) (Differs difference) asks ends is = absurd ends
  differs_by (Upgrade volume) (Differs difference) asks ends is = absurd ends
  differs_by asked o asks ends is = absurd (omega (arith, is))

  unfit_by : (asked : Asked) (o : Outcome) → Asks words asked → AskedEnds asked zones told o → admin_status o ≡ 10 → IsUnfitBy words told
  unfit_by (Format reserved volume) Unfit asks ends is = (reserved, volume, asks, ends)
  unfit_by Check Unfit asks ends is = absurd ends
  unfit_by Repair Unfit asks ends is = absurd ends
  unfit_by Show Unfit asks ends is = absurd ends
  unfit_by (Relabel label) Unfit asks ends is = absurd ends
  unfit_by (Upgrade volume) Unfit asks ends is = absurd ends
  unfit_by asked o asks ends is = absurd (omega (arith, is))

  -- the cause of how it ended, of what was asked for
  asked_cause : (asked : Asked) (o : Outcome) → Asks words asked → AdminCause words zones told o → AskedEnds asked zones told o
  asked_cause asked o asks cause =
      let why = asked_at words zones told o (not_usage words zones told o (asked, asks) cause) cause in
      subst (λ (a : Asked). AskedEnds a zones told o) (asked_once words why.0 asked why.1 asks) why.2

module _ (words : List (List ℕ)) {u v : View} {status : ℕ} where
  pub status_says : (asked : Asked) (o : Outcome) → Asks words asked → AdminCause words u.zones v.told o → AskedLeaves asked o u v
      → (o ≡ Device → HasFailed u v) → (HasStatus 0 status → admin_status o ≡ 0)
      → HasStatus (admin_status o) status ⊎ (status ≡ 7) → StatusSays words u v status
  status_says asked o asks cause leaves failed is_done has =
      let ends = asked_cause words u.zones v.told asked o asks cause in
      record {
        ok = λ zero_is. (asked, asks, done_by words u v asked asks o leaves (is_done zero_is));
        no_volume = λ three. refused_by words u v asked asks o ends leaves
            (own_is 3 has three (λ e. omega (arith, e)) (λ e. omega (arith, e)));
        device = λ four. failed (device_of o (own_is 4 has four (λ e. omega (arith, e)) (λ e. omega (arith, e))));
        generation = λ eight. last_by words u v asked asks o ends leaves
            (own_is 8 has eight (λ e. omega (arith, e)) (λ e. omega (arith, e)));
        old = λ twelve. old_by words u v asked o asks ends leaves
            (own_is 12 has twelve (λ e. omega (arith, e)) (λ e. omega (arith, e)));
        not_old = λ thirteen. not_old_by words u v asked o asks ends leaves
            (own_is 13 has thirteen (λ e. omega (arith, e)) (λ e. omega (arith, e)));
        differs = λ nine. differs_by words u.zones v.told asked o asks ends
            (own_is 9 has nine (λ e. omega (arith, e)) (λ e. omega (arith, e)));
        unfit = λ ten. (
            let is = own_is 10 has ten (λ e. omega (arith, e)) (λ e. omega (arith, e)) in
            (unfit_by words u.zones v.told asked o asks ends is, unfit_reads words u v asked asks o leaves is)
            );
      }

  -- wrong words have status 1
  pub usage_says : HasStatus 1 status → StatusSays words u v status
  usage_says has =
      let one = usage_status has in
      record {
        ok = λ done. absurd (elim done [ inl zero_is ↦ omega (arith, one, zero_is) | inr six ↦ (let e = six.0 in omega (arith, one, e)) ]);
        no_volume = λ three. absurd (omega (arith, one, three));
        device = λ four. absurd (omega (arith, one, four));
        generation = λ eight. absurd (omega (arith, one, eight));
        old = λ twelve. absurd (omega (arith, one, twelve));
        not_old = λ thirteen. absurd (omega (arith, one, thirteen));
        differs = λ nine. absurd (omega (arith, one, nine));
        unfit = λ ten. absurd (omega (arith, one, ten));
      }

-- where neither disk nor sink failed
module _ (words : List (List ℕ)) (zones : Option Image) (told : Option Shape) (status : ℕ) where
  decided_well : (o : Outcome) → (o ≡ Device → ⊥) → AdminCause words zones told o
      → status ≡ admin_status o → EndsWell words zones told status
  decided_well Device no_device cause is = absurd (no_device refl)
  decided_well Memory no_device cause is = inl is
  decided_well o no_device cause is = inr (o, tt, is, cause)

  pub ends_well : (o : Outcome) → AdminCause words zones told o
      → HasStatus (admin_status o) status ⊎ (status ≡ 7)
      → (o ≡ Device → ⊥) → (status ≡ 6 → ⊥) → EndsWell words zones told status
  ends_well o cause (inr is) no_device no_sink = inl is
  ends_well o cause (inl (inr six)) no_device no_sink = absurd (no_sink six.0)
  ends_well o cause (inl (inl is)) no_device no_sink = decided_well o no_device cause is
