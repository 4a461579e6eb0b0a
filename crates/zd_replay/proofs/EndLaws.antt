-- How a run ends: its outcome, its status and its stage.
use Rattle.std.proofs.Common.{◌≡◌, ◌⊎◌, ◌≤◌, ◌<◌, ℕ, List, [], Option, refl, sym, ap, ◌∙◌, subst, inl, inr, arith}
use Rattle.zd_base.specs.declared.numbers.Why.TheVariants as whys
use Rattle.zd_model.specs.Report.{outcome_status}
use Rattle.zd_model.specs.declared.requests.Ending.TheVariants as endings
use Rattle.zd_model.specs.declared.texts.Outcome.{Outcome}
use Rattle.zd_model.specs.declared.texts.Outcome.TheVariants as outcomes
use Rattle.zd_model.specs.History.{HistoryEntry}
use Rattle.zd_report.specs.Fixed.{IsFixedLine}
use Rattle.zd_tell.specs.Stages.{RunStage, stage_order}
use Rattle.zd_tell.specs.Stages.RunStage.{Words, Script, Opening, Run}
use Rattle.zd_tell.specs.Telling.{HasStatus, TellsMessage}
use Rattle.zd_tell.proofs.StageLaws.{told_may_end}
use Rattle.zd_tell.proofs.TellLaws.{own_status}
use Rattle.zd_replay.specs.Ends.{EachStatusTells, EndsOpening, EndsRun, EndsScript, IsFixedRun}
use Rattle.zd_replay.specs.Ends.{ReplayComes, ReplayEndedBefore, ReplayMayEnd, all_done, no_device, no_generation}
use Rattle.zd_replay.specs.Ends.{no_memory, replay_telling}

-- the outcome that has a status of its own
pub usage_by : (o : Outcome) → outcome_status o ≡ 1 → o ≡ outcomes.Usage
usage_by outcomes.Usage is = refl
usage_by outcomes.Source is = absurd (omega (arith, is))
usage_by (outcomes.BadScript line why) is = absurd (omega (arith, is))
usage_by outcomes.NotBuilt is = absurd (omega (arith, is))
usage_by (outcomes.NoVolume kind) is = absurd (omega (arith, is))
usage_by (outcomes.Ended endings.Ok) is = absurd (omega (arith, is))
usage_by (outcomes.Ended (endings.Stopped whys.Device)) is = absurd (omega (arith, is))
usage_by (outcomes.Ended (endings.Stopped whys.Memory)) is = absurd (omega (arith, is))
usage_by (outcomes.Ended (endings.Stopped whys.Generation)) is = absurd (omega (arith, is))

pub source_by : (o : Outcome) → outcome_status o ≡ 5 → o ≡ outcomes.Source
source_by outcomes.Usage is = absurd (omega (arith, is))
source_by outcomes.Source is = refl
source_by (outcomes.BadScript line why) is = absurd (omega (arith, is))
source_by outcomes.NotBuilt is = absurd (omega (arith, is))
source_by (outcomes.NoVolume kind) is = absurd (omega (arith, is))
source_by (outcomes.Ended endings.Ok) is = absurd (omega (arith, is))
source_by (outcomes.Ended (endings.Stopped whys.Device)) is = absurd (omega (arith, is))
source_by (outcomes.Ended (endings.Stopped whys.Memory)) is = absurd (omega (arith, is))
source_by (outcomes.Ended (endings.Stopped whys.Generation)) is = absurd (omega (arith, is))

pub device_by : (o : Outcome) → outcome_status o ≡ 4 → o ≡ no_device
device_by outcomes.Usage is = absurd (omega (arith, is))
device_by outcomes.Source is = absurd (omega (arith, is))
device_by (outcomes.BadScript line why) is = absurd (omega (arith, is))
device_by outcomes.NotBuilt is = absurd (omega (arith, is))
device_by (outcomes.NoVolume kind) is = absurd (omega (arith, is))
device_by (outcomes.Ended endings.Ok) is = absurd (omega (arith, is))
device_by (outcomes.Ended (endings.Stopped whys.Device)) is = refl
device_by (outcomes.Ended (endings.Stopped whys.Memory)) is = absurd (omega (arith, is))
device_by (outcomes.Ended (endings.Stopped whys.Generation)) is = absurd (omega (arith, is))

pub done_by : (o : Outcome) → outcome_status o ≡ 0 → o ≡ all_done
done_by outcomes.Usage is = absurd (omega (arith, is))
done_by outcomes.Source is = absurd (omega (arith, is))
done_by (outcomes.BadScript line why) is = absurd (omega (arith, is))
done_by outcomes.NotBuilt is = absurd (omega (arith, is))
done_by (outcomes.NoVolume kind) is = absurd (omega (arith, is))
done_by (outcomes.Ended endings.Ok) is = refl
done_by (outcomes.Ended (endings.Stopped whys.Device)) is = absurd (omega (arith, is))
done_by (outcomes.Ended (endings.Stopped whys.Memory)) is = absurd (omega (arith, is))
done_by (outcomes.Ended (endings.Stopped whys.Generation)) is = absurd (omega (arith, is))

pub generation_by : (o : Outcome) → outcome_status o ≡ 8 → o ≡ no_generation
generation_by outcomes.Usage is = absurd (omega (arith, is))
generation_by outcomes.Source is = absurd (omega (arith, is))
generation_by (outcomes.BadScript line why) is = absurd (omega (arith, is))
generation_by outcomes.NotBuilt is = absurd (omega (arith, is))
generation_by (outcomes.NoVolume kind) is = absurd (omega (arith, is))
generation_by (outcomes.Ended endings.Ok) is = absurd (omega (arith, is))
generation_by (outcomes.Ended (endings.Stopped whys.Device)) is = absurd (omega (arith, is))
generation_by (outcomes.Ended (endings.Stopped whys.Memory)) is = absurd (omega (arith, is))
generation_by (outcomes.Ended (endings.Stopped whys.Generation)) is = refl

-- none has the status of a failed sink
never_six : (o : Outcome) → outcome_status o ≡ 6 → ⊥
never_six outcomes.Usage is = omega (arith, is)
never_six outcomes.Source is = omega (arith, is)
never_six (outcomes.BadScript line why) is = omega (arith, is)
never_six outcomes.NotBuilt is = omega (arith, is)
never_six (outcomes.NoVolume kind) is = omega (arith, is)
never_six (outcomes.Ended endings.Ok) is = omega (arith, is)
never_six (outcomes.Ended (endings.Stopped whys.Device)) is = omega (arith, is)
never_six (outcomes.Ended (endings.Stopped whys.Memory)) is = omega (arith, is)
never_six (outcomes.Ended (endings.Stopped whys.Generation)) is = omega (arith, is)

-- the status that tells of such an outcome
pub told_usage : {status : ℕ} (o : Outcome) → HasStatus (outcome_status o) status ⊎ (status ≡ 7) → status ≡ 1
    → o ≡ outcomes.Usage
told_usage o is one = usage_by o (own_status is (λ e. omega (arith, e, one)) (λ e. omega (arith, e, one)) ∙ one)

pub told_source : {status : ℕ} (o : Outcome) → HasStatus (outcome_status o) status ⊎ (status ≡ 7) → status ≡ 5
    → o ≡ outcomes.Source
told_source o is five = source_by o (own_status is (λ e. omega (arith, e, five)) (λ e. omega (arith, e, five)) ∙ five)

pub told_device : {status : ℕ} (o : Outcome) → HasStatus (outcome_status o) status ⊎ (status ≡ 7) → status ≡ 4
    → o ≡ no_device
told_device o is four = device_by o (own_status is (λ e. omega (arith, e, four)) (λ e. omega (arith, e, four)) ∙ four)

pub told_generation : {status : ℕ} (o : Outcome) → HasStatus (outcome_status o) status ⊎ (status ≡ 7) → status ≡ 8
    → o ≡ no_generation
told_generation o is eight =
    generation_by o (own_status is (λ e. omega (arith, e, eight)) (λ e. omega (arith, e, eight)) ∙ eight)

-- in which stages all may be done, the disk may have failed, and no generation may be left
pub done_at : (stage : RunStage) → ReplayComes stage all_done → stage ≡ Run
done_at Words is = let f = ap outcome_status is in absurd (omega (arith, f))
done_at Script none = absurd none
done_at Opening none = absurd none
done_at Run is = refl

pub device_at : (stage : RunStage) → ReplayComes stage no_device → 2 ≤ stage_order stage
device_at Words is = let f = ap outcome_status is in absurd (omega (arith, f))
device_at Script none = absurd none
device_at Opening is = omega arith
device_at Run is = omega arith

pub generation_at : (stage : RunStage) → ReplayComes stage no_generation → stage ≡ Run
generation_at Words is = let f = ap outcome_status is in absurd (omega (arith, f))
generation_at Script none = absurd none
generation_at Opening none = absurd none
generation_at Run is = refl

pub source_at : (stage : RunStage) → ReplayComes stage outcomes.Source → stage ≡ Script
source_at Words is = let f = ap outcome_status is in absurd (omega (arith, f))
source_at Script is = refl
source_at Opening none = absurd none
source_at Run none = absurd none

-- want of memory for the text may come in a stage, but for the first, whose line is fixed
pub may_want : (stage : RunStage) (history : List HistoryEntry) (outcome : Outcome) →
    (stage_order stage < 1 → history ≡ []) → ReplayComes stage outcome
    → (IsFixedRun history outcome → ⊥) → ReplayComes stage no_memory
may_want Words history outcome none is free =
    absurd (free (none (omega arith), subst IsFixedLine (sym is) tt))
may_want Script history outcome none is free = tt
may_want Opening history outcome none is free = tt
may_want Run history outcome none is free = tt

-- the status of a run that ended in a stage and told of it
pub may_end : {status faults now : ℕ} {held after : Option (List ℕ)} (stage : RunStage)
    (history : List HistoryEntry) (outcome : Outcome)
    → (stage_order stage < 1 → history ≡ []) → ReplayComes stage outcome
    → TellsMessage (replay_telling history outcome) (IsFixedRun history outcome) status held after faults now
    → ReplayMayEnd stage status
may_end {status} stage history outcome none comes t =
    told_may_end ReplayComes outcome_status stage outcome no_memory (replay_telling history outcome) (IsFixedRun history outcome) status
    comes refl refl (may_want stage history outcome none comes) t.told t.which t.out.answers

-- the statuses of each stage
pub words_status : {status : ℕ} → ReplayMayEnd Words status → status ≡ 1
words_status {status} m =
    by (subst (λ (o : Outcome). HasStatus (outcome_status o) status) m.1 m.2)
  where
    by : HasStatus 1 status → status ≡ 1
    by (inl is) = is
    by (inr six) = absurd (omega (arith, six.1))

script_status : {status : ℕ} (o : Outcome) → EndsScript o → HasStatus (outcome_status o) status →
    (status ≡ 2) ⊎ ((status ≡ 5) ⊎ (status ≡ 7))
script_status outcomes.Source e (inl is) = inr (inl is)
script_status (outcomes.BadScript line why) e (inl is) = inl is
script_status (outcomes.Ended (endings.Stopped whys.Memory)) e (inl is) = inr (inr is)
script_status outcomes.Source e (inr six) = absurd (omega (arith, six.1))
script_status (outcomes.BadScript line why) e (inr six) = absurd (omega (arith, six.1))
script_status (outcomes.Ended (endings.Stopped whys.Memory)) e (inr six) = absurd (omega (arith, six.1))
script_status outcomes.Usage e has = absurd e
script_status outcomes.NotBuilt e has = absurd e
script_status (outcomes.NoVolume kind) e has = absurd e
script_status (outcomes.Ended endings.Ok) e has = absurd e
script_status (outcomes.Ended (endings.Stopped whys.Device)) e has = absurd e
script_status (outcomes.Ended (endings.Stopped whys.Generation)) e has = absurd e

opening_status : {status : ℕ} (o : Outcome) → EndsOpening o → HasStatus (outcome_status o) status →
    (status ≡ 3) ⊎ ((status ≡ 4) ⊎ (status ≡ 7))
opening_status (outcomes.NoVolume kind) e (inl is) = inl is
opening_status (outcomes.Ended (endings.Stopped whys.Device)) e (inl is) = inr (inl is)
opening_status (outcomes.Ended (endings.Stopped whys.Memory)) e (inl is) = inr (inr is)
opening_status (outcomes.NoVolume kind) e (inr six) = absurd (omega (arith, six.1))
opening_status (outcomes.Ended (endings.Stopped whys.Device)) e (inr six) = absurd (omega (arith, six.1))
opening_status (outcomes.Ended (endings.Stopped whys.Memory)) e (inr six) = absurd (omega (arith, six.1))
opening_status outcomes.Usage e has = absurd e
opening_status outcomes.Source e has = absurd e
opening_status (outcomes.BadScript line why) e has = absurd e
opening_status outcomes.NotBuilt e has = absurd e
opening_status (outcomes.Ended endings.Ok) e has = absurd e
opening_status (outcomes.Ended (endings.Stopped whys.Generation)) e has = absurd e

pub run_status : {status : ℕ} (o : Outcome) → EndsRun o → HasStatus (outcome_status o) status → (status ≡ 0) ⊎
    ((status ≡ 6) ⊎ ((status ≡ 7) ⊎ ((status ≡ 4) ⊎ (status ≡ 8))))
run_status (outcomes.Ended endings.Ok) e (inl is) = inl is
run_status (outcomes.Ended endings.Ok) e (inr six) = inr (inl six.0)
run_status (outcomes.Ended (endings.Stopped whys.Memory)) e (inl is) = inr (inr (inl is))
run_status (outcomes.Ended (endings.Stopped whys.Memory)) e (inr six) = absurd (omega (arith, six.1))
run_status (outcomes.Ended (endings.Stopped whys.Device)) e (inl is) = inr (inr (inr (inl is)))
run_status (outcomes.Ended (endings.Stopped whys.Device)) e (inr six) = absurd (omega (arith, six.1))
run_status (outcomes.Ended (endings.Stopped whys.Generation)) e (inl is) = inr (inr (inr (inr is)))
run_status (outcomes.Ended (endings.Stopped whys.Generation)) e (inr six) = absurd (omega (arith, six.1))
run_status outcomes.Usage e has = absurd e
run_status outcomes.Source e has = absurd e
run_status (outcomes.BadScript line why) e has = absurd e
run_status outcomes.NotBuilt e has = absurd e
run_status (outcomes.NoVolume kind) e has = absurd e

-- no status is one of the script and of what comes later
apart : {status : ℕ} → (status ≡ 2) ⊎ ((status ≡ 5) ⊎ (status ≡ 7))
    → (status ≡ 0) ⊎ ((status ≡ 3) ⊎ ((status ≡ 4) ⊎ (status ≡ 6))) → ⊥
apart s e = grind arith

not_one : {status : ℕ} → status ≡ 1 → (status ≡ 0) ⊎ ((status ≡ 3) ⊎ ((status ≡ 4) ⊎ (status ≡ 6))) → ⊥
not_one one e = grind arith

-- a run that ended before opening has none of these statuses
pub early_other : {status : ℕ} (stage : RunStage) → stage_order stage < 2 → ReplayMayEnd stage status
    → (status ≡ 0) ⊎ ((status ≡ 3) ⊎ ((status ≡ 4) ⊎ (status ≡ 6))) → ⊥
early_other Words early m = not_one (words_status m)
early_other Script early m = apart (script_status m.0 m.1 m.2)
early_other Opening early m = absurd (omega (arith, early))
early_other Run early m = absurd (omega (arith, early))

early : {status : ℕ} → (status ≡ 1) ⊎ (status ≡ 2) ⊎ (status ≡ 5) → (status ≡ 0) ⊎ ((status ≡ 3)
    ⊎ ((status ≡ 4) ⊎ ((status ≡ 6) ⊎ ((status ≡ 7) ⊎ (status ≡ 8))))) → ⊥
early e s = grind arith

late : {status : ℕ} (stage : RunStage) → 2 ≤ stage_order stage → ReplayMayEnd stage status
    → (status ≡ 0) ⊎ ((status ≡ 3)
    ⊎ ((status ≡ 4) ⊎ ((status ≡ 6) ⊎ ((status ≡ 7) ⊎ (status ≡ 8)))))
late Words past m = absurd (omega (arith, past))
late Script past m = absurd (omega (arith, past))
late Opening past m =
    (let s = opening_status m.0 m.1 m.2 in grind (arith, s))
late Run past m = (let s = run_status m.0 m.1 m.2 in grind (arith, s))

-- one that tells of the run isn't one of a run that ended before
not_early : {status : ℕ} → (status ≡ 2) ⊎ ((status ≡ 5) ⊎ (status ≡ 7))
    → (status ≡ 0) ⊎ (status ≡ 6) ⊎ (status ≡ 8) → ⊥
not_early s e = grind arith

not_usage : {status : ℕ} → status ≡ 1 → (status ≡ 0) ⊎ (status ≡ 6) ⊎ (status ≡ 8) → ⊥
not_usage one e = grind arith

not_opening : {status : ℕ} → (status ≡ 3) ⊎ ((status ≡ 4) ⊎ (status ≡ 7))
    → (status ≡ 0) ⊎ (status ≡ 6) ⊎ (status ≡ 8) → ⊥
not_opening s e = grind arith

before_run : {status : ℕ} (stage : RunStage) → stage_order stage < 3 → ReplayMayEnd stage status
    → (status ≡ 0) ⊎ (status ≡ 6) ⊎ (status ≡ 8) → ⊥
before_run Words less m e = not_usage (words_status m) e
before_run Script less m e = not_early (script_status m.0 m.1 m.2) e
before_run Opening less m e = not_opening (opening_status m.0 m.1 m.2) e
before_run Run less m e = absurd (omega (arith, less))

-- a run that came to its last stage has no status of a refusal
pub ran_unrefused : {status : ℕ} → ReplayMayEnd Run status → status ≡ 3 → ⊥
ran_unrefused m three = (let s = run_status m.0 m.1 m.2 in grind (arith, s, three))

-- where it isn't before, it is from there on
from_there : {m n : ℕ} → (m < n → ⊥) → n ≤ m
from_there h = grind arith

below_there : {m n : ℕ} → (n ≤ m → ⊥) → m < n
below_there h = grind arith

pub statuses_tell : EachStatusTells
statuses_tell status = record {
  run = λ e s m. from_there (λ less. before_run s less m e);
  opening = λ e s m. from_there (λ less. early_other s less m (elim e [ inl three ↦ inr (inl three) | inr four ↦ inr (inr (inl four)) ]));
  before = λ e s m. below_there (λ past. early e (late s past m));
}

-- a run that came to opening didn't end before
pub not_before : {status : ℕ} → ReplayMayEnd Opening status ⊎ ReplayMayEnd Run status
    → ReplayEndedBefore Opening status → ⊥
not_before (inl m) before = let less = before Opening m in omega (arith, less)
not_before (inr m) before = let less = before Run m in omega (arith, less)
