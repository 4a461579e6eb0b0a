-- What any turns leave of a session: what it has from its beginning, and the cause for which it stopped.
use Rattle.std.proofs.Common.{◌≡◌, ◌⊎◌, ℕ, Bool, true, false, ◌||◌, List, [], ◌∷◌, length, replicate, Option, Some, None, Result, Ok, Err}
use Rattle.std.proofs.Common.{refl, sym, ap, ◌∙◌, subst, inl, inr}
use Rattle.std.specs.Prelude.{IfErr, OnOk, if◌then◌else◌, is_some}
use Rattle.zd_base.specs.declared.numbers.Why.{Why}
use Rattle.zd_base.specs.declared.steps.Prefer.{Prefer}
use Rattle.zd_base.specs.declared.steps.StepKind.{StepKind}
use Rattle.zd_base.specs.declared.steps.Stepped.{Stepped}
use Rattle.zd_disk.proofs.ToldLaws.{Some-same}
use Rattle.zd_disk.specs.View.{HasFailed, View}
use Rattle.zd_model.specs.Requests.{Operation, operation_of}
use Rattle.zd_model.specs.Requests.Operation.{Reading, Writing, Discarding, Flushing}
use Rattle.zd_model.specs.Safe.{base_at}
use Rattle.zd_model.specs.declared.requests.Piece.{Piece}
use Rattle.zd_steps.specs.Runs.{is_over}
use Rattle.zd_steps.specs.declared.step.Step.{Step}
use Rattle.zd_steps.specs.declared.step.Step.TheVariants.{Begin, Commit, Serve, Work}
use Rattle.zd_volume.specs.Commits.{CommitStep}
use Rattle.zd_volume.specs.Volumes.{PlainVolume}
use Rattle.zd_volume.specs.declared.flight.Flight.{Flight}
use Rattle.zd_volume.specs.declared.flight.Ran.{Ran}
use Rattle.zd_volume.specs.declared.phase.Committed.{Committed}
use Rattle.zd_volume.specs.Flights.{ReadStep}
use Rattle.zd_volume.specs.declared.work.Job.{Job}
use Rattle.zd_volume.specs.declared.work.Work.{Work as JobWork}
use Rattle.zd_jobs.specs.JobSteps.{BeginsJob, BeginsWithReset, FailsReset}
use Rattle.zd_state.specs.JobCalls.{HasToReset}
use Rattle.zd_reclaim.specs.Works.{WorksOn}
use Rattle.zd_write.specs.Tries.{GivesUpOn, Settles, TriesWrite}
use Rattle.zd_write.specs.declared.steps.Tried.{Tried}
use Rattle.zd_volume.specs.FaultCounts.{AreCalm}
use Rattle.zd_session.specs.LoneSessions.{IsNewSession, RunsLone}
use Rattle.zd_session.specs.Serving.{EntersTried, FailsEdge, ReadsEdgeOf, ServesBy, ServesIn}
use Rattle.zd_session.specs.Constants.{IsSameSession}
use Rattle.zd_session.specs.SessionSteps.{KeepsSession, Makes, MakesStep, MakesTurns}
use Rattle.zd_session.specs.Sessions.{SessionView, next_seen, run_seen, standing_seen}
use Rattle.zd_replay.specs.Run.{HasCause, RunsAlone, SaysWhy, StopsFor}

-- a volume that goes on, and one whose disk failed
pub going : (v : PlainVolume) → v.stopped ≡ None → HasCause v
going v runs = record { cause = λ why is. absurd (let e : None ≡ Some why = sym runs ∙ is in let f : ⊥ = cc in f) }

by_disk : (v : PlainVolume) → v.stopped ≡ Some Why.Device → HasCause v
by_disk v is =
    record { cause = λ why also. subst (λ (w : Why). StopsFor w v) (Some-same Why.Device why (sym is ∙ also)) tt }

-- where it can't be otherwise, it goes on
must_go : (o : Option Why) → ((o ≡ None → ⊥) → ⊥) → o ≡ None
must_go None never = refl
must_go (Some why) never = absurd (never (λ e. let f : ⊥ = cc in f))

-- A job that is given up, and a chunk that is settled, leave it going
gives_up : (from to : PlainVolume) (chunk : ℕ) → GivesUpOn from to chunk → from.stopped ≡ None → to.stopped ≡ None
gives_up from to chunk gives runs =
    must_go to.stopped (λ stops. stops (ap (λ (v : PlainVolume). v.stopped)
    (gives.on (λ off. stops (ap (λ (v : PlainVolume). v.stopped) (gives.off off) ∙ runs))).rest ∙ runs))

settles : (from to : PlainVolume) (chunk : ℕ) → Settles from to chunk → from.stopped ≡ None → to.stopped ≡ None
settles from to chunk settled runs =
    must_go to.stopped (λ stops. stops (ap (λ (v : PlainVolume). v.stopped)
    (settled.others (λ zone buffer bare.
    stops (ap (λ (v : PlainVolume). v.stopped) (settled.bare zone buffer bare).rest ∙ runs))) ∙ runs))

-- a step of a read, of a write, of a commit, and of a job
read_cause : (from to : PlainVolume) (u x : View) (old new : Flight) (ran : Ran) → ReadStep from to u x old new ran
    → from.stopped ≡ None → HasCause to
read_cause from to u x old new Ran.More step runs = going to (ap (λ (v : PlainVolume). v.stopped) step.volume ∙ runs)
read_cause from to u x old new Ran.Entered (inl step) runs =
    going to (ap (λ (v : PlainVolume). v.stopped) step.volume ∙ runs)
read_cause from to u x old new Ran.Entered (inr step) runs =
    going to (ap (λ (v : PlainVolume). v.stopped) step.volume ∙ runs)

write_cause : (from to : PlainVolume) (p : Piece) (tried : Tried) → EntersTried tried → TriesWrite from to p tried
    → from.stopped ≡ None → HasCause to
write_cause from to p Tried.Entered enters tries runs =
    going to (settles tries.written to _ tries.settles
    (ap (λ (v : PlainVolume). v.stopped) tries.writes.rest ∙ gives_up from tries.given _ tries.gives runs))
write_cause from to p Tried.NoZone enters tries runs = absurd enters
write_cause from to p Tried.Stopped enters tries runs =
    by_disk to (ap (λ (v : PlainVolume). v.stopped) tries.fails)

commit_cause : (from to : PlainVolume) (flushes : List Piece) (result : Committed)
    → CommitStep from to flushes result → from.stopped ≡ None → HasCause to
commit_cause from to flushes Committed.More step runs = going to (ap (λ (v : PlainVolume). v.stopped) step.rest ∙ runs)
commit_cause from to flushes Committed.Ended step runs = going to (ap (λ (v : PlainVolume). v.stopped) step.rest ∙ runs)
commit_cause from to flushes (Committed.Stopped Why.Device) step runs =
    by_disk to (ap (λ (v : PlainVolume). v.stopped) step)
commit_cause from to flushes (Committed.Stopped Why.Generation) step runs = record {
  cause = λ why is.
      subst (λ (w : Why). StopsFor w to)
      (Some-same Why.Generation why (sym (ap (λ (v : PlainVolume). v.stopped) step.3) ∙ is))
      (ap (λ (v : PlainVolume). v.head.generation) step.3 ∙ step.2);
}
commit_cause from to flushes (Committed.Stopped Why.Memory) step runs = absurd step

work_cause : (kind : StepKind) (from to : PlainVolume) (w : JobWork) (result : Result StepKind Why) (u x : View)
    → WorksOn kind from to w result u x → from.stopped ≡ None → HasCause to
work_cause StepKind.CopyRead from to w (Ok did) u x works runs =
    going to (ap (λ (v : PlainVolume). v.stopped) works.ok.2.rest ∙ runs)
work_cause StepKind.CopyRead from to w (Err why) u x works runs =
    by_disk to (ap (λ (v : PlainVolume). v.stopped) works.err.rest)
work_cause StepKind.CopyWrite from to w (Ok did) u x works runs =
    going to (ap (λ (v : PlainVolume). v.stopped) works.ok.rest ∙ runs)
work_cause StepKind.CopyWrite from to w (Err why) u x works runs =
    by_disk to (ap (λ (v : PlainVolume). v.stopped) works.err.rest)
work_cause StepKind.Remap from to w result u x works runs =
    going to (ap (λ (v : PlainVolume). v.stopped) works.1.rest ∙ runs)
work_cause StepKind.ReadRun from to w result u x works runs = absurd works
work_cause StepKind.MergeRead from to w result u x works runs = absurd works
work_cause StepKind.Write from to w result u x works runs = absurd works
work_cause StepKind.Discard from to w result u x works runs = absurd works
work_cause StepKind.TakeZone from to w result u x works runs = absurd works
work_cause StepKind.Abandon from to w result u x works runs = absurd works
work_cause StepKind.Commit from to w result u x works runs = absurd works
work_cause StepKind.Enter from to w result u x works runs = absurd works
work_cause StepKind.Load from to w result u x works runs = absurd works

-- a job that begins
begin_cause : (X : Type 0) (from to : PlainVolume) (job : Job) (r : Result (Unit {0}) Why)
    → (((zone : ℕ) → HasToReset from job.kind zone → ⊥) → (w : JobWork) × BeginsJob from to job w)
    → ((zone : ℕ) → HasToReset from job.kind zone → OnOk r ((w : JobWork) × BeginsWithReset from to job w zone))
    → IfErr r (λ why. (why ≡ Why.Device) × FailsReset from to × X) → from.stopped ≡ None → HasCause to
begin_cause X from to job (Err why) still reset err runs = by_disk to (ap (λ (v : PlainVolume). v.stopped) err.1)
begin_cause X from to job (Ok did) still reset err runs =
    going to (must_go to.stopped (λ stops. stops (ap (λ (v : PlainVolume). v.stopped)
    (still (λ zone has. stops (ap (λ (v : PlainVolume). v.stopped) (reset zone has).1.rest ∙ runs))).1.rest ∙ runs)))

-- A STEP, of a session that goes on
module _ {D : Type 0} (look : D → View) (from to : SessionView D) (actor : ℕ)
    (runs : from.volume.plain.stopped ≡ None) where
  abbrev new : PlainVolume
  new = to.volume.plain

  same : new ≡ from.volume.plain → HasCause new
  same is = going new (ap (λ (v : PlainVolume). v.stopped) is ∙ runs)

  in_cause : (p : Piece) (o : Operation) (merges : Bool) → ServesIn look from to actor p o merges → HasCause new
  in_cause p Reading merges serves =
      read_cause from.volume.plain new (look from.volume.disk) (look to.volume.disk) serves.flight serves.next serves.ran
      serves.step runs
  in_cause p Writing true serves = edge serves.did
    where
      edge : ReadsEdgeOf look from to actor p ⊎ FailsEdge look from to → HasCause new
      edge (inl reads) = same reads.volume
      edge (inr fails) = by_disk new (ap (λ (v : PlainVolume). v.stopped) fails.volume)
  in_cause p Writing false serves = write_cause from.volume.plain new p serves.tried serves.enters serves.tries runs
  in_cause p Discarding merges serves =
      going new (settles serves.discards.dropped new _ serves.discards.settles
      (ap (λ (v : PlainVolume). v.stopped) serves.discards.drops.rest
      ∙ gives_up from.volume.plain serves.discards.given _ serves.discards.gives runs))
  in_cause p Flushing merges serves = absurd serves

  piece_cause : (p : Piece) (past : Bool) → ServesBy look from to actor p past → HasCause new
  piece_cause p true serves = going new (ap (λ (v : PlainVolume). v.stopped) serves.enters ∙ runs)
  piece_cause p false serves =
      in_cause p (operation_of p.what) ((standing_seen from actor).merges p) serves

  step_cause : (step : Step) → Makes look from to actor (Some step) → HasCause new
  step_cause (Serve p) makes = piece_cause p p.range makes
  step_cause Commit makes = commit_cause from.volume.plain new _ makes.result makes.step runs
  step_cause Begin makes =
      begin_cause (HasFailed (look from.volume.disk) (look to.volume.disk)) from.volume.plain new makes.job makes.result (λ none. (makes.still none).2)
      (λ zone has. (makes.reset zone has).1) makes.err runs
  step_cause (Work kind) makes =
      work_cause makes.makes.kind from.volume.plain new makes.makes.work makes.result (look from.volume.disk)
      (look to.volume.disk) makes.makes.works runs

-- a session that has a next step goes on
not_stopped : (o : Option Why) → is_some o ≡ false → o ≡ None
not_stopped None is = refl
not_stopped (Some why) is = absurd (let f : ⊥ = cc in f)

some_going : (stopped over : Bool) (next : Option Step) (step : Step)
    → (if stopped || over then None else next) ≡ Some step → stopped ≡ false
some_going false over next step is = refl
some_going true over next step is = absurd (let f : ⊥ = cc in f)

goes_on : {D : Type 0} (from : SessionView D) (actor : ℕ) (prefer : Prefer) (step : Step)
    → next_seen from actor prefer ≡ Some step → from.volume.plain.stopped ≡ None
goes_on from actor prefer step is =
    not_stopped from.volume.plain.stopped
    (some_going (is_some from.volume.plain.stopped) (is_over (run_seen from)) _ step is)

-- ONE STEP, and any turns
module _ {D : Type 0} (look : D → View) where
  turn_cause : (from to : SessionView D) (actor : ℕ) (prefer : Prefer) (next : Option Step)
      → next_seen from actor prefer ≡ next → Makes look from to actor next → HasCause from.volume.plain
      → HasCause to.volume.plain
  turn_cause from to actor prefer None is makes cause =
      subst (λ (s : SessionView D). HasCause s.volume.plain) (sym makes) cause
  turn_cause from to actor prefer (Some step) is makes cause =
      step_cause look from to actor (goes_on from actor prefer step is) step makes

  pub turns_cause : (turns : List (ℕ × Prefer)) (from to : SessionView D) → MakesTurns look from to turns
      → HasCause from.volume.plain → HasCause to.volume.plain
  turns_cause [] from to makes cause = subst (λ (s : SessionView D). HasCause s.volume.plain) (sym makes) cause
  turns_cause (turn ∷ turns) from to makes cause =
      turns_cause turns makes.0 to makes.3
      (turn_cause from makes.0 turn.0 turn.1 (next_seen from turn.0 turn.1) refl makes.2.makes cause)

  -- WHAT NO TURN CHANGES
  pub turns_keep : (turns : List (ℕ × Prefer)) (from to : SessionView D) → MakesTurns look from to turns
      → KeepsSession from to
  turns_keep [] from to makes = record {
    opening = ap (λ (s : SessionView D). s.volume.opening) makes;
    room = ap (λ (s : SessionView D). s.volume.room) makes;
    plan = ap (λ (s : SessionView D). s.plan) makes;
    count = ap (λ (s : SessionView D). length s.flights) makes;
    geometry = ap (λ (s : SessionView D). s.volume.plain.geometry) makes;
    layout = ap (λ (s : SessionView D). s.volume.plain.head.layout) makes;
    generation = ap (λ (s : SessionView D). s.volume.plain.opening_generation) makes;
  }
  turns_keep (turn ∷ turns) from to makes =
      let one = makes.2.keeps in
      let rest = turns_keep turns makes.0 to makes.3 in
      record {
        opening = rest.opening ∙ one.opening;
        room = rest.room ∙ one.room;
        plan = rest.plan ∙ one.plan;
        count = rest.count ∙ one.count;
        geometry = rest.geometry ∙ one.geometry;
        layout = rest.layout ∙ one.layout;
        generation = rest.generation ∙ one.generation;
      }

-- a session that keeps all that is the same one
same_kept : {D : Type 0} (look : D → View) (from to : SessionView D) → KeepsSession from to
    → IsSameSession look from to
same_kept {D} look from to keeps = record {
  actors = keeps.count;
  plan = keeps.plan;
  geometry = keeps.geometry;
  layout = keeps.layout;
  generation = keeps.generation;
  opening = record {
    base = ap (λ (d : D). base_at (look d).zones) keeps.opening;
    told = ap (λ (d : D). is_some (look d).zones) keeps.opening;
    calls = ap (λ (d : D). (look d).calls) keeps.opening;
    faults = ap (λ (d : D). (look d).faults) keeps.opening;
  };
}

-- A SESSION THAT HAD JUST BEGUN WAS RUN BY ITS FIRST ACTOR
pub runs_alone : {D : Type 0} (look : D → View) (from to : SessionView D) → IsNewSession from → RunsLone look from to
    → (to.volume.plain.stopped ≡ None → AreCalm to.volume.plain.history) → RunsAlone look from to
runs_alone look from to new lone calm =
    let turns = replicate lone.turns.0 (0, Prefer.Pieces) in
    let keeps = turns_keep look turns from to lone.turns.1 in
    record {
      runs = record {
        same = same_kept look from to keeps;
        caused = turns_cause look turns from to lone.turns.1 (going from.volume.plain new.fresh.running);
        calm = calm;
      };
      opening = keeps.opening;
      timely = lone.timely new;
    }

-- why a volume stopped, said both ways
pub says_why : (v : PlainVolume) → HasCause v → SaysWhy v
says_why v has = (λ is. has.cause Why.Memory is, λ is. has.cause Why.Generation is)

pub has_cause : (v : PlainVolume) → SaysWhy v → HasCause v
has_cause v says = record { cause = by }
  where
    by : (why : Why) → v.stopped ≡ Some why → StopsFor why v
    by Why.Memory is = says.0 is
    by Why.Device is = tt
    by Why.Generation is = says.1 is

-- A STEP OF ANY ACTOR says so again
pub step_says : {D : Type 0} (look : D → View) (from to : SessionView D) (actor : ℕ) (prefer : Prefer)
    (result : Stepped) → MakesStep look from to actor prefer result → SaysWhy from.volume.plain
    → SaysWhy to.volume.plain
step_says look from to actor prefer result makes says =
    says_why to.volume.plain
    (turn_cause look from to actor prefer (next_seen from actor prefer) refl makes.makes
    (has_cause from.volume.plain says))
