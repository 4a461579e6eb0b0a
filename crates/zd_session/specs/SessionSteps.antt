-- One step of a session: which it is, what it makes of the session, and what it answers.
use Rattle.std.specs.Prelude.{◌≡◌, ◌⊎◌, ℕ, if◌then◌else◌, List, [], ◌∷◌, length, Option, Some, None}
use Rattle.std.specs.Prelude.{Result, IfErr, IsOk, OnOk}
use Rattle.zd_base.specs.declared.numbers.Why.{Why}
use Rattle.zd_base.specs.declared.steps.Prefer.{Prefer}
use Rattle.zd_base.specs.declared.steps.StepKind.{StepKind}
use Rattle.zd_base.specs.declared.steps.Stepped.{Stepped}
use Rattle.zd_base.specs.declared.steps.Stepped.TheVariants.{Did, Idle, Over, Stopped}
use Rattle.zd_disk.specs.Told.{next_count}
use Rattle.zd_disk.specs.View.{HasFailed, Stays, View}
use Rattle.zd_volume.specs.CommitCalls.{MakesCommitCall, StopsByDevice}
use Rattle.zd_volume.specs.Commits.{CommitStep}
use Rattle.zd_volume.specs.declared.phase.Committed.{Committed}
use Rattle.zd_volume.specs.declared.work.Job.{Job}
use Rattle.zd_volume.specs.declared.work.Work.{Work as JobWork}
use Rattle.zd_jobs.specs.JobSteps.{BeginsJob, BeginsWithReset, FailsReset}
use Rattle.zd_state.specs.JobCalls.{HasToReset, ResetsZone}
use Rattle.zd_reclaim.specs.Picks.{IsPick}
use Rattle.zd_reclaim.specs.Works.{MakesNextStep}
use Rattle.zd_steps.specs.NextStep.{kind_of}
use Rattle.zd_steps.specs.Runs.{Run, Standing, eligible_flushes, is_over}
use Rattle.zd_steps.specs.declared.step.Step.{Step}
use Rattle.zd_steps.specs.declared.step.Step.TheVariants.{Begin, Commit, Serve, Work}
use Rattle.zd_session.specs.Serving.{KeepsActors, Serves}
use Rattle.zd_session.specs.Sessions.{SessionView, next_seen, run_seen, standing_seen}

-- A CALL OF A COMMIT: the next one, with exactly the flushes that are eligible
pub record ServesCommit {D : Type 0} (look : D → View) (from to : SessionView D) : Type 0 where
  pub result : Committed
  pub step : CommitStep from.volume.plain to.volume.plain (eligible_flushes (run_seen from)) result
  pub call : MakesCommitCall result from.volume.plain (look from.volume.disk) (look to.volume.disk)
  pub cause : StopsByDevice result (look from.volume.disk) (look to.volume.disk)
  pub actors : KeepsActors from to

-- A JOB BEGINS, the one that is picked: without a call where no zone is to be reset; else that reset is the call
pub record ServesBegin {D : Type 0} (look : D → View) (from to : SessionView D) : Type 0 where
  pub job : Job
  pub pick : IsPick from.volume.plain (Some job)
  pub result : Result (Unit {0}) Why
  pub still : ((zone : ℕ) → HasToReset from.volume.plain job.kind zone → ⊥) → IsOk result
      × (to.volume.disk ≡ from.volume.disk)
      × ((w : JobWork) × BeginsJob from.volume.plain to.volume.plain job w)
  pub reset : (zone : ℕ) → HasToReset from.volume.plain job.kind zone →
      ResetsZone zone result (look from.volume.disk) (look to.volume.disk)
      × OnOk result ((w : JobWork) × BeginsWithReset from.volume.plain to.volume.plain job w zone)
  pub err : IfErr result (λ why. (why ≡ Why.Device) × FailsReset from.volume.plain to.volume.plain
      × HasFailed (look from.volume.disk) (look to.volume.disk))
  pub actors : KeepsActors from to

-- A STEP OF THE JOB UNDER WAY, of this kind; the last one makes no call
pub record ServesWork {D : Type 0} (look : D → View) (from to : SessionView D) (kind : StepKind) : Type 0 where
  pub result : Result StepKind Why
  pub makes : MakesNextStep from.volume.plain to.volume.plain result (look from.volume.disk) (look to.volume.disk)
  pub is : makes.kind ≡ kind
  pub disk : kind ≡ StepKind.Remap → to.volume.disk ≡ from.volume.disk
  pub actors : KeepsActors from to

-- WHAT A STEP MAKES OF A SESSION; where there is none, nothing
abbrev pub Makes : {D : Type 0} → (D → View) → SessionView D → SessionView D → ℕ → Option Step → Type 0
Makes look from to actor None = to ≡ from
Makes look from to actor (Some (Serve p)) = Serves look from to actor p
Makes look from to actor (Some Commit) = ServesCommit look from to
Makes look from to actor (Some Begin) = ServesBegin look from to
Makes look from to actor (Some (Work kind)) = ServesWork look from to kind

-- WHAT IT ANSWERS: that it stopped the session, or its kind; where there is no step, that the session had stopped, that
-- all pieces were entered, or that there is nothing to do for this actor
abbrev pub answer_by : Run → Standing → Option Step → Option Why → Stepped
answer_by r v None (Some why) = Stopped why
answer_by r v None None = if is_over r then Over else Idle
answer_by r v (Some step) (Some why) = Stopped why
answer_by r v (Some step) None = Did (kind_of v step)

-- ONE CALL OF THE DISK AT MOST: a writing call, or a reading call
pub record CallsAtMostOnce (u x : View) : Type 0 where
  pub stays : Stays u x
  pub calls : ((x.calls ≡ u.calls) × (x.read_calls ≡ u.read_calls))
      ⊎ ((x.calls ≡ next_count u.calls) × (x.read_calls ≡ u.read_calls))
      ⊎ ((x.calls ≡ u.calls) × (x.read_calls ≡ next_count u.read_calls))

-- what no step changes: the requests, the actors, and what the volume was when opening ended
pub record KeepsSession {D : Type 0} (from to : SessionView D) : Type 0 where
  pub opening : to.volume.opening ≡ from.volume.opening
  pub room : to.volume.room ≡ from.volume.room
  pub plan : to.plan ≡ from.plan
  pub count : length to.flights ≡ length from.flights
  pub geometry : to.volume.plain.geometry ≡ from.volume.plain.geometry
  pub layout : to.volume.plain.head.layout ≡ from.volume.plain.head.layout
  pub generation : to.volume.plain.opening_generation ≡ from.volume.plain.opening_generation

-- ONE STEP OF AN ACTOR: exactly the one that the rules name
pub record MakesStep {D : Type 0} (look : D → View) (from to : SessionView D) (actor : ℕ) (prefer : Prefer)
    (result : Stepped) : Type 0 where
  pub makes : Makes look from to actor (next_seen from actor prefer)
  pub answer : result ≡ answer_by (run_seen from) (standing_seen from actor) (next_seen from actor prefer)
      to.volume.plain.stopped
  pub calls : CallsAtMostOnce (look from.volume.disk) (look to.volume.disk)
  pub keeps : KeepsSession from to

-- one step for each turn, in their order
abbrev pub MakesTurns : {D : Type 0} → (D → View) → SessionView D → SessionView D → List (ℕ × Prefer) → Type 0
MakesTurns look from to [] = to ≡ from
MakesTurns {D} look from to (turn ∷ turns) =
    (mid : SessionView D) × (result : Stepped) × MakesStep look from mid turn.0 turn.1 result
    × MakesTurns look mid to turns
