-- What follows from the definitions.
use Rattle.std.specs.Prelude.{◌≡◌, ℕ, ◌+◌, ◌*◌, ◌<◌, ◌≤◌, false, List, Option}
use Rattle.zd_base.specs.declared.steps.Prefer.TheVariants.{Pieces}
use Rattle.zd_model.specs.History.{Mark}
use Rattle.zd_model.specs.declared.requests.Piece.{Piece}
use Rattle.zd_steps.specs.NextStep.{next_step}
use Rattle.zd_steps.specs.Queues.{HasEntered, IsQueue, QueueState, run_of}
use Rattle.zd_steps.specs.Runs.{Standing, is_over}
use Rattle.zd_progress.specs.Alone.{FliesAlone, IsSeenBy, TellsNext, others_in}
use Rattle.zd_progress.specs.LoneRuns.{IsAlone, IsWaitingRun, JobAhead, LoneRun, calls_to_come, calls_of_commit}
use Rattle.zd_progress.specs.LoneRuns.{commits_to_come, jobs_to_come, most_calls}
use Rattle.zd_progress.specs.LoneSteps.{LoneStep, SpendsNoMore}
use Rattle.zd_progress.specs.Measures.{EndsJob, jobs_ever, measure}
use Rattle.zd_progress.specs.Paces.{IsFreshLoop, IsMadeStep, IsPromised, IsWholeRun, KeepsLimits, LoopState, MakesSteps}
use Rattle.zd_progress.specs.Stocks.{Stock}

-- where nobody else has a piece in flight, nothing is ready and no commit is under way, a flush waits or a zone is
-- wanted, and none is free
abbrev pub LoneRunsWait : Type 0
LoneRunsWait = (q : QueueState) (entered : List Mark) (v : Standing) (actor : ℕ) (l : LoneRun) →
    IsQueue q.chunk_blocks q.callers q.flights → HasEntered q.callers entered → FliesAlone q.flights actor →
    IsSeenBy (run_of q entered) v actor l → IsWaitingRun l

-- and the next step of an actor that prefers pieces tells why it comes next
abbrev pub NextStepsTell : Type 0
NextStepsTell = (q : QueueState) (entered : List Mark) (v : Standing) (actor : ℕ) (l : LoneRun) →
    IsQueue q.chunk_blocks q.callers q.flights → HasEntered q.callers entered → FliesAlone q.flights actor →
    IsSeenBy (run_of q entered) v actor l → v.stopped ≡ false → is_over (run_of q entered) ≡ false →
    TellsNext l v (next_step (run_of q entered) v actor Pieces)

-- the first actor flies alone where no other has a piece in flight
abbrev pub OthersAreCounted : Type 0
OthersAreCounted = (flights : List (Option Piece)) → others_in flights ≡ 0 → FliesAlone flights 0

-- before its next piece is entered, a run that is alone begins two jobs and three commits at most, and makes no more
-- calls than they allow
abbrev pub FewAreToCome : Type 0
FewAreToCome = (first j c : ℕ) (r : LoneRun) → 1 ≤ c → IsAlone first j c r →
    (jobs_to_come r ≤ 2) × (commits_to_come r ≤ 3) × (calls_to_come j c r ≤ most_calls j c)

-- and no step that enters nothing raises what it made and what is to come
abbrev pub NoMoreIsToCome : Type 0
NoMoreIsToCome = (first j c : ℕ) (a b : LoneRun) → IsAlone first j c a → LoneStep j a b → SpendsNoMore j c a b

-- a commit of so many dirty blocks among so many that are used, behind the super block, makes no more calls than T3.3
-- counts for one
abbrev pub CommitsMakeFewCalls : Type 0
CommitsMakeFewCalls = (dirty used : ℕ) → dirty + 1 ≤ used → calls_of_commit dirty ≤ 2 * used + 4

-- each step that is made lessens the measure
abbrev pub StepsLessen : Type 0
StepsLessen = (a b : LoopState) → IsMadeStep a b → measure b.most b.rest < measure a.most a.rest

-- each job that ends lessens the number of those that may ever end
abbrev pub JobsLessen : Type 0
JobsLessen = (w : JobAhead) (a b : Stock) → EndsJob w a b → jobs_ever b < jobs_ever a

-- A RUN ENDS: it has no more steps than its measure
abbrev pub RunsEnd : Type 0
RunsEnd = (n : ℕ) (a b : LoopState) → MakesSteps n a b → n ≤ measure a.most a.rest

-- its limits stay
abbrev pub RunsKeepLimits : Type 0
RunsKeepLimits = (n : ℕ) (a b : LoopState) → MakesSteps n a b → KeepsLimits a b

-- A WHOLE RUN OF A SESSION THAT HAS JUST BEGUN ends it, enters its pieces in time, and has room for its commits
abbrev pub WholeRunsArePromised : Type 0
WholeRunsArePromised = (s b : LoopState) → IsFreshLoop s → IsWholeRun s b → IsPromised s b
