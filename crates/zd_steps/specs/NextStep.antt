-- WHICH STEP COMES NEXT: the three classes of steps, and the order in which an actor tries them.
use Rattle.std.specs.Prelude.{ℕ, ◌+◌, ◌/◌, Bool, true, not, ◌&&◌, ◌||◌, nat_lt, max}
use Rattle.std.specs.Prelude.{if◌then◌else◌, Option, Some, None, find, is_none}
use Rattle.zd_base.specs.declared.steps.Prefer.{Prefer}
use Rattle.zd_base.specs.declared.steps.Prefer.TheVariants.{Pieces, Commits, Jobs}
use Rattle.zd_base.specs.declared.steps.StepKind.{StepKind}
use Rattle.zd_base.specs.declared.steps.StepKind.TheVariants.{ReadRun, MergeRead, TakeZone, Remap, Enter}
use Rattle.zd_base.specs.declared.steps.StepKind.TheVariants as kinds
use Rattle.zd_model.specs.Requests.{Operation, operation_of}
use Rattle.zd_model.specs.Requests.Operation.{Reading, Writing, Discarding, Flushing}
use Rattle.zd_model.specs.declared.requests.Piece.{Piece}
use Rattle.zd_steps.specs.Runs.{Run, Standing, flight_of, has_flush, is_over, is_ready, is_servable, is_wanted}
use Rattle.zd_steps.specs.declared.step.Step.{Step}
use Rattle.zd_steps.specs.declared.step.Step.TheVariants.{Serve, Commit, Begin, Work}

module _ (v : Standing) where
  -- a commit is due: none is under way, and a flush is eligible, or a zone is wanted and one is in limbo
  abbrev pub is_commit_due : Bool → Bool → Bool
  is_commit_due flush wanted = not v.commits && (flush || (wanted && v.has_limbo))

  -- few conventional zones are free or will be
  abbrev pub is_low : Bool
  is_low = nat_lt (v.free + v.limbo) (max 1 (v.data_zones / 4))

  -- a job is due: none is under way, nor a commit; a zone is wanted and none is in limbo, or zones are low;
  -- and a job can be picked
  abbrev pub is_job_due : Bool → Bool
  is_job_due wanted = is_none v.job && not v.commits
      && ((wanted && not v.has_limbo) || is_low) && v.picks

  -- a step of a job may be done now: no job ends while a commit is under way
  abbrev pub may_work : StepKind → Bool
  may_work Remap = not v.commits
  may_work kind = true

module _ (r : Run) (v : Standing) where
  abbrev pub first_serve : Option Piece → Option Step
  first_serve None = None
  first_serve (Some p) = Some (Serve p)

  -- PIECES, for an actor with this in flight: the next step of that piece where it is ready, and nothing
  -- else; for any other actor the first eligible piece in the script that is ready
  abbrev pub piece_step : Option Piece → Option Step
  piece_step None = first_serve (find (is_servable r v) r.pieces)
  piece_step (Some p) = if is_ready v p then Some (Serve p) else None

  -- COMMITS: the next call of the commit that is under way or due
  abbrev pub commit_step : Option Step
  commit_step = if v.commits || is_commit_due v (has_flush r) (is_wanted r v) then Some Commit else None

  -- JOBS: the next step of the job under way where it may be done now, or the first of one that is due
  abbrev pub job_step : Option StepKind → Option Step
  job_step None = if is_job_due v (is_wanted r v) then Some Begin else None
  job_step (Some kind) = if may_work v kind then Some (Work kind) else None

  -- the first of two steps
  abbrev pub or_else : Option Step → Option Step → Option Step
  or_else None other = other
  or_else (Some step) other = Some step

  -- the classes in the order that is preferred
  abbrev pub by_preference : Prefer → Option Step → Option Step → Option Step → Option Step
  by_preference Pieces p c j = or_else p (or_else c j)
  by_preference Commits p c j = or_else c (or_else j p)
  by_preference Jobs p c j = or_else j (or_else c p)

  -- THE ONE STEP OF AN ACTOR, or none: none once the volume has stopped or all pieces are entered
  abbrev pub next_step : ℕ → Prefer → Option Step
  next_step actor prefer =
      if v.stopped || is_over r
      then None
      else by_preference prefer (piece_step (flight_of r actor)) commit_step (job_step v.job)

-- the kind of a step of a piece in range, a write of which has an edge to be read or hasn't
abbrev pub kind_by : Operation → Bool → StepKind
kind_by Reading merges = ReadRun
kind_by Writing merges = if merges then MergeRead else kinds.Write
kind_by Discarding merges = kinds.Discard
kind_by Flushing merges = kinds.Commit

-- the kind of a step
abbrev pub kind_of : Standing → Step → StepKind
kind_of v (Serve p) = if p.range then Enter else kind_by (operation_of p.what) (v.merges p)
kind_of v Commit = kinds.Commit
kind_of v Begin = TakeZone
kind_of v (Work kind) = kind
