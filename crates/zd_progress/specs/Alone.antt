-- What the rules of steps say of an actor that prefers pieces, while no other one has a piece in flight.
use Rattle.std.specs.Prelude.{◌≡◌, ℕ, true, false, ◌||◌, nat_lt, List, drop, slice_get, count_by, Option, Some, None}
use Rattle.std.specs.Prelude.{is_some}
use Rattle.zd_base.specs.declared.geometry.Kind.TheVariants.{Conventional}
use Rattle.zd_model.specs.declared.requests.Piece.{Piece}
use Rattle.zd_steps.specs.NextStep.{piece_step}
use Rattle.zd_steps.specs.Runs.{Run, Standing, flight_of, has_flush, is_over, is_wanted}
use Rattle.zd_steps.specs.declared.step.Step.{Step}
use Rattle.zd_steps.specs.declared.step.Step.TheVariants.{Serve, Commit, Begin, Work}
use Rattle.zd_progress.specs.LoneRuns.{JobAhead, LoneRun}
use Rattle.zd_progress.specs.LoneSteps.{IsCommitNeeded}
use Rattle.zd_progress.specs.Stocks.{free_of, in_limbo}

-- NOBODY ELSE has a piece in flight
abbrev pub FliesAlone : List (Option Piece) → ℕ → Type 0
FliesAlone flights actor = (other : ℕ) (p : Piece) → slice_get flights other ≡ Some (Some p) → other ≡ actor

-- how many actors but the first one have
abbrev pub others_in : List (Option Piece) → ℕ
others_in flights = count_by (λ (f : Option Piece). is_some f) (drop 1 flights)

-- THE NUMBERS OF A RUN, as its pieces and the volume give them
pub record IsSeenBy (r : Run) (v : Standing) (actor : ℕ) (l : LoneRun) : Type 0 where
  pub ready : l.is_ready ≡ (is_over r || is_some (piece_step r v (flight_of r actor)))
  pub flush : l.flush_waits ≡ has_flush r
  pub wanted : l.is_wanted ≡ is_wanted r v
  pub commits : v.commits ≡ nat_lt 0 l.commit
  pub job : is_some v.job ≡ is_some l.job
  pub free : v.free ≡ free_of Conventional l.stock
  pub limbo : v.has_limbo ≡ nat_lt 0 (in_limbo l.stock)

-- nothing but a job can be done
pub record HasOnlyJobs (l : LoneRun) : Type 0 where
  pub not_ready : l.is_ready ≡ false
  pub no_flush : l.flush_waits ≡ false
  pub no_commit : l.commit ≡ 0
  pub no_limbo : in_limbo l.stock ≡ 0
  pub wanted : l.is_wanted ≡ true

-- WHAT THE NEXT STEP TELLS. No job begins but for want of a zone; and where there is no step, no job can be picked
abbrev pub TellsNext : LoneRun → Standing → Option Step → Type 0
TellsNext l v None = HasOnlyJobs l × (l.job ≡ None) × (v.picks ≡ false)
TellsNext l v (Some (Serve p)) = l.is_ready ≡ true
TellsNext l v (Some Commit) = (l.is_ready ≡ false) × (l.commit ≡ 0 → IsCommitNeeded l)
TellsNext l v (Some Begin) = HasOnlyJobs l × (l.job ≡ None) × (v.picks ≡ true)
TellsNext l v (Some (Work kind)) = HasOnlyJobs l × ((w : JobAhead) × (l.job ≡ Some w))
