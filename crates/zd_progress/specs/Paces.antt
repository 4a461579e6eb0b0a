-- A run with the numbers of calls at which its pieces were entered, as the loop sees it that makes its steps.
use Rattle.std.specs.Prelude.{◌≡◌, ◌≢◌, ℕ, zero, suc, ◌+◌, ◌-◌, ◌*◌, ◌^◌, ◌<◌, ◌≤◌, Bool, true, false, ◌==◌}
use Rattle.std.specs.Prelude.{if◌then◌else◌, List, [], ◌∷◌, ◌++◌, length, slice_index, Option, Some, None}
use Rattle.zd_base.specs.declared.numbers.Why.{Why}
use Rattle.zd_base.specs.declared.numbers.Why.TheVariants.{Generation}
use Rattle.zd_base.specs.declared.steps.Stepped.{Stepped}
use Rattle.zd_base.specs.declared.steps.Stepped.TheVariants.{Did, Idle, Over, Stopped}
use Rattle.zd_progress.specs.LoneRuns.{IsAlone, IsSoundRun, LoneRun, calls_to_come, commits_to_come, jobs_to_come}
use Rattle.zd_progress.specs.LoneRuns.{most_calls}
use Rattle.zd_progress.specs.LoneSteps.{EntersNow, FliesOn, IsCommitNeeded, LoneStep}
use Rattle.zd_progress.specs.Measures.{IsRestWithin, Lessens, Rest}

-- the number of the entry before this one, or 0
abbrev pub at_before : List ℕ → ℕ → ℕ
at_before ats zero = 0
at_before ats (suc i) = slice_index ats i

-- NEIGHBOURING ENTRIES ARE CLOSE, and so are the first one and the beginning: each number is greater by so much at
-- most
abbrev pub AreClose : ℕ → List ℕ → Type 0
AreClose most ats = (i : ℕ) → i < length ats → slice_index ats i ≤ at_before ats i + most

-- a run, the number `at` of each entry, how many pieces aren't entered, and the generation of the last commit that
-- ended
pub record Pace : Type 0 where
  pub run : LoneRun
  pub ats : List ℕ
  pub left : ℕ
  pub generation : ℕ

-- so many entries more, with one number
abbrev pub with_entries : ℕ → ℕ → List ℕ → List ℕ
with_entries at zero ats = ats
with_entries at (suc n) ats = with_entries at n ats ++ at ∷ []

-- a commit is under way, which will raise the generation by one
abbrev pub commits_under_way : LoneRun → ℕ
commits_under_way r = if r.commit == 0 then 0 else 1

-- the generation rises by no more than the commits that begin
abbrev pub CountsCommits : Pace → Pace → Type 0
CountsCommits a b =
    b.generation + commits_under_way b.run + a.run.commits ≤ a.generation + commits_under_way a.run + b.run.commits

-- A STEP OF A RUN THAT IS ALONE and goes on
pub data PacesOn (j : ℕ) (a b : Pace) : Type 0 where
  steps : LoneStep j a.run b.run → b.ats ≡ a.ats → 0 < b.left → b.left ≡ a.left → CountsCommits a b → PacesOn j a b
  flies : FliesOn a.run b.run → b.ats ≡ a.ats → 0 < b.left → b.left ≡ a.left → CountsCommits a b → PacesOn j a b
  enters : EntersNow a.run b.run → (n : ℕ) → b.ats ≡ with_entries b.run.calls (suc n) a.ats
      → b.left + suc n ≡ a.left → CountsCommits a b → PacesOn j a b

-- a step that stops it: nothing is entered, or a fault at once
pub data HaltsAt (a b : Pace) : Type 0 where
  silent : b.ats ≡ a.ats → HaltsAt a b
  faults : (at n : ℕ) → at ≤ a.run.calls + 1 → b.ats ≡ with_entries at (suc n) a.ats → HaltsAt a b

-- a commit was due at the last generation
pub record IsAtLast (a : Pace) : Type 0 where
  pub left : 0 < a.left
  pub not_ready : a.run.is_ready ≡ false
  pub idle : a.run.commit ≡ 0
  pub due : IsCommitNeeded a.run
  pub last : a.generation ≡ 2 ^ 64 - 1

-- where the run stands, seen from the last entry or from the beginning
pub record IsInTime (j c calls jobs commits : ℕ) (r : LoneRun) : Type 0 where
  pub calls_in : r.calls + calls_to_come j c r ≤ calls + most_calls j c
  pub jobs_in : r.jobs + jobs_to_come r ≤ jobs + 2
  pub commits_in : r.commits + commits_to_come r ≤ commits + 3

-- A RUN THAT IS ALONE AND ON TIME so far
pub record IsPaced (first j c : ℕ) (p : Pace) : Type 0 where
  pub alone : IsAlone first j c p.run
  pub close : AreClose (most_calls j c) p.ats
  pub jobs_before : ℕ
  pub commits_before : ℕ
  pub few : commits_before ≤ 3 * length p.ats
  pub few_at_end : p.left ≡ 0 → p.run.commits ≤ 3 * length p.ats
  pub in_time : IsInTime j c (at_before p.ats (length p.ats)) jobs_before commits_before p.run

-- one that has just begun
pub record IsUnpaced (first j c : ℕ) (p : Pace) : Type 0 where
  pub alone : IsAlone first j c p.run
  pub none : p.ats ≡ []
  pub no_calls : p.run.calls ≡ 0
  pub no_jobs : p.run.jobs ≡ 0
  pub no_commits : p.run.commits ≡ 0

-- each piece is entered or left, and the generation has risen by no more than the commits that began
pub record IsAccounted (opening pieces : ℕ) (p : Pace) : Type 0 where
  pub all : length p.ats + p.left ≡ pieces
  pub generation : p.generation + commits_under_way p.run ≤ opening + p.run.commits

-- ALL THAT THE LOOP SEES of a session
pub record LoopState : Type 0 where
  pub pace : Pace
  pub rest : Rest
  -- what no step changes: how much may be left at most, the first data zone, the calls of a job and of a commit, the
  -- generation when opening ended, the number of pieces, and how many other actors have a piece in flight
  pub most : Rest
  pub first : ℕ
  pub job_calls : ℕ
  pub commit_calls : ℕ
  pub opening : ℕ
  pub pieces : ℕ
  pub others : ℕ
  pub stopped : Option Why
  pub has_ended : Bool

pub record KeepsLimits (a b : LoopState) : Type 0 where
  pub most : b.most ≡ a.most
  pub first : b.first ≡ a.first
  pub job_calls : b.job_calls ≡ a.job_calls
  pub commit_calls : b.commit_calls ≡ a.commit_calls
  pub opening : b.opening ≡ a.opening
  pub pieces : b.pieces ≡ a.pieces
  pub others : b.others ≡ a.others

-- no other actor has a piece in flight, and the run has been alone
pub record IsAloneNow (s : LoopState) : Type 0 where
  pub nobody : s.others ≡ 0
  pub is : IsAlone s.first s.job_calls s.commit_calls s.pace.run

-- A STEP THAT WAS MADE: less is left; and where the run is alone, it went on so
pub record IsMadeStep (a b : LoopState) : Type 0 where
  pub limits : KeepsLimits a b
  pub within : IsRestWithin a.most b.rest
  pub lessens : Lessens a.rest b.rest
  pub paces : IsAloneNow a → PacesOn a.job_calls a.pace b.pace
  pub sound : IsAloneNow a → IsSoundRun a.first a.commit_calls b.pace.run
  pub going : b.stopped ≡ None

-- WHAT EACH ANSWER OF A STEP SAYS
abbrev pub LoopAnswers : Stepped → LoopState → LoopState → Type 0
LoopAnswers (Did kind) a b = IsMadeStep a b
LoopAnswers Idle a b = (b ≡ a) × (IsAloneNow a → ⊥)
LoopAnswers Over a b = (b ≡ a) × (b.has_ended ≡ true) × (a.pace.left ≡ 0)
LoopAnswers (Stopped why) a b =
    HaltsAt a.pace b.pace × KeepsLimits a b × (b.has_ended ≡ true) × (b.stopped ≡ Some why)
    × (a.stopped ≡ None → why ≡ Generation → IsAtLast a.pace)

-- a session that has just begun; a commit makes a call at least
pub record IsFreshLoop (s : LoopState) : Type 0 where
  pub is : IsUnpaced s.first s.job_calls s.commit_calls s.pace
  pub some : 1 ≤ s.commit_calls
  pub counted : IsAccounted s.opening s.pieces s.pace
  pub going : s.stopped ≡ None
  pub nobody : s.others ≡ 0

-- one that began so, in between
pub record IsPacedLoop (s : LoopState) : Type 0 where
  pub is : IsPaced s.first s.job_calls s.commit_calls s.pace
  pub some : 1 ≤ s.commit_calls
  pub counted : IsAccounted s.opening s.pieces s.pace
  pub going : s.stopped ≡ None
  pub nobody : s.others ≡ 0

-- WHAT IS PROMISED OF THE END b of a run that began as s: it has ended, neighbouring entries are close, no commit met
-- the last generation where three commits a piece have room, and the closing one has room too
pub record IsPromised (s b : LoopState) : Type 0 where
  pub ended : b.has_ended ≡ true
  pub close : AreClose (most_calls s.job_calls s.commit_calls) b.pace.ats
  pub room : s.opening + 3 * s.pieces + 2 ≤ 2 ^ 64 - 1 → b.stopped ≢ Some Generation
  pub closing : b.stopped ≡ None → b.pace.generation + commits_under_way b.pace.run ≤ s.opening + 3 * s.pieces

-- a step that answers so ends the loop
abbrev pub IsLastAnswer : Stepped → Type 0
IsLastAnswer (Did kind) = ⊥
IsLastAnswer Idle = Unit {0}
IsLastAnswer Over = Unit {0}
IsLastAnswer (Stopped why) = Unit {0}

-- so many steps that were made, each from where the one before left the loop
abbrev pub MakesSteps : ℕ → LoopState → LoopState → Type 0
MakesSteps zero a b = b ≡ a
MakesSteps (suc n) a b = (next : LoopState) × IsMadeStep a next × MakesSteps n next b

-- A WHOLE RUN: steps that were made, and one that ends it
pub record IsWholeRun (a b : LoopState) : Type 0 where
  pub count : ℕ
  pub before : LoopState
  pub steps : MakesSteps count a before
  pub answer : Stepped
  pub is_last : IsLastAnswer answer
  pub ends : LoopAnswers answer before b
