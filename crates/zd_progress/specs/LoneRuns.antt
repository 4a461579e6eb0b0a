-- A run of one actor that prefers pieces, as numbers: what is still to come before the next piece is entered.
use Rattle.std.specs.Prelude.{◌≡◌, ℕ, ◌+◌, ◌*◌, ◌<◌, ◌≤◌, Bool, true, false, ◌&&◌, ◌==◌, nat_lt}
use Rattle.std.specs.Prelude.{if◌then◌else◌, set, Option, Some, None}
use Rattle.zd_base.specs.declared.geometry.Kind.TheVariants.{Conventional, Sequential}
use Rattle.zd_model.specs.declared.metadata.MapEntry.{MapEntry}
use Rattle.zd_progress.specs.Stocks.{IsStocked, Stock, free_of, in_limbo, limbo_of, on_count}

-- a job under way: the zone that it will give back, the entry that its chunk will have, and how many writing calls
-- it may still make
pub record JobAhead : Type 0 where
  pub chunk : ℕ
  pub source : ℕ
  pub result : MapEntry
  pub calls : ℕ

pub record LoneRun : Type 0 where
  pub stock : Stock
  pub job : Option JobAhead
  -- the calls that the commit under way still makes; 0 where none is
  pub commit : ℕ
  -- the blocks that are dirty
  pub dirty : ℕ
  -- the actor's own piece in flight is ready, or it has none and some eligible piece is; or all pieces are entered
  pub is_ready : Bool
  -- a flush is eligible
  pub flush_waits : Bool
  -- a zone is wanted
  pub is_wanted : Bool
  -- the writing calls so far, and the jobs and commits that began
  pub calls : ℕ
  pub jobs : ℕ
  pub commits : ℕ

-- the calls of a commit with so many dirty blocks
abbrev pub calls_of_commit : ℕ → ℕ
calls_of_commit d = if d == 0 then 1 else 2 * d + 6

-- how many jobs may still be needed, where no conventional zone is free and none is under way
abbrev pub jobs_needed : Stock → ℕ
jobs_needed s =
    if nat_lt 0 (free_of Conventional s + limbo_of Conventional s) then 0
    else (if nat_lt 0 (on_count s.division.conv s.entries)
    && nat_lt 0 (free_of Sequential s + limbo_of Sequential s) then 1 else 2)

-- and behind one: none where it gives a conventional zone back
abbrev pub jobs_behind : ℕ → JobAhead → ℕ
jobs_behind conv w = if nat_lt w.source conv then 0 else 1

-- a commit that comes at once, where none is under way and a zone is in limbo
abbrev pub commits_now : ℕ → Stock → ℕ
commits_now commit s = if (commit == 0) && nat_lt 0 (in_limbo s) then 1 else 0

-- the jobs that may still begin before a piece is entered, by whether one is ready and whether a flush waits
abbrev pub jobs_ahead : Bool → Bool → Option JobAhead → Stock → ℕ
jobs_ahead true flush job s = 0
jobs_ahead false true job s = 0
jobs_ahead false false (Some w) s = jobs_behind s.division.conv w
jobs_ahead false false None s = jobs_needed s

-- the commits: one behind each job
abbrev pub commits_ahead : Bool → Bool → Option JobAhead → ℕ → Stock → ℕ
commits_ahead true flush job commit s = 0
commits_ahead false true job commit s = if commit == 0 then 1 else 0
commits_ahead false false (Some w) commit s = jobs_behind s.division.conv w + 1
commits_ahead false false None commit s = jobs_needed s + commits_now commit s

abbrev pub job_calls : Option JobAhead → ℕ
job_calls None = 0
job_calls (Some w) = w.calls

-- the writing calls, where a job makes j at most and a commit c
abbrev pub calls_ahead : ℕ → ℕ → Bool → Bool → Option JobAhead → ℕ → Stock → ℕ
calls_ahead j c true flush job commit s = 1
calls_ahead j c false flush job commit s =
    commit + job_calls job + j * jobs_ahead false flush job s + c * commits_ahead false flush job commit s + 1

-- WHAT IS TO COME before the next piece is entered
abbrev pub jobs_to_come : LoneRun → ℕ
jobs_to_come r = jobs_ahead r.is_ready r.flush_waits r.job r.stock

abbrev pub commits_to_come : LoneRun → ℕ
commits_to_come r = commits_ahead r.is_ready r.flush_waits r.job r.commit r.stock

abbrev pub calls_to_come : ℕ → ℕ → LoneRun → ℕ
calls_to_come j c r = calls_ahead j c r.is_ready r.flush_waits r.job r.commit r.stock

-- no more than two jobs and three commits, and the calls that they allow
abbrev pub most_calls : ℕ → ℕ → ℕ
most_calls j c = 2 * j + 3 * c + 1

-- what the rules of steps say: where nothing is ready, no commit is under way and no flush waits, a zone is wanted;
-- and none is free then
pub record IsWaitingRun (r : LoneRun) : Type 0 where
  pub some : r.is_ready ≡ false → r.commit ≡ 0 → r.flush_waits ≡ false → r.is_wanted ≡ true
  pub none_free : r.is_wanted ≡ true → free_of Conventional r.stock ≡ 0

-- a job is under way only where nothing else could be done; one that gives no conventional zone back leaves a chunk
-- on a conventional zone
pub record IsBeside (w : JobAhead) (r : LoneRun) : Type 0 where
  pub not_ready : r.is_ready ≡ false
  pub no_flush : r.flush_waits ≡ false
  pub no_commit : r.commit ≡ 0
  pub no_free : free_of Conventional r.stock ≡ 0
  pub no_limbo : in_limbo r.stock ≡ 0
  pub on : r.stock.division.conv ≤ w.source →
      0 < on_count r.stock.division.conv (set r.stock.entries w.chunk w.result)

-- A RUN THAT HAS BEEN ALONE since it began; a job makes j calls at most, a commit c
pub record IsAlone (first j c : ℕ) (r : LoneRun) : Type 0 where
  pub waiting : IsWaitingRun r
  pub stocked : r.job ≡ None → IsStocked first r.stock
  pub beside : (w : JobAhead) → r.job ≡ Some w → IsBeside w r
  pub few_calls : job_calls r.job ≤ j
  pub commit : r.commit ≤ c
  pub dirty : calls_of_commit r.dirty ≤ c

-- what the volume and the rules of steps give after each step
pub record IsSoundRun (first c : ℕ) (r : LoneRun) : Type 0 where
  pub waiting : IsWaitingRun r
  pub stocked : r.job ≡ None → IsStocked first r.stock
  pub dirty : calls_of_commit r.dirty ≤ c
