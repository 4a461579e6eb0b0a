-- What each kind of step makes of a run that is alone.
use Rattle.std.specs.Prelude.{◌≡◌, ℕ, ◌+◌, ◌<◌, ◌≤◌, Bool, true, false, ◌==◌, if◌then◌else◌, length, map, set}
use Rattle.std.specs.Prelude.{Some, None}
use Rattle.zd_base.specs.declared.geometry.Kind.TheVariants.{Conventional}
use Rattle.zd_alloc.specs.Zones.{after_limbo, use_after_release}
use Rattle.zd_progress.specs.LoneRuns.{JobAhead, LoneRun, calls_to_come, calls_of_commit, commits_to_come, jobs_to_come}
use Rattle.zd_progress.specs.Stocks.{IsPickedFor, free_of, in_limbo}

-- WHY A COMMIT IS DUE: a flush waits, or a zone is wanted and one is in limbo
pub data IsCommitNeeded (r : LoneRun) : Type 0 where
  flush : r.flush_waits ≡ true → IsCommitNeeded r
  zone : r.is_wanted ≡ true → 0 < in_limbo r.stock → IsCommitNeeded r

-- THE NEXT CALL OF A COMMIT, by which no piece is entered
pub record CommitsOn (a b : LoneRun) : Type 0 where
  pub not_ready : a.is_ready ≡ false
  pub no_job : a.job ≡ None
  pub no_job_yet : b.job ≡ None
  pub due : a.commit ≡ 0 → IsCommitNeeded a
  pub flush : b.flush_waits ≡ a.flush_waits
  pub goes_on : a.flush_waits ≡ true → 0 < b.commit
  pub left : b.commit + 1 ≡ (if a.commit == 0 then calls_of_commit a.dirty else a.commit)
  pub under_way : 0 < b.commit → b.stock ≡ a.stock
  pub ended : b.commit ≡ 0 → b.stock ≡ record a.stock {
    division = record a.stock.division { zones = map after_limbo a.stock.division.zones };
  }
  pub begun : b.commits ≡ a.commits + (if a.commit == 0 then 1 else 0)
  pub jobs : b.jobs ≡ a.jobs
  pub calls : b.calls ≤ a.calls + 1

-- A JOB BEGINS that was due for want of a zone
pub record StartsJob (j : ℕ) (a b : LoneRun) : Type 0 where
  pub not_ready : a.is_ready ≡ false
  pub no_flush : a.flush_waits ≡ false
  pub no_commit : a.commit ≡ 0
  pub no_limbo : in_limbo a.stock ≡ 0
  pub no_job : a.job ≡ None
  pub job : JobAhead
  pub is : b.job ≡ Some job
  pub inside : job.chunk < length a.stock.entries
  pub picked : IsPickedFor a.stock job.chunk job.source job.result
  pub same_ready : b.is_ready ≡ false
  pub same_flush : b.flush_waits ≡ false
  pub same_commit : b.commit ≡ 0
  pub entries : b.stock.entries ≡ a.stock.entries
  pub conv : b.stock.division.conv ≡ a.stock.division.conv
  pub same_free : free_of Conventional b.stock ≡ free_of Conventional a.stock
  pub same_limbo : in_limbo b.stock ≡ in_limbo a.stock
  pub commits : b.commits ≡ a.commits
  pub jobs : b.jobs ≡ a.jobs + 1
  pub later : a.calls ≤ b.calls
  pub calls : b.calls + job.calls ≤ a.calls + j

-- A COPY is read or written
pub record CopiesOne (a b : LoneRun) : Type 0 where
  pub job : JobAhead
  pub left : ℕ
  pub was : a.job ≡ Some job
  pub is : b.job ≡ Some (record job { calls = left })
  pub same_ready : b.is_ready ≡ a.is_ready
  pub same_flush : b.flush_waits ≡ a.flush_waits
  pub same_commit : b.commit ≡ a.commit
  pub stock : b.stock ≡ a.stock
  pub commits : b.commits ≡ a.commits
  pub jobs : b.jobs ≡ a.jobs
  pub later : a.calls ≤ b.calls
  pub calls : b.calls + left ≤ a.calls + job.calls

-- A JOB ENDS: its chunk has its entry, and its source is free or in limbo
pub record FinishesJob (a b : LoneRun) : Type 0 where
  pub job : JobAhead
  pub by_commit : Bool
  pub was : a.job ≡ Some job
  pub is : b.job ≡ None
  pub inside : job.source < length a.stock.division.zones
  pub kinds : a.stock.division.conv ≤ length a.stock.division.zones
  pub same_flush : b.flush_waits ≡ a.flush_waits
  pub same_commit : b.commit ≡ a.commit
  pub entries : b.stock.entries ≡ set a.stock.entries job.chunk job.result
  pub conv : b.stock.division.conv ≡ a.stock.division.conv
  pub zones : b.stock.division.zones ≡ set a.stock.division.zones job.source (use_after_release by_commit)
  pub commits : b.commits ≡ a.commits
  pub jobs : b.jobs ≡ a.jobs
  pub calls : b.calls ≡ a.calls

-- a step by which no piece is entered, nor goes on
pub data LoneStep (j : ℕ) (a b : LoneRun) : Type 0 where
  commits : CommitsOn a b → LoneStep j a b
  starts : StartsJob j a b → LoneStep j a b
  copies : CopiesOne a b → LoneStep j a b
  finishes : FinishesJob a b → LoneStep j a b

-- A PIECE GOES ON: a run of a read that isn't its last, or an edge of a write. Neither makes a writing call
pub record FliesOn (a b : LoneRun) : Type 0 where
  pub ready : a.is_ready ≡ true
  pub still_ready : b.is_ready ≡ true
  pub no_job : a.job ≡ None → b.job ≡ None
  pub commit : b.commit ≡ a.commit
  pub jobs : b.jobs ≡ a.jobs
  pub commits : b.commits ≡ a.commits
  pub calls : b.calls ≡ a.calls

-- what enters pieces: one is ready, or a commit's last call enters the flushes that wait
pub data EntryCause (a b : LoneRun) : Type 0 where
  ready : a.is_ready ≡ true → b.commits ≡ a.commits → EntryCause a b
  flush : a.is_ready ≡ false → a.flush_waits ≡ true
      → b.commits ≡ a.commits + (if a.commit == 0 then 1 else 0) → EntryCause a b

-- PIECES ARE ENTERED, by one writing call at most
pub record EntersNow (a b : LoneRun) : Type 0 where
  pub cause : EntryCause a b
  pub no_job : a.job ≡ None → b.job ≡ None
  pub commit : b.commit ≤ a.commit
  pub jobs : b.jobs ≡ a.jobs
  pub calls : b.calls ≤ a.calls + 1

-- no more is to come than before, with what this step began and made
pub record SpendsNoMore (j c : ℕ) (a b : LoneRun) : Type 0 where
  pub jobs : b.jobs + jobs_to_come b ≤ a.jobs + jobs_to_come a
  pub commits : b.commits + commits_to_come b ≤ a.commits + commits_to_come a
  pub calls : b.calls + calls_to_come j c b ≤ a.calls + calls_to_come j c a
