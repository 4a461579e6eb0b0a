-- The entries of each kind, counted one by one.
use Rattle.std.specs.Prelude.{◌≡◌, ℕ, ◌+◌, ◌<◌, ◌^◌, Bool, if◌then◌else◌, List, count_by}
use Rattle.zd_model.specs.History.{HistoryEntry}
use Rattle.zd_model.specs.Requests.Operation.{Reading, Writing, Discarding, Flushing}
use Rattle.zd_report.specs.Summary.{is_entry_of, is_failed_entry}
use Rattle.zd_report.specs.declared.summaries.EntryCounts.{EntryCounts}

-- those of a history
pub record AreCounts (history : List HistoryEntry) (counts : EntryCounts) : Type 0 where
  pub reads : counts.reads ≡ count_by (is_entry_of Reading) history
  pub writes : counts.writes ≡ count_by (is_entry_of Writing) history
  pub discards : counts.discards ≡ count_by (is_entry_of Discarding) history
  pub flushes : counts.flushes ≡ count_by (is_entry_of Flushing) history
  pub faults : counts.faults ≡ count_by is_failed_entry history

-- each of them can be one more
pub record CanCount (counts : EntryCounts) : Type 0 where
  pub reads : counts.reads + 1 < 2 ^ 64
  pub writes : counts.writes + 1 < 2 ^ 64
  pub discards : counts.discards + 1 < 2 ^ 64
  pub flushes : counts.flushes + 1 < 2 ^ 64
  pub faults : counts.faults + 1 < 2 ^ 64

-- one more where a test holds
abbrev pub more_if : Bool → ℕ → ℕ
more_if b n = n + (if b then 1 else 0)

-- this entry was counted
pub record CountsEntry (e : HistoryEntry) (old new : EntryCounts) : Type 0 where
  pub reads : new.reads ≡ more_if (is_entry_of Reading e) old.reads
  pub writes : new.writes ≡ more_if (is_entry_of Writing e) old.writes
  pub discards : new.discards ≡ more_if (is_entry_of Discarding e) old.discards
  pub flushes : new.flushes ≡ more_if (is_entry_of Flushing e) old.flushes
  pub faults : new.faults ≡ more_if (is_failed_entry e) old.faults
