-- Entries counted one by one.
use Rattle.std.proofs.Common.{◌≡◌, ℕ, ◌+◌, Bool, cond, List, [], ◌++◌, take, Some, sym, ap, ap₂, ◌∙◌, add-one}
use Rattle.std.specs.Prelude.{codes, count_by}
use Rattle.std.specs.List.{slice_get}
use Rattle.std.proofs.lemmas.List.Sums.{sum_by_push}
use Rattle.zd_model.specs.History.{HistoryEntry}
use Rattle.zd_model.specs.Requests.Operation.{Reading, Writing, Discarding, Flushing}
use Rattle.zd_report.specs.Counting.{AreCounts, CountsEntry, more_if}
use Rattle.zd_report.specs.Summary.{count_line, counts_text, is_entry_of, is_failed_entry}
use Rattle.zd_report.specs.declared.summaries.EntryCounts.{EntryCounts}
use Rattle.zd_report.proofs.Found.{take_found}

module _ (history : List HistoryEntry) (i : ℕ) (e : HistoryEntry) (here : slice_get history i ≡ Some e) where
  one_more : (p : HistoryEntry → Bool) (old new : ℕ) → old ≡ count_by p (take i history)
      → new ≡ more_if (p e) old → new ≡ count_by p (take (i + 1) history)
  one_more p old new before counts =
      rw (add-one, take_found history i e here) (
      counts ∙ ap (more_if (p e)) before ∙ sym (sum_by_push (λ x. cond (p x) 1 0) (take i history) e))

  -- one more entry was counted
  pub counted_more : (old new : EntryCounts) → AreCounts (take i history) old → CountsEntry e old new
      → AreCounts (take (i + 1) history) new
  counted_more old new before counts = record {
    reads = one_more (is_entry_of Reading) old.reads new.reads before.reads counts.reads;
    writes = one_more (is_entry_of Writing) old.writes new.writes before.writes counts.writes;
    discards = one_more (is_entry_of Discarding) old.discards new.discards before.discards counts.discards;
    flushes = one_more (is_entry_of Flushing) old.flushes new.flushes before.flushes counts.flushes;
    faults = one_more is_failed_entry old.faults new.faults before.faults counts.faults;
  }

-- the lines of the counts, one after another
pub six_lines : (history : List HistoryEntry) (n m : ℕ) (counts : EntryCounts) → m ≡ n → AreCounts history counts
    → (a b c d e f g : List ℕ) → a ≡ [] → b ≡ a ++ count_line (codes "made") m
    → c ≡ b ++ count_line (codes "read") counts.reads → d ≡ c ++ count_line (codes "write") counts.writes
    → e ≡ d ++ count_line (codes "discard") counts.discards → f ≡ e ++ count_line (codes "flush") counts.flushes
    → g ≡ f ++ count_line (codes "fault") counts.faults → g ≡ counts_text history n
unfolding counts_text
six_lines history n m counts same are a b c d e f g none made reads writes discards flushes faults =
    let more : List ℕ → List ℕ → List ℕ = λ x y. x ++ y in
    faults ∙ ap₂ more (flushes ∙ ap₂ more (discards ∙ ap₂ more (writes ∙ ap₂ more (reads ∙ ap₂ more
    (made ∙ ap₂ more none (ap (count_line (codes "made")) same))
    (ap (count_line (codes "read")) are.reads))
    (ap (count_line (codes "write")) are.writes))
    (ap (count_line (codes "discard")) are.discards))
    (ap (count_line (codes "flush")) are.flushes))
    (ap (count_line (codes "fault")) are.faults)
