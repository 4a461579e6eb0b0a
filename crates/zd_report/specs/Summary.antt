-- The text that sums a history up: how many entries of each kind it has, and how it ended.
use Rattle.std.specs.Prelude.{ℕ, Bool, true, false, List, [], ◌∷◌, ◌++◌}
use Rattle.std.specs.Prelude.{codes, count_by}
use Rattle.zd_model.specs.History.{HistoryEntry}
use Rattle.zd_model.specs.Plain.{Answer}
use Rattle.zd_model.specs.Plain.Answer.{Fault}
use Rattle.zd_model.specs.Report.{ending_text, outcome_text}
use Rattle.zd_model.specs.Requests.{Operation, operation_of}
use Rattle.zd_model.specs.Requests.Operation.{Reading, Writing, Discarding, Flushing}
use Rattle.zd_model.specs.Text.{numeral}
use Rattle.zd_model.specs.declared.requests.Ending.{Ending}
use Rattle.zd_model.specs.declared.texts.Outcome.{Outcome}

-- two operations are one
abbrev pub is_same_operation : Operation → Operation → Bool
is_same_operation Reading Reading = true
is_same_operation Writing Writing = true
is_same_operation Discarding Discarding = true
is_same_operation Flushing Flushing = true
is_same_operation operation other = false

abbrev pub is_fault : Answer → Bool
is_fault Fault = true
is_fault reply = false

-- an entry of this operation, with any reply
abbrev pub is_entry_of : Operation → HistoryEntry → Bool
is_entry_of operation e = is_same_operation operation (operation_of e.what)

-- an entry of any operation that failed
abbrev pub is_failed_entry : HistoryEntry → Bool
is_failed_entry e = is_fault e.reply

-- a word and a number
abbrev pub count_line : List ℕ → ℕ → List ℕ
count_line word n = word ++ 32 ∷ (numeral n ++ 10 ∷ [])

-- THE SIX LINES: how many requests were made, how many entries there are of each operation, and how many
-- of them failed
unfoldable pub counts_text : List HistoryEntry → ℕ → List ℕ
counts_text history n =
    count_line (codes "made") n
    ++ count_line (codes "read") (count_by (is_entry_of Reading) history)
    ++ count_line (codes "write") (count_by (is_entry_of Writing) history)
    ++ count_line (codes "discard") (count_by (is_entry_of Discarding) history)
    ++ count_line (codes "flush") (count_by (is_entry_of Flushing) history)
    ++ count_line (codes "fault") (count_by is_failed_entry history)

-- THE SUMMARY of a history and its ending, where n requests were made
abbrev pub summary : List HistoryEntry → ℕ → Ending → List ℕ
summary history n ending = counts_text history n ++ ending_text ending

-- the same with the last line of any run
abbrev pub run_summary : List HistoryEntry → ℕ → Outcome → List ℕ
run_summary history n outcome = counts_text history n ++ outcome_text outcome
