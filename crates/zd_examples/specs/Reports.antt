-- Histories and bytes of the examples of reports.
use Rattle.std.specs.Prelude.{ℕ, List, [], ◌∷◌, ◌++◌, replicate}
use Rattle.zd_model.specs.Bytes.{overwrite}
use Rattle.zd_model.specs.History.{HistoryEntry}
use Rattle.zd_model.specs.Plain.{pattern}
use Rattle.zd_model.specs.Plain.Answer.{Got, Done, Range, Fault}
use Rattle.zd_model.specs.declared.requests.What.TheVariants.{Read, Write, Discard, Flush}
use Rattle.zd_examples.specs.Requests.{entry, entry_by, patterned}

-- a block of a pattern between zeros
abbrev pub middle_history : List HistoryEntry
middle_history =
    entry 1 0 (Read 0 3) (Got (replicate 4096 0 ++ patterned 4 1 1 ++ replicate 4096 0)) 0 ∷ []

-- two patterns side by side, which begin at block 3
abbrev pub joined_history : List HistoryEntry
joined_history = entry 12 1 (Read 3 3) (Got (patterned 5 3 2 ++ patterned 6 5 1)) 107 ∷ []

-- each kind of request with a reply that its plain array doesn't give, or not at first
abbrev pub faulty_history : List HistoryEntry
faulty_history =
    entry_by 63 10 0 (Read 0 1) Fault 1
    ∷ entry_by 7 11 2 (Write 16 9 4294967295) Fault 2
    ∷ entry_by 7 12 0 (Discard 9 400) Range 2
    ∷ entry_by 0 13 0 Flush Fault 30
    ∷ []

abbrev pub flush_history : List HistoryEntry
flush_history = entry_by 2 1000000 0 Flush Done 18 ∷ []

-- a sector that is nearly zeros, and one that is nearly a pattern
abbrev pub nearly_zeros : List ℕ
nearly_zeros = replicate 511 0 ++ 1 ∷ []

abbrev pub nearly_pattern : List ℕ
nearly_pattern = overwrite (pattern 3 0) 511 (1 ∷ [])
