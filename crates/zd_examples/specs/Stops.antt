-- Histories of two blocks that a stop cuts.
use Rattle.std.specs.Prelude.{List, [], ◌∷◌}
use Rattle.zd_model.specs.History.{HistoryEntry}
use Rattle.zd_model.specs.Plain.Answer.{Done, Range, Fault}
use Rattle.zd_model.specs.declared.requests.What.TheVariants.{Write, Discard, Flush, WriteSectors}
use Rattle.zd_examples.specs.Requests.{entry}

-- a write that was flushed, and a later write of the same block
abbrev pub the_flush : HistoryEntry
the_flush = entry 2 0 Flush Done 11

abbrev pub rewritten_history : List HistoryEntry
rewritten_history =
    entry 1 0 (Write 0 1 1) Done 1 ∷ the_flush ∷ entry 3 0 (Write 0 1 2) Done 12 ∷ []

-- a write that was flushed, and a discard after the next write
abbrev pub discarded_history : List HistoryEntry
discarded_history =
    entry 1 0 (Write 0 1 1) Done 1
    ∷ entry 2 0 Flush Done 3
    ∷ entry 3 0 (Write 1 1 2) Done 4
    ∷ entry 4 0 (Discard 0 1) Done 4
    ∷ []

-- two writes of one block, each of them flushed
abbrev pub twice_flushed : List HistoryEntry
twice_flushed =
    entry 1 0 (Write 0 1 1) Done 1
    ∷ entry 2 0 Flush Done 3
    ∷ entry 3 0 (Write 0 1 2) Done 4
    ∷ entry 4 0 Flush Done 6
    ∷ []

-- a write and a flush that failed
abbrev pub failed_history : List HistoryEntry
failed_history = entry 1 0 (Write 0 1 1) Done 1 ∷ entry 2 0 Flush Fault 3 ∷ []

abbrev pub failed_write : List HistoryEntry
failed_write = entry 1 0 (Write 0 1 1) Fault 2 ∷ []

-- a write of two sectors
abbrev pub written_sectors : List HistoryEntry
written_sectors = entry 1 0 (WriteSectors 3 2 1) Done 1 ∷ []

-- a request past the device, with whatever reply
abbrev pub past_history : List HistoryEntry
past_history = entry 1 0 (Write 0 3 1) Range 1 ∷ entry 2 0 (Write 0 3 1) Done 2 ∷ []

-- a discard that failed after a flush, which no history of a plain array has
abbrev pub failed_discard : List HistoryEntry
failed_discard =
    entry 1 0 (Write 0 1 1) Done 1 ∷ entry 2 0 Flush Done 3 ∷ entry 3 0 (Discard 0 1) Fault 3 ∷ []
