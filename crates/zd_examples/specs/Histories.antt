-- Histories of the examples: right ones of 128 blocks and of two, and wrong ones of two.
use Rattle.std.specs.Prelude.{List, [], ◌∷◌, ◌++◌, replicate}
use Rattle.zd_model.specs.History.{HistoryEntry}
use Rattle.zd_model.specs.Plain.Answer.{Got, Done, Range, Fault}
use Rattle.zd_model.specs.declared.requests.What.TheVariants.{Read, Write, Discard, Flush}
use Rattle.zd_model.specs.declared.requests.What.TheVariants.{ReadSectors, WriteSectors}
use Rattle.zd_model.specs.Plain.{pattern}
use Rattle.zd_examples.specs.Requests.{entry, entry_by, patterned}

-- a read of nothing
abbrev pub empty_volume_history : List HistoryEntry
empty_volume_history = entry 1 0 (Read 0 1) (Got (replicate 4096 0)) 0 ∷ []

-- a write at the end, and a read past it
abbrev pub last_block_history : List HistoryEntry
last_block_history =
    entry 1 0 (Write 127 1 7) Done 1
    ∷ entry 2 0 (Read 127 1) (Got (patterned 7 127 1)) 1
    ∷ entry 3 0 (Read 127 2) Range 1
    ∷ []

-- requests over two chunks
abbrev pub two_chunks_history : List HistoryEntry
two_chunks_history =
    entry 1 0 (Write 14 2 3) Done 1
    ∷ entry 1 1 (Write 16 2 3) Done 2
    ∷ entry 2 0 (Read 14 2) (Got (patterned 3 14 2)) 2
    ∷ entry 2 1 (Read 16 2) (Got (patterned 3 16 2)) 2
    ∷ []

-- a discard inside what was written
abbrev pub discard_history : List HistoryEntry
discard_history =
    entry 1 0 (Write 0 4 1) Done 1
    ∷ entry 2 0 (Discard 1 2) Done 1
    ∷ entry 3 0 (Read 0 4) (Got (patterned 1 0 1 ++ replicate 8192 0 ++ patterned 1 3 1)) 1
    ∷ []

-- a write and a read that begin and end within blocks
abbrev pub sectors_history : List HistoryEntry
sectors_history =
    entry 1 0 (WriteSectors 3 2 5) Done 1
    ∷ entry 2 0 (ReadSectors 0 8)
    (Got (replicate 1536 0 ++ (pattern 5 3 ++ pattern 5 4) ++ replicate 1536 0)) 1
    ∷ []

-- a read that failed between others, a write past the device at the same number, a write over
-- another
abbrev pub faulty_reads : List HistoryEntry
faulty_reads =
    entry 1 0 (Write 1 1 5) Done 0
    ∷ entry 2 0 (Read 0 1) Fault 0
    ∷ entry 3 0 (Write 2 1 6) Range 0
    ∷ entry 4 0 (Write 0 2 6) Done 1
    ∷ entry 5 0 Flush Done 1
    ∷ entry 6 0 (Read 0 2) (Got (patterned 6 0 2)) 1
    ∷ []

-- a write that failed at the end; flushes that failed at the end
abbrev pub faulty_write : List HistoryEntry
faulty_write =
    entry 1 0 (Read 0 1) (Got (replicate 4096 0)) 0 ∷ entry 2 0 (Write 1 1 5) Fault 1 ∷ []

abbrev pub faulty_flushes : List HistoryEntry
faulty_flushes = entry 1 0 Flush Fault 3 ∷ entry_by 7 2 0 Flush Fault 3 ∷ []

-- wrong: something after a write that failed
abbrev pub after_faulty_write : List HistoryEntry
after_faulty_write = entry 1 0 (Write 1 1 5) Fault 1 ∷ entry 2 0 Flush Done 2 ∷ []

-- wrong: a discard that failed; a request past the device that failed
abbrev pub faulty_discard : List HistoryEntry
faulty_discard = entry 1 0 (Discard 1 1) Fault 1 ∷ []

abbrev pub faulty_past : List HistoryEntry
faulty_past = entry 1 0 (Read 1 2) Fault 1 ∷ []

-- wrong: a flush that was done, or a read, after one that failed
abbrev pub flush_after_fault : List HistoryEntry
flush_after_fault = entry 1 0 Flush Fault 3 ∷ entry 2 0 Flush Done 4 ∷ []

abbrev pub read_after_fault : List HistoryEntry
read_after_fault = entry 1 0 Flush Fault 3 ∷ entry 2 0 (Read 0 1) Fault 4 ∷ []

-- wrong: a read in range that is told so; a write that is done past the device
abbrev pub range_inside : List HistoryEntry
range_inside = entry 1 0 (Read 0 2) Range 0 ∷ []

abbrev pub done_past : List HistoryEntry
done_past = entry 1 0 (Write 0 3 1) Done 1 ∷ []

-- wrong: a write that is lost, and one that comes back after a discard
abbrev pub lost_write : List HistoryEntry
lost_write = entry 1 0 (Write 0 1 1) Done 1 ∷ entry 2 0 (Read 0 1) (Got (replicate 4096 0)) 1 ∷ []

abbrev pub old_bytes : List HistoryEntry
old_bytes =
    entry 1 0 (Write 0 1 1) Done 1
    ∷ entry 2 0 (Discard 0 1) Done 1
    ∷ entry 3 0 (Read 0 1) (Got (patterned 1 0 1)) 1
    ∷ []

-- wrong: the number falls; it doesn't rise for a write, done or failed
abbrev pub falling : List HistoryEntry
falling = entry 1 0 Flush Done 4 ∷ entry 2 0 Flush Done 3 ∷ []

abbrev pub standing : List HistoryEntry
standing = entry 1 0 (Write 0 1 1) Done 1 ∷ entry 2 0 (Write 1 1 2) Done 1 ∷ []

abbrev pub standing_fault : List HistoryEntry
standing_fault = entry 1 0 (Read 1 2) Range 1 ∷ entry 2 0 (Write 1 1 2) Fault 1 ∷ []
