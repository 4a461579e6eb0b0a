-- Two callers' requests on one chunk, and the orders of their entries.
use Rattle.std.specs.Prelude.{List, [], ◌∷◌}
use Rattle.zd_model.specs.History.{HistoryEntry}
use Rattle.zd_model.specs.Plain.Answer.{Done, Range}
use Rattle.zd_model.specs.declared.requests.Request.{Request}
use Rattle.zd_model.specs.declared.requests.What.TheVariants.{Read, Write, Flush}
use Rattle.zd_examples.specs.Requests.{entry, entry_by, request, request_by}

-- caller 1 writes and flushes, caller 2 writes over two chunks
abbrev pub shared_plan : List Request
shared_plan =
    request_by 1 (Write 0 1 1) ∷ request_by 2 (Write 15 2 2) ∷ request_by 1 Flush ∷ []

abbrev pub first_write : HistoryEntry
first_write = entry_by 1 1 0 (Write 0 1 1) Done 1

abbrev pub second_write : HistoryEntry
second_write = entry_by 2 2 0 (Write 15 1 2) Done 2

abbrev pub third_write : HistoryEntry
third_write = entry_by 2 2 1 (Write 16 1 2) Done 3

abbrev pub last_flush_of_first : HistoryEntry
last_flush_of_first = entry_by 1 3 0 Flush Done 4

-- right: as planned, the other caller first, a part of each
abbrev pub as_planned : List HistoryEntry
as_planned = first_write ∷ second_write ∷ third_write ∷ last_flush_of_first ∷ []

abbrev pub other_first : List HistoryEntry
other_first = second_write ∷ first_write ∷ last_flush_of_first ∷ third_write ∷ []

abbrev pub part_of_each : List HistoryEntry
part_of_each = second_write ∷ first_write ∷ []

-- right: a request that ends one block past the device
abbrev pub past_plan : List Request
past_plan = request (Read 127 2) ∷ []

abbrev pub past_order : List HistoryEntry
past_order = entry 1 0 (Read 127 2) Range 4 ∷ []

-- wrong: a caller's own order, a piece that is missing, one that is entered twice
abbrev pub own_order : List HistoryEntry
own_order = third_write ∷ second_write ∷ []

abbrev pub first_missing : List HistoryEntry
first_missing = last_flush_of_first ∷ []

abbrev pub entered_twice : List HistoryEntry
entered_twice = first_write ∷ first_write ∷ []

-- wrong: a piece of another caller, another number of a piece, another seed, one too many
abbrev pub other_caller : List HistoryEntry
other_caller = entry_by 2 1 0 (Write 0 1 1) Done 1 ∷ []

abbrev pub other_piece : List HistoryEntry
other_piece = entry_by 1 1 1 (Write 0 1 1) Done 1 ∷ []

abbrev pub other_seed : List HistoryEntry
other_seed = entry_by 1 1 0 (Write 0 1 2) Done 1 ∷ []

abbrev pub one_more : List HistoryEntry
one_more = first_write ∷ last_flush_of_first ∷ entry_by 1 4 0 Flush Done 4 ∷ []
