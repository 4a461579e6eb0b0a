-- A disk that begins empty, its writing calls, and what a stop may leave of it.
use Rattle.std.specs.Prelude.{ℕ, false, true, List, [], ◌∷◌}
use Rattle.zd_model.specs.Bytes.{zero_sector}
use Rattle.zd_model.specs.Image.{Image}
use Rattle.zd_model.specs.Left.{Call, Event, replay}
use Rattle.zd_model.specs.Left.Call.{Does, Flushes}
use Rattle.zd_model.specs.Left.Event.{Clear, Put}
use Rattle.zd_model.specs.Plain.{pattern}
use Rattle.zd_examples.specs.Fresh.{small}
use Rattle.zd_examples.specs.Images.{uniform_image}

-- conventional zones of zeros, and nothing in the sequential ones
abbrev pub empty_disk : Image
empty_disk = uniform_image 128 0 zero_sector

-- a sector gets the pattern of seed 1
abbrev pub mark : ℕ → ℕ → Event
mark zone i = Put zone i (pattern 1 i)

-- the disk in which these sectors are marked
abbrev pub marked : List Event → Image
marked events = replay empty_disk events

-- the pointer of the last zone stands after one sector, which has the value that it had
abbrev pub pointer_moved : Image
pointer_moved = replay empty_disk (Put 11 0 zero_sector ∷ [])

-- the last zone was marked, and then reset: a value stands past its pointer
abbrev pub marked_and_reset : Image
marked_and_reset = marked (mark 11 0 ∷ Clear 11 ∷ [])

-- a disk of one sequential zone more
abbrev pub one_zone_more : Image
one_zone_more = record empty_disk { geometry = record small { seq = 7 } }

-- a write of one sector
abbrev pub mark_call : ℕ → ℕ → Call
mark_call zone i = Does (mark zone i ∷ []) (mark zone i ∷ [])

-- a write of two sectors that failed after the first
abbrev pub half_call : Call
half_call = Does (mark 2 5 ∷ mark 2 6 ∷ []) (mark 2 5 ∷ [])

-- a write and a flush, which answers Ok or fails
abbrev pub write_and_flush : List Call
write_and_flush = mark_call 2 5 ∷ Flushes true ∷ []

abbrev pub write_and_fault : List Call
write_and_fault = mark_call 2 5 ∷ Flushes false ∷ []

-- a flush, and then the write
abbrev pub flush_and_write : List Call
flush_and_write = Flushes true ∷ mark_call 2 5 ∷ []

-- writes to two sequential zones, and two writes to the first of them
abbrev pub both_zones : List Call
both_zones = mark_call 6 0 ∷ mark_call 7 0 ∷ []

abbrev pub first_zone_twice : List Call
first_zone_twice = mark_call 6 0 ∷ mark_call 6 1 ∷ []
