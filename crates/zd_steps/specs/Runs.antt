-- Requests of many callers under way on a volume: which of their pieces are eligible, and which are ready.
use Rattle.std.specs.Prelude.{ℕ, ◌/◌, Bool, true, false, not, ◌&&◌, ◌||◌, ◌==◌, nat_lt}
use Rattle.std.specs.Prelude.{if◌then◌else◌, List, filter, Option, Some, None, slice_index_or}
use Rattle.std.specs.List.{list_all, list_any}
use Rattle.zd_base.specs.declared.steps.StepKind.{StepKind}
use Rattle.zd_model.specs.History.{Mark}
use Rattle.zd_model.specs.Requests.{Operation, first_block, operation_of}
use Rattle.zd_model.specs.Requests.Operation.{Reading, Writing, Discarding, Flushing}
use Rattle.zd_model.specs.declared.requests.Piece.{Piece}

-- how far the requests have come
pub record Run : Type 0 where
  pub chunk_blocks : ℕ
  -- all pieces, in the order of the script
  pub pieces : List Piece
  -- the marks of those that are entered
  pub entered : List Mark
  -- for each actor the piece that it has in flight: a read with some runs read, or a write with an edge read
  pub flights : List (Option Piece)

-- what the rules look at of a volume
pub record Standing : Type 0 where
  pub stopped : Bool
  -- a commit is under way
  pub commits : Bool
  -- the next step of the job under way
  pub job : Option StepKind
  -- some job can be picked
  pub picks : Bool
  -- the conventional zones that are free, those in limbo, and all that are data's
  pub free : ℕ
  pub limbo : ℕ
  pub data_zones : ℕ
  -- some zone is in limbo, of whichever kind
  pub has_limbo : Bool
  -- a write in range needs a conventional zone
  pub needs_zone : Piece → Bool
  -- a write has an edge that is still to be read
  pub merges : Piece → Bool

-- which of the operations it is
abbrev pub is_reading : Operation → Bool
is_reading Reading = true
is_reading operation = false

abbrev pub is_writing : Operation → Bool
is_writing Writing = true
is_writing operation = false

abbrev pub is_discarding : Operation → Bool
is_discarding Discarding = true
is_discarding operation = false

abbrev pub is_flushing : Operation → Bool
is_flushing Flushing = true
is_flushing operation = false

abbrev pub reads : Piece → Bool
reads p = is_reading (operation_of p.what)

abbrev pub writes : Piece → Bool
writes p = is_writing (operation_of p.what)

abbrev pub discards : Piece → Bool
discards p = is_discarding (operation_of p.what)

abbrev pub flushes : Piece → Bool
flushes p = is_flushing (operation_of p.what)

-- q is p: a piece is known by its request's number and its own
abbrev pub is_piece : Piece → Piece → Bool
is_piece p q = (q.request == p.request) && (q.piece == p.piece)

abbrev pub is_mark_of : Piece → Mark → Bool
is_mark_of p m = (m.request == p.request) && (m.piece == p.piece)

-- q stands before p in the script
abbrev pub is_before : Piece → Piece → Bool
is_before p q = nat_lt q.request p.request
    || ((q.request == p.request) && nat_lt q.piece p.piece)

-- the chunk on which a piece stands. A flush stands on none, nor does what ends past the device
abbrev pub chunk_of : ℕ → Piece → Option ℕ
chunk_of z p = if flushes p || p.range then None else Some (first_block p.what / z)

abbrev pub is_same_chunk : Option ℕ → Option ℕ → Bool
is_same_chunk (Some c) (Some d) = c == d
is_same_chunk c d = false

-- what an actor has in flight is this piece; it stands on this chunk
abbrev pub is_flight_of : Piece → Option Piece → Bool
is_flight_of p None = false
is_flight_of p (Some q) = is_piece p q

abbrev pub is_flight_on : ℕ → Option ℕ → Option Piece → Bool
is_flight_on z chunk None = false
is_flight_on z chunk (Some q) = is_same_chunk chunk (chunk_of z q)

-- some actor has the piece in flight
abbrev pub flies_in : List (Option Piece) → Piece → Bool
flies_in flights p = list_any (is_flight_of p) flights

-- a piece is in flight on its chunk
abbrev pub is_held_in : ℕ → List (Option Piece) → Piece → Bool
is_held_in z flights p = list_any (is_flight_on z (chunk_of z p)) flights

module _ (v : Standing) where
  -- a write in range needs a conventional zone, and none is free
  abbrev pub lacks_zone : Piece → Bool
  lacks_zone p = writes p && not p.range && v.needs_zone p && (v.free == 0)

  -- READY: a read, or past the device; or no commit is under way, and it is a discard, or a write that
  -- lacks no zone
  abbrev pub is_ready : Piece → Bool
  is_ready p = reads p || p.range
      || (not v.commits && (discards p || (writes p && not (lacks_zone p))))

module _ (r : Run) where
  abbrev pub is_entered : Piece → Bool
  is_entered p = list_any (is_mark_of p) r.entered

  abbrev pub flies : Piece → Bool
  flies p = flies_in r.flights p

  abbrev pub is_held : Piece → Bool
  is_held p = is_held_in r.chunk_blocks r.flights p

  -- q has to be entered before p, and isn't
  abbrev pub holds_back : Piece → Piece → Bool
  holds_back p q = (q.caller == p.caller) && is_before p q && not (is_entered q)

  -- ELIGIBLE: not entered and not in flight, every earlier piece of its caller is entered, and no piece is
  -- in flight on its chunk
  abbrev pub is_eligible : Piece → Bool
  is_eligible p = not (is_entered p) && not (flies p)
      && not (list_any (holds_back p) r.pieces) && not (is_held p)

  abbrev pub is_over : Bool
  is_over = list_all is_entered r.pieces

  -- the piece that an actor has in flight
  abbrev pub flight_of : ℕ → Option Piece
  flight_of actor = slice_index_or r.flights actor None

  -- the flushes that a commit enters
  abbrev pub is_eligible_flush : Piece → Bool
  is_eligible_flush p = flushes p && is_eligible p

  abbrev pub eligible_flushes : List Piece
  eligible_flushes = filter is_eligible_flush r.pieces

  abbrev pub has_flush : Bool
  has_flush = list_any is_eligible_flush r.pieces

module _ (r : Run) (v : Standing) where
  -- it is served next by an actor that has nothing in flight, where no such piece stands before it
  abbrev pub is_servable : Piece → Bool
  is_servable p = is_eligible r p && is_ready v p

  -- A ZONE IS WANTED: a write that is eligible or in flight lacks one
  abbrev pub wants_zone : Piece → Bool
  wants_zone p = (is_eligible r p || flies r p) && lacks_zone v p

  abbrev pub is_wanted : Bool
  is_wanted = list_any wants_zone r.pieces
