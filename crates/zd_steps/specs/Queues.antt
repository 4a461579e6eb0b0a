-- The pieces of all callers, each caller's first that isn't entered, and what is in flight.
use Rattle.std.specs.Prelude.{◌≡◌, ◌≢◌, ◌⊎◌, ℕ, ◌+◌, ◌<◌, ◌≤◌, Bool, true, false, not, ◌&&◌, ◌||◌, List, length, map, take, get_or}
use Rattle.std.specs.Prelude.{slice_get, slice_index, slice_set, ◌++◌, ◌∷◌, [], Option, Some, None}
use Rattle.zd_model.specs.History.{Mark, mark_of_piece, marks_of_caller}
use Rattle.zd_model.specs.declared.requests.Piece.{Piece}
use Rattle.zd_steps.specs.Runs.{Run, Standing, chunk_of, flies_in, flushes, is_held_in, is_ready, lacks_zone, reads, writes}

-- p stands before q in the script
abbrev pub Precedes : Piece → Piece → Type 0
Precedes p q = (p.request < q.request) ⊎ ((p.request ≡ q.request) × (p.piece < q.piece))

-- pieces in the order of a script
abbrev pub AreInOrder : List Piece → Type 0
AreInOrder pieces = (i j : ℕ) (p q : Piece) → i < j
    → slice_get pieces i ≡ Some p → slice_get pieces j ≡ Some q → Precedes p q

-- the callers' numbers are below this
abbrev pub HaveCallersBelow : ℕ → List Piece → Type 0
HaveCallersBelow n pieces = (i : ℕ) (p : Piece) → slice_get pieces i ≡ Some p → p.caller < n

-- no flush ends past the device
abbrev pub HaveFlushesInRange : List Piece → Type 0
HaveFlushesInRange pieces = (i : ℕ) (p : Piece) → slice_get pieces i ≡ Some p
    → flushes p ≡ true → p.range ≡ false

-- pieces as a plan has them
pub record IsScriptOf (limit : ℕ) (pieces : List Piece) : Type 0 where
  pub order : AreInOrder pieces
  pub callers : HaveCallersBelow limit pieces
  pub in_range : HaveFlushesInRange pieces

-- pieces of 64 callers, and for each caller its head: the place of its first piece that isn't entered, or
-- the end of all pieces
pub record Callers : Type 0 where
  pub pieces : List Piece
  pub heads : List ℕ

abbrev pub head_in : List Piece → List ℕ → ℕ → ℕ
head_in pieces heads caller = get_or heads caller (length pieces)

abbrev pub head_of : Callers → ℕ → ℕ
head_of h caller = head_in h.pieces h.heads caller

-- the first piece of a caller that isn't entered
abbrev pub first_of : Callers → ℕ → Option Piece
first_of h caller = slice_get h.pieces (head_of h caller)

-- from a place on, the first piece of this caller stands at `place`; where that is the end, there is none
pub record IsFirstFrom (pieces : List Piece) (caller from place : ℕ) : Type 0 where
  pub above : from ≤ place
  pub within : place ≤ length pieces
  pub own : (p : Piece) → slice_get pieces place ≡ Some p → p.caller ≡ caller
  pub skips : (k : ℕ) (p : Piece) → from ≤ k → k < place → slice_get pieces k ≡ Some p → p.caller ≢ caller

-- the link of each piece leads to the next one of its caller
pub record AreLinks (pieces : List Piece) (links : List ℕ) : Type 0 where
  pub count : length links ≡ length pieces
  pub each : (i : ℕ) (p : Piece) → slice_get pieces i ≡ Some p
      → IsFirstFrom pieces p.caller (i + 1) (slice_index links i)

-- what is always true of heads: there are 64, and each stands at a piece of its caller, or at the end
pub record AreHeads (pieces : List Piece) (heads : List ℕ) : Type 0 where
  pub count : length heads ≡ 64
  pub within : (c : ℕ) → head_in pieces heads c ≤ length pieces
  pub own : (c : ℕ) (p : Piece) → slice_get pieces (head_in pieces heads c) ≡ Some p → p.caller ≡ c

-- THESE ARE ENTERED: of each caller its pieces before its head, in their order
abbrev pub HasEntered : Callers → List Mark → Type 0
HasEntered h entered = (c : ℕ) → marks_of_caller c entered
    ≡ marks_of_caller c (map mark_of_piece (take (head_of h c) h.pieces))

-- a piece in flight: a read or a write in range, the first of its caller that isn't entered
pub record IsInFlight (h : Callers) (p : Piece) : Type 0 where
  pub first : first_of h p.caller ≡ Some p
  pub in_range : p.range ≡ false
  pub moves : (reads p || writes p) ≡ true

-- what is in flight: of each actor one piece at most, and no two of one caller or on one chunk
pub record AreFlights (z : ℕ) (h : Callers) (flights : List (Option Piece)) : Type 0 where
  pub each : (actor : ℕ) (p : Piece) → slice_get flights actor ≡ Some (Some p) → IsInFlight h p
  pub callers : (a b : ℕ) (p q : Piece) → slice_get flights a ≡ Some (Some p)
      → slice_get flights b ≡ Some (Some q) → p.caller ≡ q.caller → a ≡ b
  pub chunks : (a b c : ℕ) (p q : Piece) → slice_get flights a ≡ Some (Some p)
      → slice_get flights b ≡ Some (Some q) → chunk_of z p ≡ Some c → chunk_of z q ≡ Some c → a ≡ b

-- what contracts see of a queue
pub record QueueState : Type 0 where
  pub chunk_blocks : ℕ
  pub callers : Callers
  pub flights : List (Option Piece)

abbrev pub queue_of : ℕ → Callers → List (Option Piece) → QueueState
queue_of z callers flights = record { chunk_blocks = z; callers = callers; flights = flights }

-- what is always true of one
pub record IsQueue (z : ℕ) (h : Callers) (flights : List (Option Piece)) : Type 0 where
  pub script : IsScriptOf 64 h.pieces
  pub heads : AreHeads h.pieces h.heads
  pub flying : AreFlights z h flights

-- the run in which these are entered
abbrev pub run_of : QueueState → List Mark → Run
run_of q entered = record {
  chunk_blocks = q.chunk_blocks;
  pieces = q.callers.pieces;
  entered = entered;
  flights = q.flights;
}

-- an actor may serve this piece: it is its caller's first, no other actor has a piece of this caller or on this
-- chunk in flight, and this one has nothing else
pub record MayServe (q : QueueState) (actor : ℕ) (p : Piece) : Type 0 where
  pub first : first_of q.callers p.caller ≡ Some p
  pub caller : (a : ℕ) (f : Piece) → slice_get q.flights a ≡ Some (Some f) → f.caller ≡ p.caller → a ≡ actor
  pub chunk : (a c : ℕ) (f : Piece) → slice_get q.flights a ≡ Some (Some f) → chunk_of q.chunk_blocks f ≡ Some c
      → chunk_of q.chunk_blocks p ≡ Some c → a ≡ actor
  pub only : (f : Piece) → slice_get q.flights actor ≡ Some (Some f) → f ≡ p

-- A PIECE IS ENTERED: its caller goes on to its next piece, and the actor has nothing in flight
pub record EntersPiece (old new : QueueState) (actor : ℕ) (p : Piece) : Type 0 where
  pub rest : new ≡ record old { callers = new.callers; flights = slice_set old.flights actor None }
  pub pieces : new.callers.pieces ≡ old.callers.pieces
  pub passes : head_of old.callers p.caller < head_of new.callers p.caller
  pub stays : (c : ℕ) → c ≢ p.caller → head_of new.callers c ≡ head_of old.callers c
  pub entered : (marks : List Mark) → HasEntered old.callers marks
      → HasEntered new.callers (marks ++ mark_of_piece p ∷ [])

-- these are the first pieces of different callers
pub record AreFirsts (h : Callers) (list : List Piece) : Type 0 where
  pub first : (k : ℕ) (p : Piece) → slice_get list k ≡ Some p → first_of h p.caller ≡ Some p
  pub known : (k : ℕ) (p : Piece) → slice_get list k ≡ Some p → p.caller < 64
  pub apart : (j k : ℕ) (p q : Piece) → j < k → slice_get list j ≡ Some p
      → slice_get list k ≡ Some q → p.caller ≢ q.caller

-- THE FLUSHES OF A COMMIT ARE ENTERED
pub record EntersFlushes (old new : QueueState) (list : List Piece) : Type 0 where
  pub rest : new ≡ record old { callers = new.callers }
  pub pieces : new.callers.pieces ≡ old.callers.pieces
  pub later : (c : ℕ) → head_of old.callers c ≤ head_of new.callers c
  pub entered : (marks : List Mark) → HasEntered old.callers marks
      → HasEntered new.callers (marks ++ map mark_of_piece list)

-- the place, from one on, of the least head whose piece passes; the end where none does
pub record IsLeast (h : Callers) (test : Piece → Bool) (from place : ℕ) : Type 0 where
  pub within : place ≤ length h.pieces
  pub above : from ≤ length h.pieces → from ≤ place
  pub here : (p : Piece) → slice_get h.pieces place ≡ Some p
      → (head_of h p.caller ≡ place) × (test p ≡ true)
  pub least : (c : ℕ) (p : Piece) → first_of h c ≡ Some p → test p ≡ true
      → from ≤ head_of h c → place ≤ head_of h c

-- a first piece is served by an actor with nothing in flight; it wants a zone
abbrev pub is_first_servable : ℕ → List (Option Piece) → Standing → Piece → Bool
is_first_servable z flights v p = not (is_held_in z flights p) && is_ready v p

abbrev pub is_first_wanting : ℕ → List (Option Piece) → Standing → Piece → Bool
is_first_wanting z flights v p = (not (is_held_in z flights p) || flies_in flights p) && lacks_zone v p

-- the links from place i on, and for each caller its first place from there on
pub record AreLinkedFrom (pieces : List Piece) (links heads : List ℕ) (i : ℕ) : Type 0 where
  pub count : length links ≡ length pieces
  pub callers : length heads ≡ 64
  pub firsts : (c : ℕ) → IsFirstFrom pieces c i (head_in pieces heads c)
  pub each : (k : ℕ) (p : Piece) → i ≤ k → slice_get pieces k ≡ Some p
      → IsFirstFrom pieces p.caller (k + 1) (slice_index links k)
