-- Sessions: requests of many callers under way on one volume, as contracts see them, and what is always true of them.
use Rattle.std.specs.Prelude.{◌≡◌, ◌≢◌, ℕ, ◌*◌, ◌+◌, ◌<◌, ◌≤◌, Bool, true, false, not, List, [], length, map, count_by}
use Rattle.std.specs.Prelude.{slice_get, Option, Some, None, ⊤}
use Rattle.std.specs.Option.{option_map_or}
use Rattle.zd_base.specs.Layout.{device_blocks}
use Rattle.zd_base.specs.declared.steps.Prefer.{Prefer}
use Rattle.zd_disk.specs.Told.{WhereTold}
use Rattle.zd_model.specs.History.{HistoryEntry, mark_of_entry}
use Rattle.zd_model.specs.Image.{Image, run_of as bytes_from}
use Rattle.zd_model.specs.Pieces.{pieces_of}
use Rattle.zd_model.specs.Plain.{ends_past}
use Rattle.zd_model.specs.Requests.{Operation, block_count, first_sector, operation_of, sector_count}
use Rattle.zd_model.specs.Requests.Operation.{Reading, Writing, Discarding, Flushing}
use Rattle.zd_model.specs.Room.{ListWithRoom}
use Rattle.zd_model.specs.Safe.{base_at, last_at}
use Rattle.zd_model.specs.declared.requests.Piece.{Piece}
use Rattle.zd_model.specs.declared.requests.Request.{Request}
use Rattle.zd_plain.specs.Plan.{IsPlan}
use Rattle.zd_volume.specs.Discards.{DiscardsBlocks}
use Rattle.zd_volume.specs.Flights.{IsPieceIn, sectors_within}
use Rattle.zd_volume.specs.Sets.{device_sectors}
use Rattle.zd_volume.specs.Volumes.{PlainVolume, sets_of}
use Rattle.zd_volume.specs.declared.flight.Flight.{Flight}
use Rattle.zd_routes.specs.Edges.{NeedsEdge, bytes_at, edge_block}
use Rattle.zd_routes.specs.Routes.{WritesBlocks}
use Rattle.zd_routes.specs.declared.edges.Edge.{Edge}
use Rattle.zd_routes.specs.declared.edges.Edges.{Edges}
use Rattle.zd_state.specs.Seen.{Seen}
use Rattle.zd_steps.specs.NextStep.{next_step}
use Rattle.zd_steps.specs.Queues.{Callers, HasEntered, QueueState, head_of, run_of}
use Rattle.zd_steps.specs.Runs.{Run, Standing, is_entered, is_over}
use Rattle.zd_steps.specs.declared.step.Step.{Step}
use Rattle.zd_session.specs.Standings.{standing_of}
use Rattle.zd_session.specs.declared.actor.Actor.{Actor}

pub record SessionView (D : Type 0) : Type 0 where
  -- the volume over its disk
  pub volume : Seen D
  -- the requests
  pub plan : List Request
  -- of each actor the piece that it has in flight, and what it has read of that piece
  pub flights : List (Option Piece)
  pub actors : List Actor

-- THE PIECES of a plan, cut by the chunks of this volume
abbrev pub pieces_on : PlainVolume → List Request → List Piece
pieces_on v plan = pieces_of v.geometry.zone_blocks (device_blocks v.geometry v.head.layout) plan

-- how far the requests have come
abbrev pub run_with : PlainVolume → List Request → List (Option Piece) → Run
run_with v plan flights = record {
  chunk_blocks = v.geometry.zone_blocks;
  pieces = pieces_on v plan;
  entered = map mark_of_entry v.history;
  flights = flights;
}

abbrev pub run_seen : {D : Type 0} → SessionView D → Run
run_seen s = run_with s.volume.plain s.plan s.flights

-- nothing is read of the edges of a write
abbrev pub no_edges : Edges
no_edges = record { first = record { items = []; room = 0 }; last = record { items = []; room = 0 } }

-- what an actor has read of them
abbrev pub edges_seen : List Actor → ℕ → Edges
edges_seen actors i = option_map_or (λ (a : Actor). a.edges) (slice_get actors i) no_edges

-- what the rules see for an actor
abbrev pub standing_seen : {D : Type 0} → SessionView D → ℕ → Standing
standing_seen s actor = standing_of s.volume.plain (edges_seen s.actors actor)

-- THE ONE NEXT STEP of an actor, or none
abbrev pub next_seen : {D : Type 0} → SessionView D → ℕ → Prefer → Option Step
next_seen s actor prefer = next_step (run_seen s) (standing_seen s actor) actor prefer

-- it has stopped, or all pieces are entered
abbrev pub ended_of : {D : Type 0} → SessionView D → Bool
ended_of s = option_map_or (λ why. true) s.volume.plain.stopped (is_over (run_seen s))

-- THESE ARE THE LAST BYTES of so many sectors: what the history made of them. Said where the disk told its zones when
-- opening ended
abbrev pub AreLast : Option Image → List HistoryEntry → ℕ → ℕ → List ℕ → Type 0
AreLast told history first count bytes =
    WhereTold told (λ _. bytes ≡ bytes_from (last_at (base_at told) history) first count)

-- nothing is read of a read, and of the edges of a write
abbrev pub HasNoEdges : Edges → Type 0
HasNoEdges e = (e.first.items ≡ []) × (e.last.items ≡ [])

pub record IsFree (a : Actor) : Type 0 where
  pub read : a.read ≡ None
  pub edges : HasNoEdges a.edges

-- A READ IN FLIGHT: some of its blocks are read and some aren't, it has the last bytes of those that are, and room for
-- the others
pub record HoldsRead (v : PlainVolume) (told : Option Image) (p : Piece) (f : Flight) : Type 0 where
  pub piece : f.piece ≡ p
  pub inside : IsPieceIn v p
  pub some : 0 < f.done
  pub more : f.done < block_count p.what
  pub size : length f.bytes.items ≡ 512 * sectors_within p.what f.done
  pub room : 512 * sector_count p.what ≤ length f.bytes.items + f.bytes.room
  pub last : AreLast told v.history (first_sector p.what) (sectors_within p.what f.done) f.bytes.items

-- a whole block, with its last bytes
pub record HoldsBlock (told : Option Image) (history : List HistoryEntry) (block : ℕ) (bytes : List ℕ) : Type 0 where
  pub size : length bytes ≡ 4096
  pub last : AreLast told history (8 * block) 8 bytes

-- A WRITE IN FLIGHT: of its edges those that are read are still needed, and have the last bytes of their blocks
pub record HoldsEdges (v : PlainVolume) (told : Option Image) (p : Piece) (e : Edges) : Type 0 where
  pub in_range : p.range ≡ false
  pub writes : WritesBlocks (sets_of v) p.what
  pub read : (edge : Edge) → bytes_at e edge ≢ [] →
      NeedsEdge v p.what edge × HoldsBlock told v.history (edge_block p.what edge) (bytes_at e edge)

-- what an actor has of the piece that it has in flight, by its operation
abbrev pub HoldsBy : PlainVolume → Option Image → Piece → Actor → Operation → Type 0
HoldsBy v told p a Reading = ((f : Flight) × (a.read ≡ Some f) × HoldsRead v told p f) × HasNoEdges a.edges
HoldsBy v told p a Writing = (a.read ≡ None) × HoldsEdges v told p a.edges
HoldsBy v told p a Discarding = ⊥
HoldsBy v told p a Flushing = ⊥

abbrev pub HasInHand : PlainVolume → Option Image → Option Piece → Actor → Type 0
HasInHand v told None a = IsFree a
HasInHand v told (Some p) a = HoldsBy v told p a (operation_of p.what)

-- each actor has what it has read of its piece, and room for two edges
pub record AreActors (v : PlainVolume) (told : Option Image) (flights : List (Option Piece)) (actors : List Actor)
    : Type 0 where
  pub count : length actors ≡ length flights
  pub holds : (i : ℕ) (flight : Option Piece) (a : Actor) → slice_get flights i ≡ Some flight →
      slice_get actors i ≡ Some a → HasInHand v told flight a
  pub first_room : (i : ℕ) (a : Actor) → slice_get actors i ≡ Some a →
      4096 ≤ length a.edges.first.items + a.edges.first.room
  pub last_room : (i : ℕ) (a : Actor) → slice_get actors i ≡ Some a →
      4096 ≤ length a.edges.last.items + a.edges.last.room

-- no piece of this caller is in flight
abbrev pub HasNoneInFlight : ℕ → List (Option Piece) → Type 0
HasNoneInFlight caller flights = (i : ℕ) (p : Piece) → slice_get flights i ≡ Some (Some p) → p.caller ≢ caller

-- no bytes, with room for so many
abbrev pub HasSpace : ℕ → Option (Option (ListWithRoom ℕ)) → Type 0
HasSpace size reply = (bytes : ListWithRoom ℕ) × (reply ≡ Some (Some bytes)) × (bytes.items ≡ []) × (size ≤ bytes.room)

-- a read in range that isn't entered has space for its bytes, but for a caller's first where that is in flight
pub record AreReplies (callers : Callers) (flights : List (Option Piece)) (replies : List (Option (ListWithRoom ℕ)))
    : Type 0 where
  pub count : length replies ≡ length callers.pieces
  pub space : (i : ℕ) (p : Piece) → slice_get callers.pieces i ≡ Some p → p.range ≡ false →
      operation_of p.what ≡ Reading → head_of callers p.caller ≤ i →
      (i ≡ head_of callers p.caller → HasNoneInFlight p.caller flights) →
      HasSpace (512 * sector_count p.what) (slice_get replies i)

-- the pieces that aren't entered
abbrev pub entries_to_come : Run → ℕ
entries_to_come r = count_by (λ p. not (is_entered r p)) r.pieces

-- a write in range has room for its blocks
abbrev pub HasBlocksFor : ℕ → Piece → Type 0
HasBlocksFor room p = p.range ≡ false → operation_of p.what ≡ Writing → block_count p.what ≤ room

-- a piece in range, by its operation: a read, a write or a discard inside one chunk, or a flush
abbrev pub CanServeIn : PlainVolume → Piece → Operation → Type 0
CanServeIn v p Reading = IsPieceIn v p
CanServeIn v p Writing = WritesBlocks (sets_of v) p.what
CanServeIn v p Discarding = DiscardsBlocks (sets_of v) p.what
CanServeIn v p Flushing = ⊤

-- one that is marked out of range ends past the device
abbrev pub CanServeBy : PlainVolume → Piece → Bool → Type 0
CanServeBy v p true = ends_past (device_sectors (sets_of v)) p.what ≡ true
CanServeBy v p false = CanServeIn v p (operation_of p.what)

-- A PIECE THAT CAN BE SERVED
abbrev pub CanServe : PlainVolume → Piece → Type 0
CanServe v p = CanServeBy v p p.range

-- HOW FAR THE REQUESTS HAVE COME, over a volume with so many spare entries and room for so many blocks, and what the
-- disk told when opening ended: all entries are of the callers' first pieces; what is in flight is held, and what
-- stands ready for the replies of reads has space; each write has room for its blocks; and while the volume goes on,
-- the entries to come have room
pub record IsProgress (v : PlainVolume) (spare room : ℕ) (told : Option Image) (q : QueueState) (actors : List Actor)
    (replies : List (Option (ListWithRoom ℕ))) : Type 0 where
  pub chunks : q.chunk_blocks ≡ v.geometry.zone_blocks
  pub can : (i : ℕ) (p : Piece) → slice_get q.callers.pieces i ≡ Some p → CanServe v p
  pub entered : HasEntered q.callers (map mark_of_entry v.history)
  pub spare_entries : v.stopped ≡ None → entries_to_come (run_of q (map mark_of_entry v.history)) ≤ spare
  pub room_for : (i : ℕ) (p : Piece) → slice_get q.callers.pieces i ≡ Some p → HasBlocksFor room p
  pub holds : AreActors v told q.flights actors
  pub space : AreReplies q.callers q.flights replies

-- WHAT IS ALWAYS TRUE of a session: its pieces are those of its plan
pub record IsSession (v : PlainVolume) (spare room : ℕ) (told : Option Image) (plan : List Request) (q : QueueState)
    (actors : List Actor) (replies : List (Option (ListWithRoom ℕ))) : Type 0 where
  pub plan_is : IsPlan plan
  pub pieces : q.callers.pieces ≡ pieces_on v plan
  pub progress : IsProgress v spare room told q actors replies
