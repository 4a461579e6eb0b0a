-- The steps of a write: an edge that is read, or isn't, and the write itself.
use Rattle.std.proofs.Common.{◌≡◌, ◌≢◌, inl, inr, ℕ, ◌<◌, ◌≤◌, Bool, false, List, [], ◌∷◌, ◌++◌, length, map, set, slice_get, slice_index_or, Option, Some, None, Result, Ok, Err, refl, sym, ap, ◌∙◌, subst, arith}
use Rattle.std.proofs.lemmas.Bool.{false≢true}
use Rattle.std.proofs.lemmas.Option.{get_or_from_slice_get}
use Rattle.std.specs.Result.{IfErr, is_ok}
use Rattle.std.specs.Option.{option_map_or}
use Rattle.zd_base.specs.declared.numbers.Why.{Why}
use Rattle.zd_disk.specs.Told.{next_count}
use Rattle.zd_disk.specs.View.{HasFailed, OnlyReads, ReadsOnce, View}
use Rattle.zd_model.specs.History.{mark_of_entry, mark_of_piece}
use Rattle.zd_model.specs.Image.{Image}
use Rattle.zd_model.specs.Plain.Answer.{Done, Fault}
use Rattle.zd_model.specs.Requests.{Operation, block_count, operation_of}
use Rattle.zd_model.specs.Requests.Operation.{Writing}
use Rattle.zd_model.specs.declared.requests.Piece.{Piece}
use Rattle.zd_model.specs.declared.requests.Request.{Request}
use Rattle.zd_state.specs.Seen.{SameSession, Seen}
use Rattle.zd_volume.specs.Discards.{chunk_touched}
use Rattle.zd_volume.specs.Flights.{answered}
use Rattle.zd_volume.specs.Volumes.{PlainVolume, sets_of}
use Rattle.zd_volume.proofs.Choices.{some_blocks}
use Rattle.zd_routes.specs.Edges.{AreEdges, IsDue, MayBeEdges, ReadsEdge, bytes_at}
use Rattle.zd_routes.specs.Routes.{LacksZone, WritesBlocks}
use Rattle.zd_routes.specs.declared.edges.Edge.{Edge}
use Rattle.zd_routes.specs.declared.edges.Edge.TheVariants.{First, Last}
use Rattle.zd_routes.specs.declared.edges.Edges.{Edges}
use Rattle.zd_write.specs.Tries.{TriesCall, TriesWrite}
use Rattle.zd_write.specs.declared.steps.Tried.{Tried}
use Rattle.zd_write.proofs.GivenJobs.{given_rest}
use Rattle.zd_write.proofs.SettledRest.{settled_rest}
use Rattle.zd_steps.specs.Queues.{EntersPiece, IsQueue, QueueState, head_of}
use Rattle.zd_session.specs.Moving.{CanMove, HasMoved, StandsSo, seen_by}
use Rattle.zd_session.specs.Serving.{EntersTried, ServesEdge, ServesWrite}
use Rattle.zd_session.specs.SessionSteps.{CallsAtMostOnce}
use Rattle.zd_session.specs.Sessions.{CanServeBy, CanServeIn, HasInHand, HoldsBy, IsFree, edges_seen, no_edges}
use Rattle.zd_session.specs.declared.actor.Actor.{Actor}
use Rattle.zd_session.specs.declared.progress.Progress.{Progress}
use Rattle.zd_session.proofs.ActorLaws.{HasEdgeRoom, others_apart}
use Rattle.zd_session.proofs.EdgeStates.{edges_there, held_edges, none_held, read_held}
use Rattle.zd_session.proofs.HeldLaws.{hand_stays}
use Rattle.zd_session.proofs.MovedLaws.{actor_there, calls_read, calls_write, edge_room, flight_there, moved_enter, moved_fly, moved_stay}
use Rattle.zd_session.proofs.ReplyLaws.{same_replies}
use Rattle.zd_session.proofs.ServeLaws.{can_serve, fits, marks_more, not_flush}
use Rattle.zd_session.proofs.SparedLaws.{Nowhere, Spares, failed_spares, spares_itself, write_spares}
use Rattle.zd_session.proofs.SparedSteps.{stopped_spares}

-- what is known of an error, where there is one
pub told_err : (r : Result (Unit {0}) Why) (P : Why → Type 0) → is_ok r ≡ false → IfErr r P → (why : Why) × P why
told_err (Ok x) P off told = absurd (false≢true (sym off))
told_err (Err why) P off told = (why, told)

-- a write that was tried, and lacked no zone, has entered its piece
tried_enters : (from to : PlainVolume) (p : Piece) (tried : Tried) → (LacksZone from p.what → ⊥)
    → TriesWrite from to p tried → EntersTried tried
tried_enters from to p Tried.Entered zone did = tt
tried_enters from to p Tried.NoZone zone did = absurd (zone did.0)
tried_enters from to p Tried.Stopped zone did = tt

pub tried_marks : (from to : PlainVolume) (p : Piece) (tried : Tried) → EntersTried tried → TriesWrite from to p tried
    → map mark_of_entry to.history ≡ map mark_of_entry from.history ++ mark_of_piece p ∷ []
tried_marks from to p Tried.Entered enters did =
    let c : ℕ = chunk_touched from.geometry.zone_blocks p.what in
    ap (λ (v : PlainVolume). map mark_of_entry v.history) (settled_rest did.written to c did.settles)
    ∙ ap (λ (v : PlainVolume). map mark_of_entry v.history) did.writes.rest
    ∙ ap (λ (v : PlainVolume). map mark_of_entry (v.history ++ answered p Done (next_count v.since) ∷ []))
    (given_rest from did.given c did.gives)
    ∙ marks_more from.history p Done (next_count from.since)
tried_marks from to p Tried.NoZone enters did = absurd enters
tried_marks from to p Tried.Stopped enters did =
    let c : ℕ = chunk_touched from.geometry.zone_blocks p.what in
    ap (λ (v : PlainVolume). map mark_of_entry v.history) did.fails
    ∙ ap (λ (v : PlainVolume). map mark_of_entry (v.history ++ answered p Fault (next_count v.since) ∷ []))
    (given_rest from did.given c did.gives)
    ∙ marks_more from.history p Fault (next_count from.since)

tried_calls : (u x : View) (tried : Tried) → EntersTried tried → TriesCall tried u x → CallsAtMostOnce u x
tried_calls u x Tried.Entered enters calls = calls_write u x calls
tried_calls u x Tried.NoZone enters calls = absurd enters
tried_calls u x Tried.Stopped enters calls = calls_write u x calls.0

-- edges with the same bytes
same_bytes : (old new : Edges) → new.first.items ≡ old.first.items → new.last.items ≡ old.last.items → (edge : Edge)
    → bytes_at new edge ≡ bytes_at old edge
same_bytes old new first last First = first
same_bytes old new first last Last = last

same_hand : (v : PlainVolume) (told : Option Image) (p : Piece) (old new : Actor) → new.read ≡ old.read
    → new.edges.first.items ≡ old.edges.first.items → new.edges.last.items ≡ old.edges.last.items
    → HoldsBy v told p old Writing → HoldsBy v told p new Writing
same_hand v told p old new read first last holds = (
  read ∙ holds.0,
  record {
    in_range = holds.1.in_range;
    writes = holds.1.writes;
    read = λ edge some.
        let same = same_bytes old.edges new.edges first last edge in
        let was = holds.1.read edge (λ none. some (same ∙ none)) in (
          was.0,
          record {
            size = ap (λ (bs : List ℕ). length bs) same ∙ was.1.size;
            last = λ o at. same ∙ was.1.last o at;
          },
        );
  },
)

module _ {D : Type 0} (look : D → View) (v : Seen D) (g : Progress) (actor : ℕ) (p : Piece)
    (moves : CanMove look v g actor p) (range : p.range ≡ false) (writes : operation_of p.what ≡ Writing) where
  abbrev told : Option Image
  told = (look v.opening).zones

  -- THE PIECE WRITES BLOCKS
  pub writes_blocks : WritesBlocks (sets_of v.plain) p.what
  writes_blocks =
      subst (λ (o : Operation). CanServeIn v.plain p o) writes
      (subst (λ (b : Bool). CanServeBy v.plain p b) range (can_serve look v v g actor p moves))

  flight : (flight : Option Piece) × (slice_get g.queue.flights actor ≡ Some flight)
  flight = flight_there v.plain told g.queue.flights g.actors.items moves.going.holds actor moves.inside

  -- its actor has nothing in flight, or goes on with it
  holds_write : (a : Actor) → slice_get g.actors.items actor ≡ Some a → HoldsBy v.plain told p a Writing
  holds_write a at = by flight.0 flight.1
    where
      by : (flight : Option Piece) → slice_get g.queue.flights actor ≡ Some flight → HoldsBy v.plain told p a Writing
      by None is =
          let free : IsFree a = moves.going.holds.holds actor None a is at in
          (free.read, none_held v.plain told p range writes_blocks a.edges free.edges)
      by (Some q) is =
          subst (λ (o : Operation). HoldsBy v.plain told p a o) writes
          (subst (λ (x : Piece). HasInHand v.plain told (Some x) a) (moves.serve.only q is)
          (moves.going.holds.holds actor (Some q) a is at))

  module _ (now : Actor) (is : now ≡ slice_index_or g.actors.items actor now) where
    there : (a : Actor) × (slice_get g.actors.items actor ≡ Some a)
    there = actor_there v.plain told g.queue.flights g.actors.items moves.going.holds actor moves.inside

    now_there : slice_get g.actors.items actor ≡ Some now
    now_there = there.1 ∙ ap Some (sym (is ∙ get_or_from_slice_get g.actors.items actor there.0 now there.1))

    pub now_room : HasEdgeRoom now
    now_room = edge_room v.plain told g.queue.flights g.actors.items moves.going.holds actor moves.inside now now_there

    pub now_seen : edges_seen g.actors.items actor ≡ now.edges
    now_seen = ap (λ (o : Option Actor). option_map_or (λ (a : Actor). a.edges) o no_edges) now_there

    -- WHAT IT HAS OF THE EDGES
    pub may_be : StandsSo look v → MayBeEdges v.plain (look v.disk).zones p.what now.edges
    may_be stands =
        held_edges v.plain told p range writes_blocks (look v.disk).zones (stands.serving moves.running)
        (stands.showed moves.running) now.edges (holds_write now now_there).1 now_room.first now_room.last

    pub due_there : ((edge : Edge) × IsDue v.plain p.what (edges_seen g.actors.items actor) edge)
        → (edge : Edge) × IsDue v.plain p.what now.edges edge
    due_there due = subst (λ (e : Edges). (edge : Edge) × IsDue v.plain p.what e edge) now_seen due

    pub all_there : StandsSo look v
        → ((edge : Edge) → IsDue v.plain p.what (edges_seen g.actors.items actor) edge → ⊥)
        → AreEdges v.plain (look v.disk).zones p.what now.edges
    all_there stands none =
        edges_there v.plain (look v.disk).zones p.what now.edges (may_be stands)
        (subst (λ (e : Edges). (edge : Edge) → IsDue v.plain p.what e edge → ⊥) now_seen none)

    module _ (stands : StandsSo look v) (sound : IsQueue g.queue.chunk_blocks g.queue.callers g.queue.flights) (w : Seen D)
        (h : Progress) (replies : h.replies ≡ g.replies) where
      -- AN EDGE IS READ
      module _ (edges : Edges) (call : ReadsOnce (look v.disk) (look w.disk)) (only : OnlyReads (look v.disk) (look w.disk))
          (actors : h.actors.items ≡ set g.actors.items actor (record { read = now.read; edges = edges })) where
        abbrev later : Actor
        later = record { read = now.read; edges = edges }

        module _ (did : ReadsEdge v.plain (look v.disk).zones p.what now.edges edges × (w.plain ≡ v.plain))
            (queue : h.queue ≡ record g.queue { flights = set g.queue.flights actor (Some p) }) where
          pub edge_serves : (plan : List Request) → ServesEdge look (seen_by v plan g) (seen_by w plan h) actor p
          edge_serves plan = record {
            call = call;
            reads = only;
            did = inl (record {
              old = now;
              was = now_there;
              new = later;
              read = did.0;
              volume = did.1;
              gives = record { flights = ap (λ (q : QueueState). q.flights) queue; actors = actors };
            });
          }

          pub edge_moved : SameSession 0 v w → MayBeEdges v.plain (look v.disk).zones p.what edges → HasMoved look v w g h
          edge_moved same may =
              moved_fly look v w g h actor p moves stands sound 0 same (calls_read (look v.disk) (look w.disk) only (inr call))
              Nowhere (spares_itself told v.plain w.plain did.1) (omega arith) queue (ap (λ (x : PlainVolume). x.history) did.1)
              (λ b f other at none. none) later
              (subst (λ (o : Operation). HoldsBy w.plain told p later o) (sym writes)
              (subst (λ (x : PlainVolume). HoldsBy x told p later Writing) (sym did.1) (
                (holds_write now now_there).0,
                read_held v.plain told p range writes_blocks (look v.disk).zones (stands.serving moves.running) stands.shows
                    now.edges edges (holds_write now now_there).1 did.0,
              )))
              (record { first = may.first_room; last = may.last_room }) actors
              (same_replies (head_of g.queue.callers p.caller) g.replies.items h.replies.items (ap (λ (r : _). r.items) replies))

        -- THE DISK FAILED
        module _ (did : w.plain ≡ record v.plain { stopped = Some Why.Device })
            (first : edges.first.items ≡ now.edges.first.items) (last : edges.last.items ≡ now.edges.last.items)
            (queue : h.queue ≡ g.queue) where
          pub failed_serves : HasFailed (look v.disk) (look w.disk) → (plan : List Request)
              → ServesEdge look (seen_by v plan g) (seen_by w plan h) actor p
          failed_serves failed plan = record {
            call = call;
            reads = only;
            did = inr (record {
              volume = did;
              flights = ap (λ (q : QueueState). q.flights) queue;
              failed = failed;
            });
          }

          spared : Spares told Nowhere v.plain w.plain
          spared = stopped_spares told v.plain w.plain Why.Device did

          pub failed_moved : SameSession 0 v w → MayBeEdges v.plain (look v.disk).zones p.what edges → HasMoved look v w g h
          failed_moved same may =
              moved_stay look v w g h actor p moves stands sound 0 same (calls_read (look v.disk) (look w.disk) only (inr call))
              Nowhere spared (omega arith) queue (ap (λ (x : PlainVolume). x.history) did) (λ b f other at none. none) flight.0
              flight.1 later
              (by flight.0 flight.1)
              (record { first = may.first_room; last = may.last_room }) actors (ap (λ (r : _). r.items) replies)
            where
              by : (f : Option Piece) → slice_get g.queue.flights actor ≡ Some f → HasInHand w.plain told f later
              by None is =
                  let free : IsFree now = moves.going.holds.holds actor None now is now_there in
                  record { read = free.read; edges = (first ∙ free.edges.0, last ∙ free.edges.1) }
              by (Some q) is =
                  subst (λ (x : Piece). HasInHand w.plain told (Some x) later) (sym (moves.serve.only q is))
                  (hand_stays told Nowhere v.plain w.plain spared (some_blocks (sets_of v.plain) stands.fixed.sets) p
                  (λ none. none) later
                  (subst (λ (o : Operation). HoldsBy v.plain told p later o) (sym writes)
                  (same_hand v.plain told p now later refl first last (holds_write now now_there))))

      -- THE WRITE
      module _ (tried : Tried) (did : TriesWrite v.plain w.plain p tried) (zone : LacksZone v.plain p.what → ⊥)
          (call : TriesCall tried (look v.disk) (look w.disk)) (cleared : Edges) (first : cleared.first.items ≡ [])
          (last : cleared.last.items ≡ [])
          (actors : h.actors.items ≡ set g.actors.items actor (record { read = now.read; edges = cleared }))
          (enters : EntersPiece g.queue h.queue actor p) where
        abbrev done : Actor
        done = record { read = now.read; edges = cleared }

        entered : EntersTried tried
        entered = tried_enters v.plain w.plain p tried zone did

        free : IsFree done
        free = record { read = (holds_write now now_there).0; edges = (first, last) }

        pub write_serves : (plan : List Request) → ServesWrite look (seen_by v plan g) (seen_by w plan h) actor p
        write_serves plan = record {
          tried = tried;
          enters = entered;
          tries = did;
          call = call;
          lands = record {
            a = done;
            gives = record { flights = ap (λ (q : QueueState). q.flights) enters.rest; actors = actors };
            free = free;
          };
        }

        pub write_moved : SameSession 1 v w → HasEdgeRoom done → HasMoved look v w g h
        write_moved same room = by tried did entered
          where
            enter : (Touched : ℕ → Type 0) → Spares told Touched v.plain w.plain
                → ((b : ℕ) (f : Piece) → b ≢ actor → slice_get g.queue.flights b ≡ Some (Some f)
                → Touched (chunk_touched v.plain.geometry.zone_blocks f.what) → ⊥) → HasMoved look v w g h
            enter Touched spared off =
                moved_enter look v w g h actor p moves stands sound 1 same
                (tried_calls (look v.disk) (look w.disk) tried entered call) Touched spared (omega arith) enters
                (tried_marks v.plain w.plain p tried entered did) off done free room actors
                (same_replies (head_of g.queue.callers p.caller) g.replies.items h.replies.items
                (ap (λ (r : _). r.items) replies))

            by : (t : Tried) → TriesWrite v.plain w.plain p t → EntersTried t → HasMoved look v w g h
            by Tried.Entered did entered =
                enter (λ chunk. chunk ≡ chunk_touched v.plain.geometry.zone_blocks p.what)
                (write_spares told v.plain p stands.fixed (stands.based moves.running) w.plain writes_blocks did)
                (others_apart g.queue v.plain.geometry.zone_blocks actor p moves.going.chunks sound moves.serve range
                (not_flush p Writing writes (λ same. cc)))
            by Tried.NoZone did entered = absurd entered
            by Tried.Stopped did entered =
                enter Nowhere (failed_spares told v.plain p stands.fixed (stands.based moves.running) w.plain did)
                (λ b f other at none. none)

    pub write_fits : IsQueue g.queue.chunk_blocks g.queue.callers g.queue.flights
        → (0 < v.spare) × (block_count p.what ≤ v.room)
    write_fits sound = (
      fits look v v g actor p moves sound,
      moves.going.room_for (head_of g.queue.callers p.caller) p moves.serve.first range writes,
    )
