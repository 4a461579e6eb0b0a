-- The step of a read: what its actor has of it, and what is left once a run was read.
use Rattle.std.proofs.Common.{◌≡◌, ◌⊎◌, inl, inr, ℕ, zero, suc, ◌<◌, Bool, false, List, [], ◌∷◌, ◌++◌, length, map, set, slice_get, slice_index_or, Option, Some, None, refl, sym, ap, ◌∙◌, subst, arith}
use Rattle.std.proofs.lemmas.List.{get_or-set_same}
use Rattle.std.proofs.lemmas.Option.{none-some, same_Some}
use Rattle.std.specs.Prelude.{option_and_then}
use Rattle.zd_disk.specs.View.{OnlyReads, View}
use Rattle.zd_model.specs.History.{mark_of_entry, mark_of_piece}
use Rattle.zd_model.specs.Image.{Image}
use Rattle.zd_model.specs.Plain.{Answer}
use Rattle.zd_model.specs.Plain.Answer.{Fault, Got}
use Rattle.zd_model.specs.Requests.{Operation, operation_of}
use Rattle.zd_model.specs.Requests.Operation.{Reading}
use Rattle.zd_model.specs.declared.requests.Piece.{Piece}
use Rattle.zd_model.specs.declared.requests.Request.{Request}
use Rattle.zd_state.specs.Seen.{SameSession, Seen}
use Rattle.zd_volume.specs.Flights.{IsFlight, IsPieceIn, ReadStep, ReadsPlace, with_entry}
use Rattle.zd_volume.specs.Volumes.{PlainVolume}
use Rattle.zd_volume.specs.declared.flight.Flight.{Flight}
use Rattle.zd_volume.specs.declared.flight.Ran.{Ran}
use Rattle.zd_steps.specs.Queues.{EntersPiece, IsQueue, QueueState, head_of}
use Rattle.zd_session.specs.Moving.{CanMove, HasMoved, HasReplyIfNone, LeavesReplies, StandsSo, TakesRead, seen_by}
use Rattle.zd_session.specs.Serving.{IsReadOf, ServesRead, read_of}
use Rattle.zd_session.specs.SessionSteps.{CallsAtMostOnce}
use Rattle.zd_session.specs.Sessions.{CanServeBy, CanServeIn, HasInHand, HasNoEdges, HasNoneInFlight, HoldsBy, HoldsRead, IsFree}
use Rattle.zd_session.specs.declared.actor.Actor.{Actor}
use Rattle.zd_session.specs.declared.progress.Progress.{Progress}
use Rattle.zd_session.proofs.ActorLaws.{HasEdgeRoom}
use Rattle.zd_session.proofs.MovedLaws.{calls_read, edge_room, flight_there, moved_enter, moved_fly}
use Rattle.zd_session.proofs.ReadLaws.{held_flight, holds_flight, new_flight}
use Rattle.zd_session.proofs.ReplyLaws.{SameBut, same_replies, taken_reply}
use Rattle.zd_session.proofs.ServeLaws.{can_serve, marks_more}
use Rattle.zd_session.proofs.SparedLaws.{Nowhere}
use Rattle.zd_session.proofs.SparedSteps.{read_spares}

-- what stands at a place once it was set, and set again
pub set_twice : {X : Type 0} (xs : List X) (i : ℕ) (x y : X) → set (set xs i x) i y ≡ set xs i y
set_twice [] i x y = refl
set_twice (z ∷ xs) zero x y = refl
set_twice (z ∷ xs) (suc i) x y = ap (λ (ys : List _). z ∷ ys) (set_twice xs i x y)

pub there_inside : {X : Type 0} (xs : List X) (i : ℕ) (x : X) → slice_get xs i ≡ Some x → i < length xs
there_inside [] i x at = absurd (none-some x at)
there_inside (y ∷ xs) zero x at = omega arith
there_inside (y ∷ xs) (suc i) x at = let low = there_inside xs i x at in omega (arith, low)

-- an actor whose read was taken, once it has another one
put_back : (xs ys : List Actor) (i : ℕ) (a now : Actor) (f : Flight) → slice_get xs i ≡ Some a
    → ys ≡ set xs i (record a { read = None }) → now ≡ slice_index_or ys i now
    → set ys i (record { read = Some f; edges = now.edges }) ≡ set xs i (record { read = Some f; edges = a.edges })
put_back xs ys i a now f at taken is =
    let mine : now ≡ record a { read = None } =
    is ∙ ap (λ (zs : List Actor). slice_index_or zs i now) taken
    ∙ get_or-set_same xs i (record a { read = None }) now (there_inside xs i a at) in
    ap (λ (zs : List Actor). set zs i (record { read = Some f; edges = now.edges })) taken
    ∙ set_twice xs i (record a { read = None }) (record { read = Some f; edges = now.edges })
    ∙ ap (λ (x : Actor). set xs i (record { read = Some f; edges = x.edges })) mine

-- a run with a place makes one reading call
calls_of : (zone : Option ℕ) (u x : View) → OnlyReads u x → ReadsPlace zone u x → CallsAtMostOnce u x
calls_of None u x reads calls = calls_read u x reads (inl calls)
calls_of (Some zone) u x reads calls = calls_read u x reads (inr calls)

calls_ran : (v w : PlainVolume) (u x : View) (f new : Flight) (ran : Ran) → OnlyReads u x → ReadStep v w u x f new ran
    → CallsAtMostOnce u x
calls_ran v w u x f new Ran.More reads did = calls_of did.run.zone u x reads did.run.calls
calls_ran v w u x f new Ran.Entered reads (inl did) = calls_of did.zone u x reads did.calls
calls_ran v w u x f new Ran.Entered reads (inr did) = calls_read u x reads (inr did.run.calls)

module _ {D : Type 0} (look : D → View) (v : Seen D) (g : Progress) (actor : ℕ) (p : Piece)
    (moves : CanMove look v g actor p) (range : p.range ≡ false) (reads : operation_of p.what ≡ Reading) where
  abbrev told : Option Image
  told = (look v.opening).zones

  inside : IsPieceIn v.plain p
  inside =
      subst (λ (o : Operation). CanServeIn v.plain p o) reads
      (subst (λ (b : Bool). CanServeBy v.plain p b) range (can_serve look v v g actor p moves))

  -- ITS ACTOR HAS NOTHING, or goes on with it
  hand : (a : Actor) → slice_get g.actors.items actor ≡ Some a → IsFree a ⊎ HoldsBy v.plain told p a Reading
  hand a at = by flight.0 flight.1
    where
      flight : (flight : Option Piece) × (slice_get g.queue.flights actor ≡ Some flight)
      flight = flight_there v.plain told g.queue.flights g.actors.items moves.going.holds actor moves.inside

      by : (flight : Option Piece) → slice_get g.queue.flights actor ≡ Some flight → IsFree a ⊎ HoldsBy v.plain told p a Reading
      by None is = inl (moves.going.holds.holds actor None a is at)
      by (Some q) is =
          inr (subst (λ (o : Operation). HoldsBy v.plain told p a o) reads
          (subst (λ (x : Piece). HasInHand v.plain told (Some x) a) (moves.serve.only q is)
          (moves.going.holds.holds actor (Some q) a is at)))

  no_edges_held : (a : Actor) → IsFree a ⊎ HoldsBy v.plain told p a Reading → HasNoEdges a.edges
  no_edges_held a (inl free) = free.edges
  no_edges_held a (inr holds) = holds.1

  -- THE REPLY OF ONE that begins has space
  pub reply_space : (a : Actor) → slice_get g.actors.items actor ≡ Some a → HasReplyIfNone a.read g p
  reply_space a at = by a.read refl
    where
      none_flies : a.read ≡ None → HasNoneInFlight p.caller g.queue.flights
      none_flies none i f is same =
          let here : slice_get g.queue.flights actor ≡ Some (Some f) =
          sym (ap (slice_get g.queue.flights) (moves.serve.caller i f is same)) ∙ is in
          let holds : HoldsBy v.plain told p a Reading =
          subst (λ (o : Operation). HoldsBy v.plain told p a o) reads
          (subst (λ (x : Piece). HasInHand v.plain told (Some x) a) (moves.serve.only f here)
          (moves.going.holds.holds actor (Some f) a here at)) in
          none-some holds.0.0 (sym none ∙ holds.0.1)

      by : (read : Option Flight) → a.read ≡ read → HasReplyIfNone read g p
      by (Some f) is = tt
      by None is =
          moves.going.space.space (head_of g.queue.callers p.caller) p moves.serve.first range reads (omega arith)
          (λ here. none_flies is)

  module _ (stands : StandsSo look v) (h : Progress) (f : Flight) (takes : TakesRead g h actor p f) where
    abbrev a : Actor
    a = takes.a

    flight_by : (read : Option Flight) → a.read ≡ read → IsReadOf read p f → LeavesReplies read g h p f
        → (f.piece ≡ p) × IsFlight v.plain (look v.disk).zones f
    flight_by None none is leaves = (
      is.0,
      new_flight v.plain told p inside (stands.based moves.running) (look v.disk).zones (stands.showed moves.running)
          (stands.serving moves.running) f reads is.0 is.1 is.2 leaves.0,
    )
    flight_by (Some read) some is leaves = elim (hand a takes.was) [
      | inl free ↦ absurd (none-some read (sym free.read ∙ some))
      | inr holds ↦ (let same : holds.0.0 ≡ f = same_Some holds.0.0 f (sym holds.0.1 ∙ some ∙ ap Some (sym is)) in
          let held : HoldsRead v.plain told p f = subst (λ (x : Flight). HoldsRead v.plain told p x) same holds.0.2 in (
            held.piece,
            held_flight v.plain told p inside (stands.based moves.running) (look v.disk).zones (stands.showed moves.running)
                (stands.serving moves.running) f reads held,
          ))
    ]

    both : (f.piece ≡ p) × IsFlight v.plain (look v.disk).zones f
    both = flight_by a.read refl takes.is takes.replies

    -- WHAT WAS TAKEN IS A READ UNDER WAY
    pub taken_flight : IsFlight v.plain (look v.disk).zones f
    taken_flight = both.1

    replies_but : SameBut (head_of g.queue.callers p.caller) g.replies.items h.replies.items
    replies_but = by a.read takes.replies
      where
        by : (read : Option Flight) → LeavesReplies read g h p f
            → SameBut (head_of g.queue.callers p.caller) g.replies.items h.replies.items
        by None leaves = taken_reply (head_of g.queue.callers p.caller) g.replies.items h.replies.items leaves.1
        by (Some read) leaves = same_replies (head_of g.queue.callers p.caller) g.replies.items h.replies.items leaves

    read_is : (plan : List Request) → IsReadOf (read_of (seen_by v plan g) actor) p f
    read_is plan =
        subst (λ (o : Option Actor). IsReadOf (option_and_then (λ (x : Actor). x.read) o) p f) (sym takes.was) takes.is

    room_of : (read : Option Flight) → HasEdgeRoom (record a { read = read })
    room_of read =
        let room = edge_room v.plain told g.queue.flights g.actors.items moves.going.holds actor moves.inside a takes.was in
        record { first = room.first; last = room.last }

    -- BLOCKS ARE LEFT: it goes on
    module _ (w : Seen D) (new : Flight) (did : ReadStep v.plain w.plain (look v.disk) (look w.disk) f new Ran.More)
        (now : Actor) (is : now ≡ slice_index_or h.actors.items actor now) where
      abbrev more : Actor
      more = record { read = Some new; edges = a.edges }

      more_actors : set h.actors.items actor (record { read = Some new; edges = now.edges }) ≡ set g.actors.items actor more
      more_actors = put_back g.actors.items h.actors.items actor a now new takes.was takes.actors is

      more_holds : HasInHand w.plain told (Some p) more
      more_holds =
          subst (λ (o : Operation). HoldsBy w.plain told p more o) (sym reads)
          (subst (λ (x : PlainVolume). HoldsBy x told p more Reading) (sym did.volume) (
            (
              new,
              refl,
              holds_flight v.plain told p inside (stands.based moves.running) (look v.disk) stands.shows
                  (stands.serving moves.running) w.plain (look w.disk) f new both.0 did,
            ),
            no_edges_held a (hand a takes.was),
          ))

      module _ (k : Progress) (queue : k.queue ≡ record h.queue { flights = set h.queue.flights actor (Some p) })
          (actors : k.actors.items ≡ set h.actors.items actor (record { read = Some new; edges = now.edges })) where
        more_queue : k.queue ≡ record g.queue { flights = set g.queue.flights actor (Some p) }
        more_queue = queue ∙ ap (λ (q : QueueState). record q { flights = set q.flights actor (Some p) }) takes.queue

        pub more_serves : (plan : List Request) → ServesRead look (seen_by v plan g) (seen_by w plan k) actor p
        more_serves plan = record {
          flight = f;
          is = read_is plan;
          next = new;
          ran = Ran.More;
          step = did;
          after = (
            more,
            refl,
            record {
              flights = ap (λ (q : QueueState). q.flights) more_queue;
              actors = actors ∙ more_actors;
            },
          );
        }

        pub more_moved : OnlyReads (look v.disk) (look w.disk) → SameSession 0 v w
            → IsQueue g.queue.chunk_blocks g.queue.callers g.queue.flights → k.replies ≡ h.replies
            → HasMoved look v w g k
        more_moved only same sound replies =
            moved_fly look v w g k actor p moves stands sound 0 same
            (calls_ran v.plain w.plain (look v.disk) (look w.disk) f new Ran.More only did) Nowhere
            (read_spares told v.plain w.plain (look v.disk) (look w.disk) f new Ran.More did) (omega arith) more_queue
            (ap (λ (x : PlainVolume). x.history) did.volume) (λ b x other at none. none) more more_holds (room_of (Some new))
            (actors ∙ more_actors)
            (subst (λ (r : _). SameBut (head_of g.queue.callers p.caller) g.replies.items r.items) (sym replies) replies_but)

    -- NONE IS LEFT, or the disk failed: it is entered
    module _ (w : Seen D) (new : Flight) (did : ReadStep v.plain w.plain (look v.disk) (look w.disk) f new Ran.Entered)
        (k : Progress) (enters : EntersPiece h.queue k.queue actor p) (actors : k.actors ≡ h.actors) where
      abbrev done : Actor
      done = record a { read = None }

      done_free : IsFree done
      done_free = record { read = refl; edges = no_edges_held a (hand a takes.was) }

      done_enters : EntersPiece g.queue k.queue actor p
      done_enters = subst (λ (q : QueueState). EntersPiece q k.queue actor p) takes.queue enters

      done_actors : k.actors.items ≡ set g.actors.items actor done
      done_actors = ap (λ (x : _). x.items) actors ∙ takes.actors

      marks : map mark_of_entry w.plain.history ≡ map mark_of_entry v.plain.history ++ mark_of_piece p ∷ []
      marks = by did
        where
          entry : (reply : Answer) → w.plain ≡ with_entry v.plain f.piece reply
              → map mark_of_entry w.plain.history ≡ map mark_of_entry v.plain.history ++ mark_of_piece p ∷ []
          entry reply is =
              ap (λ (x : PlainVolume). map mark_of_entry x.history) is
              ∙ marks_more v.plain.history f.piece reply v.plain.since
              ∙ ap (λ (x : Piece). map mark_of_entry v.plain.history ++ mark_of_piece x ∷ []) both.0

          by : ReadStep v.plain w.plain (look v.disk) (look w.disk) f new Ran.Entered
              → map mark_of_entry w.plain.history ≡ map mark_of_entry v.plain.history ++ mark_of_piece p ∷ []
          by (inl ends) = entry (Got ends.bytes) ends.volume
          by (inr fails) = entry Fault fails.volume

      pub done_serves : (plan : List Request) → ServesRead look (seen_by v plan g) (seen_by w plan k) actor p
      done_serves plan = record {
        flight = f;
        is = read_is plan;
        next = new;
        ran = Ran.Entered;
        step = did;
        after = record {
          a = done;
          gives = record {
            flights = ap (λ (q : QueueState). q.flights) done_enters.rest;
            actors = done_actors;
          };
          free = done_free;
        };
      }

      pub done_moved : OnlyReads (look v.disk) (look w.disk) → SameSession 1 v w
          → IsQueue g.queue.chunk_blocks g.queue.callers g.queue.flights → k.replies ≡ h.replies → HasMoved look v w g k
      done_moved only same sound replies =
          moved_enter look v w g k actor p moves stands sound 1 same
          (calls_ran v.plain w.plain (look v.disk) (look w.disk) f new Ran.Entered only did) Nowhere
          (read_spares told v.plain w.plain (look v.disk) (look w.disk) f new Ran.Entered did) (omega arith) done_enters marks
          (λ b x other at none. none) done done_free (room_of None) done_actors
          (subst (λ (r : _). SameBut (head_of g.queue.callers p.caller) g.replies.items r.items) (sym replies) replies_but)
