-- A step of an actor, put together: a piece is entered, one goes on in flight, or all stay where they were.
use Rattle.std.proofs.Common.{◌≡◌, ◌≢◌, ◌⊎◌, inl, inr, ℕ, ◌<◌, ◌≤◌, List, [], ◌∷◌, ◌++◌, length, map, set, get_or, slice_get, Option, Some, None, refl, sym, ap, ◌∙◌, subst, arith}
use Rattle.std.proofs.lemmas.List.{length-set, set-get_or}
use Rattle.std.proofs.lemmas.Option.{get_or_from_slice_get, slice_get-get_or}
use Rattle.zd_disk.specs.View.{OnlyReads, ReadsNone, ReadsOnce, Stays, View}
use Rattle.zd_model.specs.History.{mark_of_entry, mark_of_piece}
use Rattle.zd_model.specs.Image.{Image}
use Rattle.zd_model.specs.Room.{ListWithRoom}
use Rattle.zd_model.specs.declared.requests.Piece.{Piece}
use Rattle.zd_routes.specs.Writes.{CallsOnce}
use Rattle.zd_state.specs.Seen.{SameSession, Seen}
use Rattle.zd_volume.specs.Discards.{chunk_touched}
use Rattle.zd_volume.specs.Volumes.{PlainVolume, sets_of}
use Rattle.zd_volume.proofs.Choices.{some_blocks}
use Rattle.zd_steps.specs.Queues.{EntersPiece, IsQueue, QueueState, head_of}
use Rattle.zd_session.specs.Moving.{CanMove, HasMoved, StandsSo}
use Rattle.zd_session.specs.SessionSteps.{CallsAtMostOnce}
use Rattle.zd_session.specs.Sessions.{AreActors, AreReplies, HasInHand, IsFree, IsProgress}
use Rattle.zd_session.specs.declared.actor.Actor.{Actor}
use Rattle.zd_session.specs.declared.progress.Progress.{Progress}
use Rattle.zd_session.proofs.ActorLaws.{HasEdgeRoom, actors_move}
use Rattle.zd_session.proofs.GoingLaws.{progress_enter, progress_same}
use Rattle.zd_session.proofs.ReplyLaws.{SameBut, replies_enter, replies_fly}
use Rattle.zd_session.proofs.SparedLaws.{Spares}

-- NO CALL, one reading call, one writing call
stays_itself : (u : View) → Stays u u
stays_itself u = record { told = λ g is. is; later = omega arith; read_calls = omega arith }

pub calls_none : {D : Type 0} (look : D → View) (d e : D) → e ≡ d → CallsAtMostOnce (look d) (look e)
calls_none look d e same =
    subst (λ (x : _). CallsAtMostOnce (look d) (look x)) (sym same)
    (record { stays = stays_itself (look d); calls = inl (refl, refl) })

pub calls_read : (u x : View) → OnlyReads u x → ReadsNone u x ⊎ ReadsOnce u x → CallsAtMostOnce u x
calls_read u x reads (inl none) = record { stays = reads.stays; calls = inl (reads.calls, none) }
calls_read u x reads (inr once) = record { stays = reads.stays; calls = inr (inr (reads.calls, once)) }

pub calls_write : (u x : View) → CallsOnce u x → CallsAtMostOnce u x
calls_write u x once = record { stays = once.stays; calls = inr (inl (once.calls, once.read_calls)) }

-- what stands at a place, set there again
pub set_same : {X : Type 0} (xs : List X) (i : ℕ) (x : X) → slice_get xs i ≡ Some x → set xs i x ≡ xs
set_same {X} xs i x at =
    ap (λ (y : X). set xs i y) (sym (get_or_from_slice_get xs i x x at)) ∙ set-get_or xs i x

-- WHAT AN ACTOR has, whose place there is
module _ (v : PlainVolume) (told : Option Image) (flights : List (Option Piece)) (actors : List Actor)
    (are : AreActors v told flights actors) (actor : ℕ) (inside : actor < length flights) where
  pub actor_there : (a : Actor) × (slice_get actors actor ≡ Some a)
  actor_there = at actors (let count = are.count in omega (arith, count, inside))
    where
      at : (xs : List Actor) → actor < length xs → (a : Actor) × (slice_get xs actor ≡ Some a)
      at [] low = absurd (omega (arith, low))
      at (x ∷ xs) low = (get_or (x ∷ xs) actor x, slice_get-get_or (x ∷ xs) actor x low)

  pub flight_there : (flight : Option Piece) × (slice_get flights actor ≡ Some flight)
  flight_there = (get_or flights actor None, slice_get-get_or flights actor None inside)

  -- without a flight it holds nothing
  pub free_there : (a : Actor) → slice_get actors actor ≡ Some a
      → ((p : Piece) → slice_get flights actor ≡ Some (Some p) → HasInHand v told (Some p) a → ⊥) → IsFree a
  free_there a at none = by flight_there.0 flight_there.1
    where
      by : (flight : Option Piece) → slice_get flights actor ≡ Some flight → IsFree a
      by None is = are.holds actor None a is at
      by (Some p) is = absurd (none p is (are.holds actor (Some p) a is at))

  pub edge_room : (a : Actor) → slice_get actors actor ≡ Some a → HasEdgeRoom a
  edge_room a at = record { first = are.first_room actor a at; last = are.last_room actor a at }

module _ {D : Type 0} (look : D → View) (v w : Seen D) (g h : Progress) (actor : ℕ) (p : Piece)
    (moves : CanMove look v g actor p) (stands : StandsSo look v)
    (sound : IsQueue g.queue.chunk_blocks g.queue.callers g.queue.flights) (n : ℕ) (same : SameSession n v w)
    (calls : CallsAtMostOnce (look v.disk) (look w.disk)) (Touched : ℕ → Type 0)
    (spared : Spares (look v.opening).zones Touched v.plain w.plain) where
  abbrev told : Option Image
  told = (look v.opening).zones

  some : 0 < v.plain.geometry.zone_blocks
  some = some_blocks (sets_of v.plain) stands.fixed.sets

  -- with what is always true of what is left
  moved_with : IsProgress w.plain w.spare v.room (look v.opening).zones h.queue h.actors.items h.replies.items
      → h.queue.callers.pieces ≡ g.queue.callers.pieces → length h.queue.flights ≡ length g.queue.flights
      → HasMoved look v w g h
  moved_with progress pieces count = record {
    going = subst (λ (d : D). IsProgress w.plain w.spare w.room (look d).zones h.queue h.actors.items h.replies.items)
        (sym same.opening)
        (subst (λ (r : ℕ). IsProgress w.plain w.spare r (look v.opening).zones h.queue h.actors.items h.replies.items)
        (sym same.room) progress);
    calls = calls;
    opening = same.opening;
    room = same.room;
    pieces = pieces;
    count = count;
    geometry = spared.geometry;
    layout = spared.layout;
    generation = spared.generation;
  }

  -- A PIECE IS ENTERED, and its actor has nothing in flight
  pub moved_enter : n ≤ 1 → EntersPiece g.queue h.queue actor p
      → map mark_of_entry w.plain.history ≡ map mark_of_entry v.plain.history ++ mark_of_piece p ∷ []
      → ((b : ℕ) (f : Piece) → b ≢ actor → slice_get g.queue.flights b ≡ Some (Some f)
      → Touched (chunk_touched v.plain.geometry.zone_blocks f.what) → ⊥)
      → (a : Actor) → IsFree a → HasEdgeRoom a → h.actors.items ≡ set g.actors.items actor a
      → SameBut (head_of g.queue.callers p.caller) g.replies.items h.replies.items → HasMoved look v w g h
  moved_enter few enters marks off a free room actors replies =
      let rest : h.queue.flights ≡ set g.queue.flights actor None = ap (λ (q : QueueState). q.flights) enters.rest in
      let blocks : h.queue.chunk_blocks ≡ g.queue.chunk_blocks = ap (λ (q : QueueState). q.chunk_blocks) enters.rest in
      moved_with
      (progress_enter told v.plain w.plain v.spare w.spare v.room g.queue h.queue g.actors.items h.actors.items
      g.replies.items h.replies.items moves.going moves.running some Touched spared enters.pieces blocks actor p sound moves.serve enters
      marks (let spare = same.spare in omega (arith, spare, few))
      (subst (λ (fs : List (Option Piece)). AreActors w.plain told fs h.actors.items) (sym rest)
      (subst (λ (xs : List Actor). AreActors w.plain told (set g.queue.flights actor None) xs) (sym actors)
      (actors_move told v.plain w.plain g.queue.flights g.actors.items some moves.going.holds Touched spared actor None a
      off free room)))
      (replies_enter g.queue actor p moves.serve g.replies.items h.replies.items moves.going.space replies h.queue enters))
      enters.pieces (ap (λ (fs : List (Option Piece)). length fs) rest ∙ length-set g.queue.flights actor None)

  -- A PIECE GOES ON in flight: nothing is entered
  pub moved_fly : n ≤ 0 → h.queue ≡ record g.queue { flights = set g.queue.flights actor (Some p) }
      → w.plain.history ≡ v.plain.history
      → ((b : ℕ) (f : Piece) → b ≢ actor → slice_get g.queue.flights b ≡ Some (Some f)
      → Touched (chunk_touched v.plain.geometry.zone_blocks f.what) → ⊥)
      → (a : Actor) → HasInHand w.plain (look v.opening).zones (Some p) a → HasEdgeRoom a
      → h.actors.items ≡ set g.actors.items actor a
      → SameBut (head_of g.queue.callers p.caller) g.replies.items h.replies.items → HasMoved look v w g h
  moved_fly few queue history off a holds room actors replies =
      let rest : h.queue.flights ≡ set g.queue.flights actor (Some p) = ap (λ (q : QueueState). q.flights) queue in
      let blocks : h.queue.chunk_blocks ≡ g.queue.chunk_blocks = ap (λ (q : QueueState). q.chunk_blocks) queue in
      let callers : h.queue.callers ≡ g.queue.callers = ap (λ (q : QueueState). q.callers) queue in
      let pieces : h.queue.callers.pieces ≡ g.queue.callers.pieces = ap (λ (q : QueueState). q.callers.pieces) queue in
      moved_with
      (progress_same told v.plain w.plain v.spare w.spare v.room g.queue h.queue g.actors.items h.actors.items
      g.replies.items h.replies.items moves.going moves.running some Touched spared pieces blocks callers
      (ap (map mark_of_entry) history) (λ goes_on. (let spare = same.spare in omega (arith, spare, few)))
      (subst (λ (fs : List (Option Piece)). AreActors w.plain told fs h.actors.items) (sym rest)
      (subst (λ (xs : List Actor). AreActors w.plain told (set g.queue.flights actor (Some p)) xs) (sym actors)
      (actors_move told v.plain w.plain g.queue.flights g.actors.items some moves.going.holds Touched spared actor (Some p) a
      off holds room)))
      (subst (λ (q : QueueState). AreReplies q.callers q.flights h.replies.items) (sym queue)
      (replies_fly g.queue actor p moves.serve g.replies.items h.replies.items moves.going.space replies moves.inside)))
      pieces (ap (λ (fs : List (Option Piece)). length fs) rest ∙ length-set g.queue.flights actor (Some p))

  -- ITS PIECE STAYS where it is
  pub moved_stay : n ≤ 0 → h.queue ≡ g.queue → w.plain.history ≡ v.plain.history
      → ((b : ℕ) (f : Piece) → b ≢ actor → slice_get g.queue.flights b ≡ Some (Some f)
      → Touched (chunk_touched v.plain.geometry.zone_blocks f.what) → ⊥)
      → (flight : Option Piece) → slice_get g.queue.flights actor ≡ Some flight → (a : Actor)
      → HasInHand w.plain (look v.opening).zones flight a → HasEdgeRoom a → h.actors.items ≡ set g.actors.items actor a
      → h.replies.items ≡ g.replies.items → HasMoved look v w g h
  moved_stay few queue history off flight at a holds room actors replies =
      let rest : h.queue.flights ≡ g.queue.flights = ap (λ (q : QueueState). q.flights) queue in
      let blocks : h.queue.chunk_blocks ≡ g.queue.chunk_blocks = ap (λ (q : QueueState). q.chunk_blocks) queue in
      let callers : h.queue.callers ≡ g.queue.callers = ap (λ (q : QueueState). q.callers) queue in
      let pieces : h.queue.callers.pieces ≡ g.queue.callers.pieces = ap (λ (q : QueueState). q.callers.pieces) queue in
      moved_with
      (progress_same told v.plain w.plain v.spare w.spare v.room g.queue h.queue g.actors.items h.actors.items
      g.replies.items h.replies.items moves.going moves.running some Touched spared pieces blocks callers
      (ap (map mark_of_entry) history) (λ goes_on. (let spare = same.spare in omega (arith, spare, few)))
      (subst (λ (fs : List (Option Piece)). AreActors w.plain told fs h.actors.items)
      (set_same g.queue.flights actor flight at ∙ sym rest)
      (subst (λ (xs : List Actor). AreActors w.plain told (set g.queue.flights actor flight) xs) (sym actors)
      (actors_move told v.plain w.plain g.queue.flights g.actors.items some moves.going.holds Touched spared actor flight a
      off holds room)))
      (subst (λ (q : QueueState). AreReplies q.callers q.flights h.replies.items) (sym queue)
      (subst (λ (rs : List (Option (ListWithRoom ℕ))). AreReplies g.queue.callers g.queue.flights rs) (sym replies)
      moves.going.space)))
      pieces (ap (λ (fs : List (Option Piece)). length fs) rest)
