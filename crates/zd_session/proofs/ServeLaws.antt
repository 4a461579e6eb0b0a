-- The steps that enter a piece without its actor's having read anything of it: past the device, and a discard.
use Rattle.std.proofs.Common.{◌≡◌, ◌≢◌, ℕ, ◌<◌, Bool, true, false, List, [], ◌∷◌, ◌++◌, map, slice_get, Option, Some, refl, sym, ap, ◌∙◌, subst, arith}
use Rattle.std.proofs.lemmas.Bool.{false≢true}
use Rattle.std.proofs.lemmas.List.{map-append}
use Rattle.zd_disk.specs.View.{View}
use Rattle.zd_model.specs.History.{HistoryEntry, mark_of_entry, mark_of_piece}
use Rattle.zd_model.specs.Image.{Image}
use Rattle.zd_model.specs.Plain.{Answer, ends_past}
use Rattle.zd_model.specs.Plain.Answer.{Done, Range}
use Rattle.zd_model.specs.Requests.{Operation, operation_of}
use Rattle.zd_model.specs.Requests.Operation.{Reading, Writing, Discarding, Flushing}
use Rattle.zd_model.specs.declared.requests.Piece.{Piece}
use Rattle.zd_model.specs.declared.requests.Request.{Request}
use Rattle.zd_state.specs.Seen.{SameSession, Seen}
use Rattle.zd_volume.specs.Discards.{DiscardsBlocks, chunk_touched}
use Rattle.zd_volume.specs.Flights.{answered, with_entry}
use Rattle.zd_volume.specs.Sets.{device_sectors}
use Rattle.zd_volume.specs.Volumes.{PlainVolume, sets_of}
use Rattle.zd_write.specs.Tries.{DiscardsPiece}
use Rattle.zd_write.proofs.GivenJobs.{given_rest}
use Rattle.zd_write.proofs.SettledRest.{settled_rest}
use Rattle.zd_steps.specs.Queues.{EntersPiece, IsQueue, QueueState, head_of}
use Rattle.zd_steps.specs.Runs.{flushes, is_flushing}
use Rattle.zd_session.specs.Moving.{CanMove, HasMoved, StandsSo, seen_by}
use Rattle.zd_session.specs.Serving.{LandsActor, ServesDiscard, ServesPast}
use Rattle.zd_session.specs.Sessions.{CanServe, CanServeBy, CanServeIn, HasInHand, HoldsBy, IsFree}
use Rattle.zd_session.specs.declared.actor.Actor.{Actor}
use Rattle.zd_session.specs.declared.progress.Progress.{Progress}
use Rattle.zd_session.proofs.ActorLaws.{others_apart}
use Rattle.zd_session.proofs.GoingLaws.{can_first, entry_fits}
use Rattle.zd_session.proofs.MovedLaws.{actor_there, calls_none, edge_room, free_there, moved_enter, set_same}
use Rattle.zd_session.proofs.ReplyLaws.{same_replies}
use Rattle.zd_session.proofs.SparedLaws.{Nowhere, Spares, discard_spares}
use Rattle.zd_session.proofs.SparedSteps.{entry_spares, range_quiet}

-- the marks of a history with one entry more
pub marks_more : (h : List HistoryEntry) (p : Piece) (reply : Answer) (at : ℕ)
    → map mark_of_entry (h ++ answered p reply at ∷ []) ≡ map mark_of_entry h ++ mark_of_piece p ∷ []
marks_more h p reply at = map-append mark_of_entry h (answered p reply at ∷ [])

-- A DISCARD enters its piece
pub discard_entry : (from to : PlainVolume) (p : Piece) (did : DiscardsPiece from to p)
    → to.history ≡ from.history ++ answered p Done did.given.since ∷ []
discard_entry from to p did =
    let c : ℕ = chunk_touched from.geometry.zone_blocks p.what in
    ap (λ (v : PlainVolume). v.history) (settled_rest did.dropped to c did.settles)
    ∙ ap (λ (v : PlainVolume). v.history) did.drops.rest
    ∙ ap (λ (v : PlainVolume). v.history ++ answered p Done did.given.since ∷ []) (given_rest from did.given c did.gives)

-- what can be held is in range, and a read or a write
held_range : (v : PlainVolume) (told : Option Image) (p : Piece) (a : Actor) (o : Operation) → HoldsBy v told p a o → p.range ≡ false
held_range v told p a Reading holds = holds.0.2.inside.range
held_range v told p a Writing holds = holds.1.in_range
held_range v told p a Discarding holds = absurd holds
held_range v told p a Flushing holds = absurd holds

pub not_flush : (p : Piece) (o : Operation) → operation_of p.what ≡ o → o ≢ Flushing → flushes p ≡ false
not_flush p o is other = by (operation_of p.what) (λ flushing. other (sym is ∙ flushing))
  where
    by : (x : Operation) → x ≢ Flushing → is_flushing x ≡ false
    by Reading off = refl
    by Writing off = refl
    by Discarding off = refl
    by Flushing off = absurd (off refl)

module _ {D : Type 0} (look : D → View) (v w : Seen D) (g : Progress) (actor : ℕ) (p : Piece)
    (moves : CanMove look v g actor p) where
  -- the piece can be served
  pub can_serve : CanServe v.plain p
  can_serve = can_first (look v.opening).zones v.plain v.spare v.room g.queue g.actors.items g.replies.items moves.going
      moves.running p moves.serve.first

  pub fits : IsQueue g.queue.chunk_blocks g.queue.callers g.queue.flights → 0 < v.spare
  fits sound = entry_fits (look v.opening).zones v.plain v.spare v.room g.queue g.actors.items g.replies.items moves.going
      moves.running p sound moves.serve.first

  pub past_ends : p.range ≡ true → ends_past (device_sectors (sets_of v.plain)) p.what ≡ true
  past_ends range = subst (λ (b : Bool). CanServeBy v.plain p b) range can_serve

  pub discard_can : p.range ≡ false → operation_of p.what ≡ Discarding → DiscardsBlocks (sets_of v.plain) p.what
  discard_can range is =
      subst (λ (o : Operation). CanServeIn v.plain p o) is (subst (λ (b : Bool). CanServeBy v.plain p b) range can_serve)

  -- an actor that may serve what can't be held holds nothing
  actor_free : ((a : Actor) → HasInHand v.plain (look v.opening).zones (Some p) a → ⊥) → (a : Actor)
      → slice_get g.actors.items actor ≡ Some a → IsFree a
  actor_free none a at =
      free_there v.plain (look v.opening).zones g.queue.flights g.actors.items moves.going.holds actor moves.inside a at
      (λ f is holds. none a (subst (λ (x : Piece). HasInHand v.plain (look v.opening).zones (Some x) a) (moves.serve.only f is) holds))

  past_none : p.range ≡ true → (a : Actor) → HasInHand v.plain (look v.opening).zones (Some p) a → ⊥
  past_none range a holds =
      false≢true (sym (held_range v.plain (look v.opening).zones p a (operation_of p.what) holds) ∙ range)

  discard_none : operation_of p.what ≡ Discarding → (a : Actor) → HasInHand v.plain (look v.opening).zones (Some p) a → ⊥
  discard_none is a holds = subst (λ (o : Operation). HoldsBy v.plain (look v.opening).zones p a o) is holds

  abbrev mine : (a : Actor) × (slice_get g.actors.items actor ≡ Some a)
  mine = actor_there v.plain (look v.opening).zones g.queue.flights g.actors.items moves.going.holds actor moves.inside

  module _ (new : QueueState) (enters : EntersPiece g.queue new actor p) where
    abbrev h : Progress
    h = record { queue = new; actors = g.actors; replies = g.replies }

    lands : ((a : Actor) → HasInHand v.plain (look v.opening).zones (Some p) a → ⊥) → (plan : List Request)
        → LandsActor actor (seen_by v plan g) (seen_by w plan h)
    lands none plan = record {
      a = mine.0;
      gives = record {
        flights = ap (λ (q : QueueState). q.flights) enters.rest;
        actors = sym (set_same g.actors.items actor mine.0 mine.1);
      };
      free = actor_free none mine.0 mine.1;
    }

    pub past_serves : p.range ≡ true → w.plain ≡ with_entry v.plain p Range → w.disk ≡ v.disk → (plan : List Request)
        → ServesPast (seen_by v plan g) (seen_by w plan h) actor p
    past_serves range is disk plan = record { enters = is; disk = disk; lands = lands (past_none range) plan }

    pub discard_serves : operation_of p.what ≡ Discarding → DiscardsPiece v.plain w.plain p → w.disk ≡ v.disk
        → (plan : List Request) → ServesDiscard (seen_by v plan g) (seen_by w plan h) actor p
    discard_serves is did disk plan = record { discards = did; disk = disk; lands = lands (discard_none is) plan }

    module _ (stands : StandsSo look v) (sound : IsQueue g.queue.chunk_blocks g.queue.callers g.queue.flights)
        (same : SameSession 1 v w) (disk : w.disk ≡ v.disk) where
      entered : (Touched : ℕ → Type 0) → Spares (look v.opening).zones Touched v.plain w.plain
          → ((b : ℕ) (f : Piece) → b ≢ actor → slice_get g.queue.flights b ≡ Some (Some f)
          → Touched (chunk_touched v.plain.geometry.zone_blocks f.what) → ⊥)
          → map mark_of_entry w.plain.history ≡ map mark_of_entry v.plain.history ++ mark_of_piece p ∷ []
          → ((a : Actor) → HasInHand v.plain (look v.opening).zones (Some p) a → ⊥) → HasMoved look v w g h
      entered Touched spared off marks none =
          moved_enter look v w g h actor p moves stands sound 1 same (calls_none look v.disk w.disk disk) Touched spared
          (omega arith) enters marks off mine.0 (actor_free none mine.0 mine.1)
          (edge_room v.plain (look v.opening).zones g.queue.flights g.actors.items moves.going.holds actor moves.inside mine.0
          mine.1)
          (sym (set_same g.actors.items actor mine.0 mine.1))
          (same_replies (head_of g.queue.callers p.caller) g.replies.items g.replies.items refl)

      pub past_moved : p.range ≡ true → w.plain ≡ with_entry v.plain p Range → HasMoved look v w g h
      past_moved range is =
          entered Nowhere (entry_spares (look v.opening).zones v.plain w.plain p Range (range_quiet (look v.opening).zones) is) (λ b f other at none. none)
          (ap (λ (x : PlainVolume). map mark_of_entry x.history) is ∙ marks_more v.plain.history p Range v.plain.since)
          (past_none range)

      pub discard_moved : p.range ≡ false → operation_of p.what ≡ Discarding → DiscardsPiece v.plain w.plain p
          → HasMoved look v w g h
      discard_moved range is did =
          entered (λ chunk. chunk ≡ chunk_touched v.plain.geometry.zone_blocks p.what)
          (discard_spares (look v.opening).zones v.plain p stands.fixed (stands.based moves.running) w.plain
          (discard_can range is) did)
          (others_apart g.queue v.plain.geometry.zone_blocks actor p moves.going.chunks sound moves.serve range
          (not_flush p Discarding is (λ same. cc)))
          (ap (map mark_of_entry) (discard_entry v.plain w.plain p did)
          ∙ marks_more v.plain.history p Done did.given.since)
          (discard_none is)
