-- What all actors hold, as one of them takes a step.
use Rattle.std.proofs.Common.{◌≡◌, ◌≢◌, ◌⊎◌, inl, inr, ℕ, ◌+◌, ◌/◌, ◌<◌, ◌≤◌, Bool, false, ◌||◌, cond, List, length, set, slice_get, Option, Some, None, refl, sym, ap, ◌∙◌, subst}
use Rattle.std.proofs.lemmas.List.{length-set}
use Rattle.zd_model.specs.Image.{Image}
use Rattle.zd_model.specs.Requests.{first_block}
use Rattle.zd_model.specs.declared.requests.Piece.{Piece}
use Rattle.zd_volume.specs.Discards.{chunk_touched}
use Rattle.zd_volume.specs.Volumes.{PlainVolume}
use Rattle.zd_steps.specs.Queues.{IsQueue, MayServe, QueueState}
use Rattle.zd_steps.specs.Runs.{chunk_of, flushes}
use Rattle.zd_steps.proofs.EligibleLaws.{on_chunk}
use Rattle.zd_steps.proofs.KeptLaws.{set_place}
use Rattle.zd_session.specs.Sessions.{AreActors, HasInHand}
use Rattle.zd_session.specs.declared.actor.Actor.{Actor}
use Rattle.zd_session.proofs.HeldLaws.{hand_stays}
use Rattle.zd_session.proofs.SparedLaws.{Nowhere, Spares}

-- the chunk of a piece in range that isn't a flush
pub chunk_is : (z : ℕ) (p : Piece) → p.range ≡ false → flushes p ≡ false → chunk_of z p ≡ Some (first_block p.what / z)
chunk_is z p range moves =
    ap (λ (b : Bool). cond (b || p.range) None (Some (first_block p.what / z))) moves
    ∙ ap (λ (b : Bool). cond b None (Some (first_block p.what / z))) range

-- room for two edges
pub record HasEdgeRoom (a : Actor) : Type 0 where
  pub first : 4096 ≤ length a.edges.first.items + a.edges.first.room
  pub last : 4096 ≤ length a.edges.last.items + a.edges.last.room

-- other actors have nothing in flight on the chunk of a piece that this one may serve
pub others_apart : (q : QueueState) (z actor : ℕ) (p : Piece) → q.chunk_blocks ≡ z
    → IsQueue q.chunk_blocks q.callers q.flights → MayServe q actor p → p.range ≡ false → flushes p ≡ false
    → (b : ℕ) (f : Piece) → b ≢ actor → slice_get q.flights b ≡ Some (Some f)
    → chunk_touched z f.what ≢ chunk_touched z p.what
others_apart q z actor p size sound serve range moves b f other at same =
    other (serve.chunk b (first_block p.what / q.chunk_blocks) f at
    (on_chunk q.chunk_blocks q.callers f (sound.flying.each b f at)
    ∙ ap Some (subst (λ (k : ℕ). first_block f.what / k ≡ first_block p.what / k) (sym size) same))
    (chunk_is q.chunk_blocks p range moves))

module _ (told : Option Image) (v w : PlainVolume) (flights : List (Option Piece)) (actors : List Actor)
    (some : 0 < v.geometry.zone_blocks) (are : AreActors v told flights actors) where
  -- one that isn't touched holds what it held
  hand_still : (Touched : ℕ → Type 0) → Spares told Touched v w → (flight : Option Piece) (a : Actor)
      → ((f : Piece) → flight ≡ Some f → Touched (chunk_touched v.geometry.zone_blocks f.what) → ⊥)
      → HasInHand v told flight a → HasInHand w told flight a
  hand_still Touched spared None a off holds = holds
  hand_still Touched spared (Some f) a off holds = hand_stays told Touched v w spared some f (off f refl) a holds

  -- ALL OF THEM, where the step touches no chunk
  pub actors_stay : Spares told Nowhere v w → AreActors w told flights actors
  actors_stay spared = record {
    count = are.count;
    holds = λ i flight a at_flight at.
        hand_still Nowhere spared flight a (λ f is none. none) (are.holds i flight a at_flight at);
    first_room = are.first_room;
    last_room = are.last_room;
  }

  -- AND WITH ONE OF THEM TAKING A STEP of its piece
  pub actors_move : (Touched : ℕ → Type 0) → Spares told Touched v w → (actor : ℕ) (flight : Option Piece) (a : Actor)
      → ((b : ℕ) (f : Piece) → b ≢ actor → slice_get flights b ≡ Some (Some f)
      → Touched (chunk_touched v.geometry.zone_blocks f.what) → ⊥)
      → HasInHand w told flight a → HasEdgeRoom a
      → AreActors w told (set flights actor flight) (set actors actor a)
  actors_move Touched spared actor flight a off holds room = record {
    count = length-set actors actor a ∙ are.count ∙ sym (length-set flights actor flight);
    holds = λ i f b at_flight at. by i f b (set_place flights actor i flight f at_flight) (set_place actors actor i a b at);
    first_room = λ i b at. elim (set_place actors actor i a b at) [
      | inl here ↦ subst (λ (x : Actor). 4096 ≤ length x.edges.first.items + x.edges.first.room) here.1 room.first
      | inr other ↦ are.first_room i b other.1
    ];
    last_room = λ i b at. elim (set_place actors actor i a b at) [
      | inl here ↦ subst (λ (x : Actor). 4096 ≤ length x.edges.last.items + x.edges.last.room) here.1 room.last
      | inr other ↦ are.last_room i b other.1
    ];
  }
    where
      by : (i : ℕ) (f : Option Piece) (b : Actor)
          → ((i ≡ actor) × (flight ≡ f)) ⊎ ((i ≢ actor) × (slice_get flights i ≡ Some f))
          → ((i ≡ actor) × (a ≡ b)) ⊎ ((i ≢ actor) × (slice_get actors i ≡ Some b)) → HasInHand w told f b
      by i f b (inl here) (inl there) =
          subst (λ (x : Actor). HasInHand w told f x) there.1 (subst (λ (x : Option Piece). HasInHand w told x a) here.1 holds)
      by i f b (inl here) (inr there) = absurd (there.0 here.0)
      by i f b (inr here) (inl there) = absurd (here.0 there.0)
      by i f b (inr here) (inr there) =
          hand_still Touched spared f b (λ x is. off i x here.0 (here.1 ∙ ap Some is)) (are.holds i f b here.1 there.1)
