-- What is in flight stays the first pieces of different callers: as a piece is entered, as one goes on, and as a commit
-- enters flushes.
use Rattle.std.proofs.Common.{◌≡◌, ◌≢◌, ◌⊎◌, ℕ, ◌<◌, ◌≤◌, zero, suc, true, false, ◌||◌, List, [], ◌∷◌, set, slice_get}
use Rattle.std.proofs.Common.{replicate, Option, Some, None, refl, sym, ap, ◌∙◌, inl, inr, subst, arith}
use Rattle.std.proofs.lemmas.Bool.{cases_eq, false≢true}
use Rattle.std.proofs.lemmas.Option.{none-some, same_Some}
use Rattle.zd_model.specs.Requests.{Operation, operation_of}
use Rattle.zd_model.specs.Requests.Operation.{Reading, Writing, Discarding, Flushing}
use Rattle.zd_model.specs.declared.requests.Piece.{Piece}
use Rattle.zd_steps.specs.Runs.{chunk_of, flushes, is_flushing, is_reading, is_writing, reads, writes}
use Rattle.zd_steps.specs.Queues.{AreFirsts, AreFlights, Callers, IsInFlight, IsScriptOf, MayServe, QueueState, first_of, head_of}

-- what stands at a place once one is set
pub set_place : {X : Type 0} (xs : List X) (a b : ℕ) (x y : X) → slice_get (set xs a x) b ≡ Some y
    → ((b ≡ a) × (x ≡ y)) ⊎ ((b ≢ a) × (slice_get xs b ≡ Some y))
set_place [] a b x y e = absurd (none-some y e)
set_place (z ∷ zs) zero zero x y e = inl (refl, same_Some x y e)
set_place (z ∷ zs) zero (suc b) x y e = inr (λ s. absurd (omega (arith, s)), e)
set_place (z ∷ zs) (suc a) zero x y e = inr (λ s. absurd (omega (arith, s)), e)
set_place (z ∷ zs) (suc a) (suc b) x y e = elim (set_place zs a b x y e) [
  | inl same ↦ inl (ap suc same.0, same.1)
  | inr other ↦ inr (λ s. other.0 (omega (arith, s)), other.1)
]

-- of a caller whose head stays the first piece does too
pub same_first : (old new : Callers) (c : ℕ) → new.pieces ≡ old.pieces → head_of new c ≡ head_of old c
    → first_of new c ≡ first_of old c
same_first old new c pieces head = ap (λ n. slice_get new.pieces n) head ∙ ap (λ ps. slice_get ps (head_of old c)) pieces

-- where one head goes on and the others stay, none goes back
pub not_back : (old new : Callers) (caller : ℕ) → head_of old caller < head_of new caller
    → ((c : ℕ) → c ≢ caller → head_of new c ≡ head_of old c) → (c : ℕ) → head_of old c ≤ head_of new c
not_back old new caller passes stays c = elim (cases_eq c caller) [
  | inl same ↦ subst (λ d. head_of old d ≤ head_of new d) (sym same) (omega (arith, passes))
  | inr other ↦ (let is = stays c other in omega (arith, is))
]

-- nothing is in flight at first
none_at : (n a : ℕ) (o : Option Piece) (p : Piece) → o ≡ None → slice_get (replicate n o) a ≡ Some (Some p) → ⊥
none_at zero a o p none e = none-some (Some p) e
none_at (suc n) zero o p none e = none-some p (sym none ∙ same_Some o (Some p) e)
none_at (suc n) (suc a) o p none e = none_at n a o p none e

pub none_fly : (z : ℕ) (h : Callers) (n : ℕ) → AreFlights z h (replicate n None)
none_fly z h n = record {
  each = λ a p at. absurd (none_at n a None p refl at);
  callers = λ a b p x at_a at_b e. absurd (none_at n a None p refl at_a);
  chunks = λ a b c p x at_a at_b e f. absurd (none_at n a None p refl at_a);
}

-- no two actors have pieces in flight that have something in common
abbrev AreApart : (Piece → Piece → Type 0) → List (Option Piece) → Type 0
AreApart R flights = (a b : ℕ) (p x : Piece) → slice_get flights a ≡ Some (Some p) → slice_get flights b ≡ Some (Some x) → R p x → a ≡ b

module _ (R : Piece → Piece → Type 0) (flights : List (Option Piece)) (apart : AreApart R flights) (actor : ℕ) where
  apart_fewer : AreApart R (set flights actor None)
  apart_fewer a b x y at_a at_b e = one (set_place flights actor a None (Some x) at_a) (set_place flights actor b None (Some y) at_b)
    where
      one : ((a ≡ actor) × (◌≡◌ {A = Option Piece} None (Some x))) ⊎ ((a ≢ actor) × (slice_get flights a ≡ Some (Some x)))
          → ((b ≡ actor) × (◌≡◌ {A = Option Piece} None (Some y))) ⊎ ((b ≢ actor) × (slice_get flights b ≡ Some (Some y))) → a ≡ b
      one (inl here) other = absurd (none-some x here.1)
      one (inr there) (inl here) = absurd (none-some y here.1)
      one (inr there) (inr here) = apart a b x y there.1 here.1 e

  apart_more : (p : Piece) → ((x y : Piece) → R x y → R y x) → ((a : ℕ) (f : Piece) → slice_get flights a ≡ Some (Some f) → R f p → a ≡ actor)
      → AreApart R (set flights actor (Some p))
  apart_more p turn alone a b x y at_a at_b e = one (set_place flights actor a (Some p) (Some x) at_a) (set_place flights actor b (Some p) (Some y) at_b)
    where
      one : ((a ≡ actor) × (◌≡◌ {A = Option Piece} (Some p) (Some x))) ⊎ ((a ≢ actor) × (slice_get flights a ≡ Some (Some x)))
          → ((b ≡ actor) × (◌≡◌ {A = Option Piece} (Some p) (Some y))) ⊎ ((b ≢ actor) × (slice_get flights b ≡ Some (Some y))) → a ≡ b
      one (inl here) (inl there) = here.0 ∙ sym there.0
      one (inl here) (inr there) = here.0 ∙ sym (alone b y there.1 (turn p y (subst (λ u. R u y) (sym (same_Some p x here.1)) e)))
      one (inr there) (inl here) = alone a x there.1 (subst (R x) (sym (same_Some p y here.1)) e) ∙ sym here.0
      one (inr there) (inr here) = apart a b x y there.1 here.1 e

-- of one caller, and on one chunk
abbrev HasCaller : Piece → Piece → Type 0
HasCaller x y = x.caller ≡ y.caller

abbrev IsOnChunk : ℕ → ℕ → Piece → Piece → Type 0
IsOnChunk z c x y = (chunk_of z x ≡ Some c) × (chunk_of z y ≡ Some c)

module _ (q : QueueState) (flying : AreFlights q.chunk_blocks q.callers q.flights) (actor : ℕ) (p : Piece) (may : MayServe q actor p) where
  -- the piece is entered, and the actor has nothing in flight
  pub entered_fly : (new : Callers) → ((c : ℕ) → c ≢ p.caller → first_of new c ≡ first_of q.callers c)
      → AreFlights q.chunk_blocks new (set q.flights actor None)
  entered_fly new others = record {
    each = λ b x at. one b x (set_place q.flights actor b None (Some x) at);
    callers = apart_fewer HasCaller q.flights flying.callers actor;
    chunks = λ a b c x y at_a at_b e f. apart_fewer (IsOnChunk q.chunk_blocks c) q.flights
        (λ i j u w at_i at_j g. flying.chunks i j c u w at_i at_j g.0 g.1) actor a b x y at_a at_b (e, f);
  }
    where
      one : (b : ℕ) (x : Piece) → ((b ≡ actor) × (◌≡◌ {A = Option Piece} None (Some x))) ⊎ ((b ≢ actor) × (slice_get q.flights b ≡ Some (Some x))) → IsInFlight new x
      one b x (inl here) = absurd (none-some x here.1)
      one b x (inr there) =
          let old = flying.each b x there.1 in
          record {
            first = others x.caller (λ e. there.0 (may.caller b x there.1 e)) ∙ old.first;
            in_range = old.in_range;
            moves = old.moves;
          }

  -- the piece goes on
  pub flown_fly : p.range ≡ false → (reads p || writes p) ≡ true → AreFlights q.chunk_blocks q.callers (set q.flights actor (Some p))
  flown_fly in_range moves = record {
    each = λ b x at. one b x (set_place q.flights actor b (Some p) (Some x) at);
    callers = apart_more HasCaller q.flights flying.callers actor p (λ x y e. sym e) may.caller;
    chunks = λ a b c x y at_a at_b e f. apart_more (IsOnChunk q.chunk_blocks c) q.flights
        (λ i j u w at_i at_j g. flying.chunks i j c u w at_i at_j g.0 g.1) actor p (λ u w g. (g.1, g.0))
        (λ i u at_i g. may.chunk i c u at_i g.0 g.1) a b x y at_a at_b (e, f);
  }
    where
      one : (b : ℕ) (x : Piece) → ((b ≡ actor) × (◌≡◌ {A = Option Piece} (Some p) (Some x))) ⊎ ((b ≢ actor) × (slice_get q.flights b ≡ Some (Some x))) → IsInFlight q.callers x
      one b x (inl here) = subst (IsInFlight q.callers) (same_Some p x here.1) (record { first = may.first; in_range = in_range; moves = moves })
      one b x (inr there) = flying.each b x there.1

-- a flush neither reads nor writes
no_move : (o : Operation) → is_flushing o ≡ true → (is_reading o || is_writing o) ≡ true → ⊥
no_move Reading f m = false≢true f
no_move Writing f m = false≢true f
no_move Discarding f m = false≢true f
no_move Flushing f m = false≢true m

-- a commit enters flushes, and what is in flight is of other callers
pub committed_fly : (z : ℕ) (h : Callers) (flights : List (Option Piece)) (list : List Piece) → AreFlights z h flights → AreFirsts h list
    → ((k : ℕ) (p : Piece) → slice_get list k ≡ Some p → flushes p ≡ true) → (new : Callers)
    → ((c : ℕ) → ((k : ℕ) (p : Piece) → slice_get list k ≡ Some p → p.caller ≢ c) → first_of new c ≡ first_of h c) → AreFlights z new flights
committed_fly z h flights list flying firsts all new others = record {
  each = λ b x at. one b x at (flying.each b x at);
  callers = flying.callers;
  chunks = flying.chunks;
}
  where
    one : (b : ℕ) (x : Piece) → slice_get flights b ≡ Some (Some x) → IsInFlight h x → IsInFlight new x
    one b x at old = record {
      first = others x.caller (λ k p at_p e. (
          let same : p ≡ x = same_Some p x (sym (firsts.first k p at_p) ∙ ap (first_of h) e ∙ old.first) in
          no_move (operation_of p.what) (all k p at_p) (ap (λ u. reads u || writes u) same ∙ old.moves))) ∙ old.first;
      in_range = old.in_range;
      moves = old.moves;
    }

-- equal scripts and flights
pub same_script : (pieces later : List Piece) → later ≡ pieces → IsScriptOf 64 pieces → IsScriptOf 64 later
same_script pieces later e is = subst (IsScriptOf 64) (sym e) is

pub same_flights : (h : Callers) (z y : ℕ) (flights later : List (Option Piece)) → y ≡ z → later ≡ flights → AreFlights z h flights → AreFlights y h later
same_flights h z y flights later e f are = subst (λ n. AreFlights n h later) (sym e) (subst (λ fs. AreFlights z h fs) (sym f) are)
