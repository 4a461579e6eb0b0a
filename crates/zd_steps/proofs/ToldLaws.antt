-- What the callers' first pieces tell of all pieces: which is served, whether a zone is wanted, which flushes wait,
-- and whether all is over.
use Rattle.std.proofs.Common.{◌≡◌, ◌⊎◌, ℕ, zero, suc, ◌<◌, ◌≤◌, Bool, true, ◌&&◌, ◌||◌, not, List, [], ◌∷◌, length}
use Rattle.std.proofs.Common.{find, get_or, ltb, slice_get, Decides, Some, refl, sym, ap, ◌∙◌, inl, inr, arith}
use Rattle.std.specs.List.{list_all}
use Rattle.std.proofs.lemmas.Bool.{and_parts, and_from, and_left, or_cases, not_from_false, cases_Bool, cases_lt}
use Rattle.std.proofs.lemmas.Bool.Decides.{Decides-ltb, same_from_decides}
use Rattle.std.proofs.lemmas.Option.{none-some, same_Some, slice_get_within, slice_get-get_or}
use Rattle.zd_model.specs.History.{Mark}
use Rattle.zd_model.specs.declared.requests.Piece.{Piece}
use Rattle.zd_steps.specs.Runs.{Run, Standing, flies, flushes, has_flush, is_eligible, is_eligible_flush, is_entered}
use Rattle.zd_steps.specs.Runs.{is_held, is_over, is_ready, is_servable, is_wanted, lacks_zone, wants_zone}
use Rattle.zd_steps.specs.Queues.{Callers, HasEntered, IsLeast, IsQueue, QueueState, first_of, head_of, run_of}
use Rattle.zd_steps.specs.Queues.{is_first_servable, is_first_wanting}
use Rattle.zd_steps.proofs.EnteredLaws.{entered_decides}
use Rattle.zd_steps.proofs.EligibleLaws.{eligible_first, first_eligible, flies_first, flush_free}
use Rattle.zd_steps.proofs.FirstLaws.{IsFirstAt, IsToldByFirsts, any-first, find-first, least-first}
use Rattle.zd_steps.proofs.LinkLaws.{nobody}

all_at : {X : Type 0} (test : X → Bool) (xs : List X) (i : ℕ) (x : X) → list_all test xs ≡ true → slice_get xs i ≡ Some x → test x ≡ true
all_at test [] i x h at = absurd (none-some x at)
all_at test (y ∷ ys) zero x h at = ap test (sym (same_Some y x at)) ∙ (and_parts (test y) (list_all test ys) h).0
all_at test (y ∷ ys) (suc i) x h at = all_at test ys i x (and_parts (test y) (list_all test ys) h).1 at

all_from : {X : Type 0} (test : X → Bool) (xs : List X) → ((i : ℕ) (x : X) → slice_get xs i ≡ Some x → test x ≡ true) → list_all test xs ≡ true
all_from test [] h = refl
all_from test (y ∷ ys) h = and_from (test y) (list_all test ys) (h 0 y refl) (all_from test ys (λ i x at. h (suc i) x at))

module _ (q : QueueState) (is : IsQueue q.chunk_blocks q.callers q.flights) (entered : List Mark) (before : HasEntered q.callers entered) where
  abbrev h : Callers
  h = q.callers

  abbrev r : Run
  r = run_of q entered

  eligible_is : (p : Piece) → first_of h p.caller ≡ Some p → is_eligible r p ≡ not (is_held r p)
  eligible_is p at = first_eligible q is entered before (head_of h p.caller) p at refl

  flush_same : (p : Piece) → first_of h p.caller ≡ Some p → is_eligible_flush r p ≡ flushes p
  flush_same p at = elim (cases_Bool (flushes p)) [
    | inl f ↦ and_from (flushes p) (is_eligible r p) f (eligible_is p at ∙ not_from_false (is_held r p) (flush_free q.chunk_blocks q.flights p f)) ∙ sym f
    | inr f ↦ and_left (flushes p) (is_eligible r p) f ∙ sym f
  ]

  pub flush_told : IsToldByFirsts h (is_eligible_flush r) flushes
  flush_told = record {
    only = λ i p at e. eligible_first q is entered before i p at (and_parts (flushes p) (is_eligible r p) e).1;
    same = flush_same;
  }

  pub flush_first : (from place : ℕ) → from ≤ place → IsLeast h flushes from place → IsFirstAt (is_eligible_flush r) h.pieces from place
  flush_first from place up least = least-first h (is_eligible_flush r) flushes from place up flush_told least

  pub flush_is : (place : ℕ) → IsLeast h flushes 0 place → ltb place (length h.pieces) ≡ has_flush r
  flush_is place least = same_from_decides (ltb place (length h.pieces)) (has_flush r) (Decides-ltb place (length h.pieces))
      (any-first (is_eligible_flush r) h.pieces place (flush_first 0 place (omega arith) least))

  -- all pieces are entered exactly where each caller's head stands behind all pieces
  behind_all : ((c : ℕ) → c < 64 → length h.pieces ≤ head_of h c) → (i : ℕ) (p : Piece) → slice_get h.pieces i ≡ Some p → is_entered r p ≡ true
  behind_all all i p at =
      let low = slice_get_within h.pieces i p at in
      let high = all p.caller (is.script.callers i p at) in
      (entered_decides h entered is.script.order before i p at).1 (omega (arith, low, high))

  all_behind : is_over r ≡ true → (c : ℕ) → (head_of h c < length h.pieces) ⊎ (length h.pieces ≤ head_of h c) → length h.pieces ≤ head_of h c
  all_behind over c (inr high) = high
  all_behind over c (inl inside) =
      let k : ℕ = head_of h c in
      let p : Piece = get_or h.pieces k nobody in
      let at : slice_get h.pieces k ≡ Some p = slice_get-get_or h.pieces k nobody inside in
      let there : is_entered r p ≡ true = all_at (is_entered r) h.pieces k p over at in
      let low = (entered_decides h entered is.script.order before k p at).0 there in
      let same : head_of h p.caller ≡ k = ap (head_of h) (is.heads.own c p at) in
      absurd (omega (arith, low, same))

  pub over_decides : Decides (is_over r) ((c : ℕ) → c < 64 → length h.pieces ≤ head_of h c)
  over_decides = (
    λ over c low. all_behind over c (cases_lt (head_of h c) (length h.pieces)),
    λ all. all_from (is_entered r) h.pieces (behind_all all),
  )

  pub over_is : (b : Bool) → Decides b ((c : ℕ) → c < 64 → length h.pieces ≤ head_of h c) → b ≡ is_over r
  over_is b decides = same_from_decides b (is_over r) decides over_decides

  module _ (v : Standing) where
    pub servable_told : IsToldByFirsts h (is_servable r v) (is_first_servable q.chunk_blocks q.flights v)
    servable_told = record {
      only = λ i p at e. eligible_first q is entered before i p at (and_parts (is_eligible r p) (is_ready v p) e).0;
      same = λ p at. ap (λ b. b && is_ready v p) (eligible_is p at);
    }

    pub wanting_told : IsToldByFirsts h (wants_zone r v) (is_first_wanting q.chunk_blocks q.flights v)
    wanting_told = record {
      only = λ i p at e. elim (or_cases (is_eligible r p) (flies r p) (and_parts (is_eligible r p || flies r p) (lacks_zone v p) e).0) [
        | inl first ↦ eligible_first q is entered before i p at first
        | inr flying ↦ (flies_first q is entered before p i at flying).0
      ];
      same = λ p at. ap (λ b. (b || flies r p) && lacks_zone v p) (eligible_is p at);
    }

    -- by the least first piece that passes
    pub servable_is : (place : ℕ) → IsLeast h (is_first_servable q.chunk_blocks q.flights v) 0 place
        → find (is_servable r v) h.pieces ≡ slice_get h.pieces place
    servable_is place least = find-first (is_servable r v) h.pieces place
        (least-first h (is_servable r v) (is_first_servable q.chunk_blocks q.flights v) 0 place (omega arith) servable_told least)

    pub wanted_is : (place : ℕ) → IsLeast h (is_first_wanting q.chunk_blocks q.flights v) 0 place
        → ltb place (length h.pieces) ≡ is_wanted r v
    wanted_is place least = same_from_decides (ltb place (length h.pieces)) (is_wanted r v) (Decides-ltb place (length h.pieces))
        (any-first (wants_zone r v) h.pieces place
        (least-first h (wants_zone r v) (is_first_wanting q.chunk_blocks q.flights v) 0 place (omega arith) wanting_told least))
