-- The flushes of a commit: as they are gathered one by one, at most one a caller; and that they are first pieces.
use Rattle.std.proofs.Common.{◌≡◌, ℕ, zero, suc, ◌+◌, ◌<◌, ◌≤◌, Bool, true, false, cond, leb, List, [], ◌∷◌, ◌++◌, length}
use Rattle.std.proofs.Common.{drop, filter, get_or, slice_get, None, Some, refl, sym, ap, ◌∙◌, inl, inr, subst, arith}
use Rattle.std.proofs.lemmas.Bool.{and_parts, cases_Bool, cases_lt, cond-true, cond-false, false≢true, le-leb, leb-true, lt-leb}
use Rattle.std.proofs.lemmas.List.{append_assoc, append-nil, get_or_past}
use Rattle.std.proofs.lemmas.Option.{none-some, same_Some, slice_get_within, slice_get-get_or}
use Rattle.zd_model.specs.History.{Mark}
use Rattle.zd_model.specs.declared.requests.Piece.{Piece}
use Rattle.zd_steps.specs.Queues.{AreFirsts, Callers, HasEntered, IsLeast, IsQueue, Precedes, QueueState, first_of, head_of, run_of}
use Rattle.zd_steps.specs.Runs.{eligible_flushes, flushes, is_eligible, is_eligible_flush}
use Rattle.zd_steps.proofs.EligibleLaws.{eligible_first, not_itself}
use Rattle.zd_steps.proofs.FirstLaws.{filter-first, filter-none}
use Rattle.zd_steps.proofs.LinkLaws.{nobody}
use Rattle.zd_steps.proofs.ToldLaws.{flush_first}

-- how many heads stand at this place or behind
abbrev pub heads_from : ℕ → List ℕ → ℕ
heads_from from [] = 0
heads_from from (x ∷ xs) = cond (leb from x) 1 0 + heads_from from xs

one_bit : (b : Bool) → cond b 1 0 ≤ 1
one_bit true = omega arith
one_bit false = omega arith

pub few_heads : (from : ℕ) (heads : List ℕ) → heads_from from heads ≤ length heads
few_heads from [] = omega arith
few_heads from (x ∷ xs) = let here = one_bit (leb from x) in let rest = few_heads from xs in omega (arith, here, rest)

fewer_bit : (a b : Bool) → (b ≡ true → a ≡ true) → cond b 1 0 ≤ cond a 1 0
fewer_bit true true h = omega arith
fewer_bit true false h = omega arith
fewer_bit false true h = absurd (false≢true (h refl))
fewer_bit false false h = omega arith

fewer : (from place : ℕ) (heads : List ℕ) → from ≤ place → heads_from (place + 1) heads ≤ heads_from from heads
fewer from place [] up = omega arith
fewer from place (x ∷ xs) up =
    let here = fewer_bit (leb from x) (leb (place + 1) x) (λ e. let high = leb-true (place + 1) x e in le-leb from x (omega (arith, high, up))) in
    let rest = fewer from place xs up in
    omega (arith, here, rest)

-- behind a place at which a head stands there is one head fewer
pub one_passed : (from place k : ℕ) (heads : List ℕ) → from ≤ place → slice_get heads k ≡ Some place
    → heads_from (place + 1) heads + 1 ≤ heads_from from heads
one_passed from place k [] up at = absurd (none-some place at)
one_passed from place zero (x ∷ xs) up at =
    let is : x ≡ place = same_Some x place at in
    let here : leb from x ≡ true = le-leb from x (omega (arith, is, up)) in
    let past : leb (place + 1) x ≡ false = lt-leb (place + 1) x (omega (arith, is)) in
    let rest = fewer from place xs up in
    rw (here, past) (omega (arith, rest))
one_passed from place (suc k) (x ∷ xs) up at =
    let here = fewer_bit (leb from x) (leb (place + 1) x) (λ e. let high = leb-true (place + 1) x e in le-leb from x (omega (arith, high, up))) in
    let rest = one_passed from place k xs up at in
    omega (arith, here, rest)

-- a caller whose head is a place is one of those whose heads there are
pub head_there : (h : Callers) (caller place : ℕ) → head_of h caller ≡ place → place < length h.pieces → slice_get h.heads caller ≡ Some place
head_there h caller place is inside = elim (cases_lt caller (length h.heads)) [
  | inl low ↦ slice_get-get_or h.heads caller (length h.pieces) low ∙ ap Some is
  | inr high ↦ absurd (let end = get_or_past h.heads caller (length h.pieces) high in omega (arith, end, is, inside))
]

-- once a flush is gathered, its caller's head is passed
pub one_gathered : (h : Callers) (from place : ℕ) (p : Piece) → from ≤ place → IsLeast h flushes from place → slice_get h.pieces place ≡ Some p
    → heads_from (place + 1) h.heads + 1 ≤ heads_from from h.heads
one_gathered h from place p up least at =
    one_passed from place p.caller h.heads up (head_there h p.caller place (least.here p at).0 (slice_get_within h.pieces place p at))

-- these are the flushes among the pieces in front of a place
abbrev pub IsGathered : QueueState → List Mark → List Piece → ℕ → Type 0
IsGathered q entered items from = items ++ filter (is_eligible_flush (run_of q entered)) (drop from q.callers.pieces)
    ≡ eligible_flushes (run_of q entered)

module _ (q : QueueState) (is : IsQueue q.chunk_blocks q.callers q.flights) (entered : List Mark) (before : HasEntered q.callers entered) where
  abbrev test : Piece → Bool
  test = is_eligible_flush (run_of q entered)

  pub gather_one : (items : List Piece) (from place : ℕ) (p : Piece) → from ≤ place → IsLeast q.callers flushes from place
      → slice_get q.callers.pieces place ≡ Some p → IsGathered q entered items from → IsGathered q entered (items ++ p ∷ []) (place + 1)
  gather_one items from place p up least at so_far =
      append_assoc items (p ∷ []) (filter test (drop (place + 1) q.callers.pieces))
      ∙ ap (λ ps. items ++ ps) (sym (filter-first test q.callers.pieces from place p up (flush_first q is entered before from place up least) at))
      ∙ so_far

  pub gather_none : (items : List Piece) (from place : ℕ) → from ≤ place → IsLeast q.callers flushes from place
      → None ≡ slice_get q.callers.pieces place → IsGathered q entered items from → items ≡ eligible_flushes (run_of q entered)
  gather_none items from place up least past so_far =
      sym (append-nil items)
      ∙ ap (λ ps. items ++ ps) (sym (filter-none test q.callers.pieces from place behind (flush_first q is entered before from place up least)))
      ∙ so_far
    where
      behind : length q.callers.pieces ≤ place
      behind = elim (cases_lt place (length q.callers.pieces)) [
        | inl low ↦ absurd (none-some (get_or q.callers.pieces place nobody) (past ∙ slice_get-get_or q.callers.pieces place nobody low))
        | inr high ↦ high
      ]

-- places in a filtered list, in order
kept_at : {X : Type 0} (test : X → Bool) (xs : List X) (k : ℕ) (x : X) → slice_get (filter test xs) k ≡ Some x
    → (i : ℕ) × (slice_get xs i ≡ Some x) × (test x ≡ true)
kept_at test [] k x e = absurd (none-some x e)
kept_at {X} test (y ∷ ys) k x e = elim (cases_Bool (test y)) [
  | inl t ↦ first k t (ap (λ zs. slice_get zs k) (sym (cond-true (test y) (y ∷ filter test ys) (filter test ys) t)) ∙ e) (kept_at test ys)
  | inr f ↦ (let rest = kept_at test ys k x (ap (λ zs. slice_get zs k) (sym (cond-false (test y) (y ∷ filter test ys) (filter test ys) f)) ∙ e) in
      (suc rest.0, rest.1, rest.2))
]
  where
    first : (k : ℕ) → test y ≡ true → slice_get (y ∷ filter test ys) k ≡ Some x
        → ((j : ℕ) (z : X) → slice_get (filter test ys) j ≡ Some z → (i : ℕ) × (slice_get ys i ≡ Some z) × (test z ≡ true))
        → (i : ℕ) × (slice_get (y ∷ ys) i ≡ Some x) × (test x ≡ true)
    first zero t e later = (0, e, ap test (sym (same_Some y x e)) ∙ t)
    first (suc k) t e later = let rest = later k x e in (suc rest.0, rest.1, rest.2)

kept_order : {X : Type 0} (test : X → Bool) (xs : List X) (j k : ℕ) (x y : X) → j < k → slice_get (filter test xs) j ≡ Some x
    → slice_get (filter test xs) k ≡ Some y → (a : ℕ) × (b : ℕ) × (a < b) × (slice_get xs a ≡ Some x) × (slice_get xs b ≡ Some y)
kept_order test [] j k x y l e f = absurd (none-some x e)
kept_order {X} test (w ∷ ws) j k x y l e f = elim (cases_Bool (test w)) [
  | inl t ↦ first j k t l (ap (λ zs. slice_get zs j) (sym (cond-true (test w) (w ∷ filter test ws) (filter test ws) t)) ∙ e)
      (ap (λ zs. slice_get zs k) (sym (cond-true (test w) (w ∷ filter test ws) (filter test ws) t)) ∙ f) (λ m n. kept_order test ws m n x y)
  | inr n ↦ (let rest = kept_order test ws j k x y l
      (ap (λ zs. slice_get zs j) (sym (cond-false (test w) (w ∷ filter test ws) (filter test ws) n)) ∙ e)
      (ap (λ zs. slice_get zs k) (sym (cond-false (test w) (w ∷ filter test ws) (filter test ws) n)) ∙ f) in
      let low = rest.2 in (suc rest.0, suc rest.1, omega (arith, low), rest.3, rest.4))
]
  where
    first : (j k : ℕ) → test w ≡ true → j < k → slice_get (w ∷ filter test ws) j ≡ Some x → slice_get (w ∷ filter test ws) k ≡ Some y
        → ((m n : ℕ) → m < n → slice_get (filter test ws) m ≡ Some x → slice_get (filter test ws) n ≡ Some y
        → (a : ℕ) × (b : ℕ) × (a < b) × (slice_get ws a ≡ Some x) × (slice_get ws b ≡ Some y))
        → (a : ℕ) × (b : ℕ) × (a < b) × (slice_get (w ∷ ws) a ≡ Some x) × (slice_get (w ∷ ws) b ≡ Some y)
    first j zero t l e f later = absurd (omega (arith, l))
    first zero (suc k) t l e f later = let rest = kept_at test ws k y f in (0, suc rest.0, omega arith, e, rest.1)
    first (suc j) (suc k) t l e f later =
        let rest = later j k (omega (arith, l)) e f in
        let low = rest.2 in (suc rest.0, suc rest.1, omega (arith, low), rest.3, rest.4)

module _ (q : QueueState) (is : IsQueue q.chunk_blocks q.callers q.flights) (entered : List Mark) (before : HasEntered q.callers entered) where
  eligible_head : (i : ℕ) (p : Piece) → slice_get q.callers.pieces i ≡ Some p → is_eligible_flush (run_of q entered) p ≡ true
      → first_of q.callers p.caller ≡ Some p
  eligible_head i p at e =
      let level = eligible_first q is entered before i p at (and_parts (flushes p) (is_eligible (run_of q entered) p) e).1 in
      ap (slice_get q.callers.pieces) (sym level) ∙ at

  -- the flushes of a commit are the first pieces of different callers
  pub flush_firsts : AreFirsts q.callers (eligible_flushes (run_of q entered))
  flush_firsts = record {
    first = λ k p at. (let there = kept_at test' q.callers.pieces k p at in eligible_head there.0 p there.1 there.2);
    known = λ k p at. (let there = kept_at test' q.callers.pieces k p at in is.script.callers there.0 p there.1);
    apart = λ j k p x low at_j at_k same. (
        let first_j = kept_at test' q.callers.pieces j p at_j in
        let first_k = kept_at test' q.callers.pieces k x at_k in
        let one : p ≡ x = same_Some p x (sym (eligible_head first_j.0 p first_j.1 first_j.2) ∙ ap (first_of q.callers) same ∙ eligible_head first_k.0 x first_k.1 first_k.2) in
        let places = kept_order test' q.callers.pieces j k p x low at_j at_k in
        not_itself x (subst (λ u. Precedes u x) one (is.script.order places.0 places.1 p x places.2 places.3 places.4)));
  }
    where
      test' : Piece → Bool
      test' = is_eligible_flush (run_of q entered)

  pub flush_all : (k : ℕ) (p : Piece) → slice_get (eligible_flushes (run_of q entered)) k ≡ Some p → flushes p ≡ true
  flush_all k p at =
      let there = kept_at (is_eligible_flush (run_of q entered)) q.callers.pieces k p at in
      (and_parts (flushes p) (is_eligible (run_of q entered) p) there.2).0
