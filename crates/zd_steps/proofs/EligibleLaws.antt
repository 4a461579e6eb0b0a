-- Which pieces are eligible: the first ones of their callers on whose chunk no piece is in flight.
use Rattle.std.proofs.Common.{◌≡◌, ℕ, ◌/◌, ◌<◌, Bool, true, false, ◌&&◌, ◌||◌, not, eqb, ltb, List, get_or, slice_get}
use Rattle.std.proofs.Common.{Option, Some, None, refl, sym, ap, ◌∙◌, inl, inr, subst, arith}
use Rattle.std.specs.List.{list_any}
use Rattle.std.proofs.lemmas.Bool.{and_parts, and_from, and_right, or_left, or_right, or_cases, or_from, not-true}
use Rattle.std.proofs.lemmas.Bool.{not_from_false, not_from_true, false_from_ne_true, eqb-true, eq-eqb}
use Rattle.std.proofs.lemmas.Bool.{lt-ltb, ltb-true, cases_order, cases_Bool, cond-true, cond-false, false≢true}
use Rattle.std.proofs.lemmas.Option.{none-some, same_Some, slice_get_within, slice_get-get_or}
use Rattle.zd_model.specs.History.{Mark}
use Rattle.zd_model.specs.Requests.{Operation, first_block, operation_of}
use Rattle.zd_model.specs.Requests.Operation.{Reading, Writing, Discarding, Flushing}
use Rattle.zd_model.specs.declared.requests.Piece.{Piece}
use Rattle.zd_steps.specs.Runs.{Run, chunk_of, flies, flies_in, flushes, holds_back, is_before, is_eligible}
use Rattle.zd_steps.specs.Runs.{is_entered, is_flight_of, is_flight_on, is_flushing, is_held, is_held_in, is_reading}
use Rattle.zd_steps.specs.Runs.{is_same_chunk, is_writing}
use Rattle.zd_steps.specs.Queues.{AreInOrder, Callers, HasEntered, IsInFlight, IsQueue, Precedes}
use Rattle.zd_steps.specs.Queues.{QueueState, head_of, run_of}
use Rattle.zd_steps.proofs.EnteredLaws.{entered_decides, same_place}
use Rattle.zd_steps.proofs.MemberLaws.{In, any-in, in-any, in-place, place-in}

-- the test of the script's order tells the order
before_from : (p q : Piece) → Precedes q p → is_before p q ≡ true
before_from p q (inl l) =
    or_left (ltb q.request p.request) (eqb q.request p.request && ltb q.piece p.piece) (lt-ltb q.request p.request l)
before_from p q (inr b) =
    or_right (ltb q.request p.request) (eqb q.request p.request && ltb q.piece p.piece)
    (and_from (eqb q.request p.request) (ltb q.piece p.piece) (eq-eqb q.request p.request b.0) (lt-ltb q.piece p.piece b.1))

before_tells : (p q : Piece) → is_before p q ≡ true → Precedes q p
before_tells p q h = elim (or_cases (ltb q.request p.request) (eqb q.request p.request && ltb q.piece p.piece) h) [
  | inl l ↦ inl (ltb-true q.request p.request l)
  | inr b ↦ (let parts = and_parts (eqb q.request p.request) (ltb q.piece p.piece) b in
      inr (eqb-true q.request p.request parts.0, ltb-true q.piece p.piece parts.1))
]

not_both : (p q : Piece) → Precedes p q → Precedes q p → ⊥
not_both p q (inl l) (inl m) = omega (arith, l, m)
not_both p q (inl l) (inr m) = let e = m.0 in omega (arith, l, e)
not_both p q (inr l) (inl m) = let e = l.0 in omega (arith, m, e)
not_both p q (inr l) (inr m) = let e = l.1 in let f = m.1 in omega (arith, e, f)

pub not_itself : (p : Piece) → Precedes p p → ⊥
not_itself p (inl l) = omega (arith, l)
not_itself p (inr b) = let l = b.1 in omega (arith, l)

-- an earlier piece stands at a lower place
lower : (pieces : List Piece) → AreInOrder pieces → (i j : ℕ) (p q : Piece) → slice_get pieces i ≡ Some p
    → slice_get pieces j ≡ Some q → Precedes q p → j < i
lower pieces order i j p q at_i at_j before = elim (cases_order j i) [
  | inl same ↦ absurd (not_itself p (subst (λ x. Precedes x p) (same_Some q p (sym at_j ∙ ap (slice_get pieces) same ∙ at_i)) before))
  | inr apart ↦ (elim apart [
    | inl l ↦ l
    | inr l ↦ absurd (not_both q p before (order i j p q l at_i at_j))
  ])
]

-- a read or a write is no flush
no_flush : (o : Operation) → (is_reading o || is_writing o) ≡ true → is_flushing o ≡ false
no_flush Reading h = refl
no_flush Writing h = refl
no_flush Discarding h = refl
no_flush Flushing h = absurd (false≢true h)

-- what is in flight stands on a chunk
pub on_chunk : (z : ℕ) (h : Callers) (p : Piece) → IsInFlight h p → chunk_of z p ≡ Some (first_block p.what / z)
on_chunk z h p flying = cond-false (flushes p || p.range) None (Some (first_block p.what / z))
    (or_from (flushes p) p.range (no_flush (operation_of p.what) flying.moves) flying.in_range)

-- two that stand on one chunk
pub same_chunk : (c d : Option ℕ) (n : ℕ) → c ≡ Some n → d ≡ Some n → is_same_chunk c d ≡ true
same_chunk (Some a) (Some b) n e f = eq-eqb a b (same_Some a n e ∙ sym (same_Some b n f))
same_chunk None d n e f = absurd (none-some n e)
same_chunk (Some a) None n e f = absurd (none-some n f)

-- nothing holds what stands on no chunk
no_chunk : (c : Option ℕ) → is_same_chunk None c ≡ false
no_chunk None = refl
no_chunk (Some n) = refl

free_at : (z : ℕ) (f : Option Piece) → is_flight_on z None f ≡ false
free_at z None = refl
free_at z (Some q) = no_chunk (chunk_of z q)

free_nowhere : (z : ℕ) (flights : List (Option Piece)) → list_any (is_flight_on z None) flights ≡ false
free_nowhere z flights = false_from_ne_true (list_any (is_flight_on z None) flights) (λ h.
    let found = any-in (is_flight_on z None) flights h in
    false≢true (sym (free_at z found.0) ∙ found.2))

pub flush_free : (z : ℕ) (flights : List (Option Piece)) (p : Piece) → flushes p ≡ true → is_held_in z flights p ≡ false
flush_free z flights p f =
    ap (λ c. list_any (is_flight_on z c) flights) (cond-true (flushes p || p.range) None (Some (first_block p.what / z)) (or_left (flushes p) p.range f))
    ∙ free_nowhere z flights

-- of four tests the last is what counts, where the first three hold
four_true : (a b c d : Bool) → a ≡ false → b ≡ false → c ≡ false → (not a && not b && not c && d) ≡ d
four_true a b c d e f g = rw (e, f, g) refl

module _ (q : QueueState) (is : IsQueue q.chunk_blocks q.callers q.flights) (entered : List Mark) (before : HasEntered q.callers entered) where
  abbrev h : Callers
  h = q.callers

  abbrev r : Run
  r = run_of q entered

  -- what is in flight is its caller's first, and holds its own chunk
  module _ (p : Piece) where
    by_flight : (i : ℕ) → slice_get h.pieces i ≡ Some p → (f : Option Piece) → In f q.flights → is_flight_of p f ≡ true
        → (i ≡ head_of h p.caller) × (is_held r p ≡ true)
    by_flight i at None there e = absurd (false≢true e)
    by_flight i at (Some x) there e =
        let place = in-place (Some x) q.flights there in
        let flying = is.flying.each place.0 x place.1 in
        let numbers = and_parts (eqb x.request p.request) (eqb x.piece p.piece) e in
        let same = same_place h.pieces is.script.order i (head_of h x.caller) p x at flying.first
        (sym (eqb-true x.request p.request numbers.0)) (sym (eqb-true x.piece p.piece numbers.1)) in
        let one : p ≡ x = same_Some p x (sym at ∙ ap (slice_get h.pieces) same ∙ flying.first) in (
          same ∙ ap (λ y. head_of h y.caller) (sym one),
          in-any (is_flight_on q.chunk_blocks (chunk_of q.chunk_blocks p)) (Some x) q.flights there
              (same_chunk (chunk_of q.chunk_blocks p) (chunk_of q.chunk_blocks x) (first_block x.what / q.chunk_blocks)
              (ap (chunk_of q.chunk_blocks) one ∙ on_chunk q.chunk_blocks h x flying) (on_chunk q.chunk_blocks h x flying)),
        )

    pub flies_first : (i : ℕ) → slice_get h.pieces i ≡ Some p → flies_in q.flights p ≡ true
        → (i ≡ head_of h p.caller) × (is_held r p ≡ true)
    flies_first i at e = let found = any-in (is_flight_of p) q.flights e in by_flight i at found.0 found.1 found.2

  module _ (i : ℕ) (p : Piece) (at : slice_get h.pieces i ≡ Some p) where
    -- behind the head, the head holds it back
    behind : head_of h p.caller < i → list_any (holds_back r p) h.pieces ≡ true
    behind high =
        let k : ℕ = head_of h p.caller in
        let inside = slice_get_within h.pieces i p at in
        let x : Piece = get_or h.pieces k p in
        let at_k : slice_get h.pieces k ≡ Some x = slice_get-get_or h.pieces k p (omega (arith, high, inside)) in
        let caller : x.caller ≡ p.caller = is.heads.own p.caller x at_k in
        let decides = entered_decides h entered is.script.order before k x at_k in
        let level : head_of h x.caller ≡ k = ap (head_of h) caller in
        let out : is_entered r x ≡ false = false_from_ne_true (is_entered r x) (λ e. let low = decides.0 e in omega (arith, low, level)) in
        let first : (eqb x.caller p.caller && is_before p x) ≡ true =
        and_from (eqb x.caller p.caller) (is_before p x) (eq-eqb x.caller p.caller caller) (before_from p x (is.script.order k i x p high at_k at)) in
        in-any (holds_back r p) x h.pieces (place-in x h.pieces k at_k)
        (and_from (eqb x.caller p.caller && is_before p x) (not (is_entered r x)) first (not_from_false (is_entered r x) out))

    -- no eligible piece stands behind its caller's head, or before
    pub eligible_first : is_eligible r p ≡ true → i ≡ head_of h p.caller
    eligible_first e =
        let all = and_parts (not (is_entered r p) && not (flies r p) && not (list_any (holds_back r p) h.pieces)) (not (is_held r p)) e in
        let three = and_parts (not (is_entered r p) && not (flies r p)) (not (list_any (holds_back r p) h.pieces)) all.0 in
        let two = and_parts (not (is_entered r p)) (not (flies r p)) three.0 in
        let out : is_entered r p ≡ false = not-true (is_entered r p) two.0 in
        let none : list_any (holds_back r p) h.pieces ≡ false = not-true (list_any (holds_back r p) h.pieces) three.1 in
        let here = entered_decides h entered is.script.order before i p at in
        elim (cases_order i (head_of h p.caller)) [
          | inl same ↦ same
          | inr apart ↦ (elim apart [
            | inl low ↦ absurd (false≢true (sym out ∙ here.1 low))
            | inr high ↦ absurd (false≢true (sym none ∙ behind high))
          ])
        ]

    module _ (level : i ≡ head_of h p.caller) where
      not_entered : is_entered r p ≡ false
      not_entered =
          let decides = entered_decides h entered is.script.order before i p at in
          false_from_ne_true (is_entered r p) (λ e. let low = decides.0 e in omega (arith, low, level))

      none_before : list_any (holds_back r p) h.pieces ≡ false
      none_before = false_from_ne_true (list_any (holds_back r p) h.pieces) (λ e.
          let found = any-in (holds_back r p) h.pieces e in
          let x : Piece = found.0 in
          let place = in-place x h.pieces found.1 in
          let tests = and_parts (eqb x.caller p.caller && is_before p x) (not (is_entered r x)) found.2 in
          let both = and_parts (eqb x.caller p.caller) (is_before p x) tests.0 in
          let low = lower h.pieces is.script.order i place.0 p x at place.1 (before_tells p x both.1) in
          let decides = entered_decides h entered is.script.order before place.0 x place.1 in
          let same : head_of h x.caller ≡ head_of h p.caller = ap (head_of h) (eqb-true x.caller p.caller both.0) in
          let there : is_entered r x ≡ true = decides.1 (omega (arith, low, level, same)) in
          false≢true (sym (not-true (is_entered r x) tests.1) ∙ there))

      -- a first piece is eligible exactly where no piece is in flight on its chunk
      pub first_eligible : is_eligible r p ≡ not (is_held r p)
      first_eligible = elim (cases_Bool (is_held r p)) [
        | inl held ↦ (and_right (not (is_entered r p) && not (flies r p) && not (list_any (holds_back r p) h.pieces)) (not (is_held r p)) (not_from_true (is_held r p) held)
            ∙ sym (not_from_true (is_held r p) held))
        | inr free ↦ (four_true (is_entered r p) (flies r p) (list_any (holds_back r p) h.pieces) (not (is_held r p)) not_entered
            (false_from_ne_true (flies r p) (λ e. false≢true (sym free ∙ (flies_first p i at e).1))) none_before)
      ]
