-- The first piece, from a place on, that passes a test which only the callers' first pieces pass.
use Rattle.std.proofs.Common.{◌≡◌, ℕ, zero, suc, ◌+◌, ◌<◌, ◌≤◌, Bool, true, false, List, [], ◌∷◌, length, drop}
use Rattle.std.proofs.Common.{filter, find, slice_get, Decides, Some, refl, sym, ap, ◌∙◌, inl, inr, arith}
use Rattle.std.specs.List.{list_any}
use Rattle.std.proofs.lemmas.Bool.{or_left, or_right, or_cases, false≢true, false_from_ne_true, cond-true, cond-false}
use Rattle.std.proofs.lemmas.Option.{none-some, same_Some}
use Rattle.zd_model.specs.declared.requests.Piece.{Piece}
use Rattle.zd_steps.specs.Queues.{Callers, IsLeast, first_of, head_of}

-- at this place the test passes for the first time, or the place is behind all
pub record IsFirstAt {X : Type 0} (test : X → Bool) (xs : List X) (from k : ℕ) : Type 0 where
  pub before : (j : ℕ) (x : X) → from ≤ j → j < k → slice_get xs j ≡ Some x → test x ≡ false
  pub here : (x : X) → slice_get xs k ≡ Some x → test x ≡ true

pub find-first : {X : Type 0} (test : X → Bool) (xs : List X) (k : ℕ) → IsFirstAt test xs 0 k → find test xs ≡ slice_get xs k
find-first test [] k first = refl
find-first test (x ∷ xs) zero first = cond-true (test x) (Some x) (find test xs) (first.here x refl)
find-first test (x ∷ xs) (suc k) first =
    cond-false (test x) (Some x) (find test xs) (first.before 0 x (omega arith) (omega arith) refl)
    ∙ find-first test xs k (record { before = λ j y low high at. first.before (suc j) y (omega arith) (omega (arith, high)) at; here = first.here })

one_up : (k : ℕ) → suc (k + 1) ≡ suc k + 1
one_up k = omega arith

-- whether any passes is whether there is a first that does
pub any-first : {X : Type 0} (test : X → Bool) (xs : List X) (k : ℕ) → IsFirstAt test xs 0 k → Decides (list_any test xs) (k < length xs)
any-first test [] k first = (λ h. absurd (false≢true h), λ low. absurd (omega (arith, low)))
any-first test (x ∷ xs) zero first = (λ h. omega arith, λ low. or_left (test x) (list_any test xs) (first.here x refl))
any-first test (x ∷ xs) (suc k) first =
    let not_first : test x ≡ false = first.before 0 x (omega arith) (omega arith) refl in
    let rest = any-first test xs k (record { before = λ j y low high at. first.before (suc j) y (omega arith) (omega (arith, high)) at; here = first.here }) in (
      λ h. elim (or_cases (test x) (list_any test xs) h) [
        | inl here ↦ absurd (false≢true (sym not_first ∙ here))
        | inr later ↦ (let low = rest.0 later in omega (arith, low))
      ],
      λ low. or_right (test x) (list_any test xs) (rest.1 (omega (arith, low))),
    )

-- the rest from a place on, at the first that passes
pub filter-first : {X : Type 0} (test : X → Bool) (xs : List X) (from k : ℕ) (x : X) → from ≤ k → IsFirstAt test xs from k → slice_get xs k ≡ Some x → filter test (drop from xs) ≡ x ∷ filter test (drop (k + 1) xs)
filter-first test [] from k x low first at = absurd (none-some x at)
filter-first test (y ∷ ys) zero zero x low first at =
    cond-true (test y) (y ∷ filter test ys) (filter test ys) (first.here y refl) ∙ ap (λ z. z ∷ filter test ys) (same_Some y x at)
filter-first test (y ∷ ys) zero (suc k) x low first at =
    cond-false (test y) (y ∷ filter test ys) (filter test ys) (first.before 0 y (omega arith) (omega arith) refl)
    ∙ filter-first test ys zero k x (omega arith) (record { before = λ j z l h e. first.before (suc j) z (omega arith) (omega (arith, h)) e; here = first.here }) at
    ∙ ap (λ n. x ∷ filter test (drop n (y ∷ ys))) (one_up k)
filter-first test (y ∷ ys) (suc from) zero x low first at = absurd (omega (arith, low))
filter-first test (y ∷ ys) (suc from) (suc k) x low first at =
    filter-first test ys from k x (omega (arith, low)) (record { before = λ j z l h e. first.before (suc j) z (omega (arith, l)) (omega (arith, h)) e; here = first.here }) at
    ∙ ap (λ n. x ∷ filter test (drop n (y ∷ ys))) (one_up k)

pub filter-none : {X : Type 0} (test : X → Bool) (xs : List X) (from k : ℕ) → length xs ≤ k → IsFirstAt test xs from k → filter test (drop from xs) ≡ []
filter-none test [] zero k high first = refl
filter-none test [] (suc from) k high first = refl
filter-none test (y ∷ ys) zero zero high first = absurd (omega (arith, high))
filter-none test (y ∷ ys) zero (suc k) high first =
    cond-false (test y) (y ∷ filter test ys) (filter test ys) (first.before 0 y (omega arith) (omega arith) refl)
    ∙ filter-none test ys zero k (omega (arith, high)) (record { before = λ j z l h e. first.before (suc j) z (omega arith) (omega (arith, h)) e; here = first.here })
filter-none test (y ∷ ys) (suc from) zero high first = absurd (omega (arith, high))
filter-none test (y ∷ ys) (suc from) (suc k) high first =
    filter-none test ys from k (omega (arith, high)) (record { before = λ j z l h e. first.before (suc j) z (omega (arith, l)) (omega (arith, h)) e; here = first.here })

-- of the callers' first pieces the test says what `first` says, and no others pass it
pub record IsToldByFirsts (h : Callers) (test first : Piece → Bool) : Type 0 where
  pub only : (i : ℕ) (p : Piece) → slice_get h.pieces i ≡ Some p → test p ≡ true → i ≡ head_of h p.caller
  pub same : (p : Piece) → first_of h p.caller ≡ Some p → test p ≡ first p

-- so the least head that passes is the place of the first piece of all that does
pub least-first : (h : Callers) (test first : Piece → Bool) (from place : ℕ) → from ≤ place
    → IsToldByFirsts h test first → IsLeast h first from place → IsFirstAt test h.pieces from place
least-first h test first from place up told least = record {
  before = λ j p low high at. false_from_ne_true (test p) (λ passes.
      let level = told.only j p at passes in
      let there : first_of h p.caller ≡ Some p = ap (slice_get h.pieces) (sym level) ∙ at in
      let above = least.least p.caller p there (sym (told.same p there) ∙ passes) (omega (arith, low, level)) in
      omega (arith, above, high, level));
  here = λ p at.
      let found = least.here p at in
      told.same p (ap (slice_get h.pieces) found.0 ∙ at) ∙ found.1;
}
