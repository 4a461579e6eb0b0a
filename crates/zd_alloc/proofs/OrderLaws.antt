-- How often chunks stand in lists.
use Rattle.std.proofs.Common.{◌≡◌, ◌≢◌, inl, inr, ℕ, ◌+◌, ◌<◌, ◌≤◌, zero, suc, List, [], ◌∷◌, ◌++◌, refl, sym, ap, ◌∙◌, arith, length-append}
use Rattle.std.specs.List.{range_with_len}
use Rattle.std.proofs.lemmas.List.{map-id}
use Rattle.std.proofs.lemmas.List.FromFn.{map-range_with_len_more}
use Rattle.std.proofs.lemmas.Bool.{cases_eq}
use Rattle.std.proofs.lemmas.Bool.Decides.{nat_tests}
use Rattle.zd_alloc.specs.Order.{without, PutsLast}
use Rattle.zd_alloc.specs.Links.{times}

pub times-append : (x : ℕ) (xs ys : List ℕ) → times x (xs ++ ys) ≡ times x xs + times x ys
times-append x [] ys = omega arith
times-append x (y ∷ xs) ys = omega (arith, times-append x xs ys)

pub times_same : (x y : ℕ) (xs : List ℕ) → y ≡ x → times x (y ∷ xs) ≡ times x xs + 1
times_same x y xs e = grind (arith, nat_tests)

pub times_other : (x y : ℕ) (xs : List ℕ) → y ≢ x → times x (y ∷ xs) ≡ times x xs
times_other x y xs ne = grind (arith, nat_tests)

-- a place that isn't in the list isn't its first, nor in its rest
pub none_first : (x y : ℕ) (xs : List ℕ) → times x (y ∷ xs) ≡ 0 → (y ≢ x) × (times x xs ≡ 0)
none_first x y xs none = (λ e. omega (arith, none, times_same x y xs e), omega (arith, none))

-- a list without a chunk that isn't in it
pub without_none : (x : ℕ) (xs : List ℕ) → times x xs ≡ 0 → without x xs ≡ xs
without_none x [] none = refl
without_none x (y ∷ xs) none =
    let p = none_first x y xs none in
    let e = without_none x xs p.1 in
    let ne = p.0 in
    grind (arith, nat_tests)

-- a list with a chunk that stands in it once
pub without_once : (x : ℕ) (before after : List ℕ) → times x before ≡ 0 → times x after ≡ 0 → without x (before ++ x ∷ after) ≡ before ++ after
without_once x [] after none none' = let e = without_none x after none' in grind (arith, nat_tests)
without_once x (y ∷ before) after none none' =
    let p = none_first x y before none in
    let e = without_once x before after p.1 none' in
    let ne = p.0 in
    grind (arith, nat_tests)

-- what stands before and after a chunk
pub record IsSplit (x : ℕ) (xs : List ℕ) : Type 0 where
  pub before : List ℕ
  pub after : List ℕ
  pub is : xs ≡ before ++ x ∷ after

pub split_at : (x : ℕ) (xs : List ℕ) → 0 < times x xs → IsSplit x xs
split_at x [] some = absurd (omega (arith, some))
split_at x (y ∷ xs) some = elim (cases_eq y x) [
  | inl e ↦ record { before = []; after = xs; is = ap (λ (z : ℕ). z ∷ xs) e }
  | inr ne ↦
      let rest = split_at x xs (omega (arith, some, times_other x y xs ne)) in
      record { before = y ∷ rest.before; after = rest.after; is = ap (λ (zs : List ℕ). y ∷ zs) rest.is }
]

-- one more chunk after those of a range
pub range_more : (n : ℕ) → range_with_len 0 (n + 1) ≡ range_with_len 0 n ++ n ∷ []
range_more n =
    sym (map-id (range_with_len 0 (n + 1))) ∙ map-range_with_len_more (λ (x : ℕ). x) 0 n n (omega arith)
    ∙ ap (λ (xs : List ℕ). xs ++ n ∷ []) (map-id (range_with_len 0 n))

-- each chunk stands in a range once, and no other does
times_below : (x a n : ℕ) → x < a → times x (range_with_len a n) ≡ 0
times_below x a zero low = refl
times_below x a (suc n) low =
    times_other x a (range_with_len (a + 1) n) (λ e. omega (arith, e, low)) ∙ times_below x (a + 1) n (omega (arith, low))

pub times_past : (x a n : ℕ) → a + n ≤ x → times x (range_with_len a n) ≡ 0
times_past x a zero past = refl
times_past x a (suc n) past =
    times_other x a (range_with_len (a + 1) n) (λ e. omega (arith, e, past)) ∙ times_past x (a + 1) n (omega (arith, past))

pub times_within : (x a n : ℕ) → a ≤ x → x < a + n → times x (range_with_len a n) ≡ 1
times_within x a zero low high = absurd (omega (arith, low, high))
times_within x a (suc n) low high = elim (cases_eq a x) [
  | inl e ↦ omega (arith, times_same x a (range_with_len (a + 1) n) e, times_below x (a + 1) n (omega (arith, e)))
  | inr ne ↦
      times_other x a (range_with_len (a + 1) n) ne ∙ times_within x (a + 1) n (omega (arith, low, ne)) (omega (arith, high))
]

-- a chunk that is put after the others stands last
pub puts_last : (x : ℕ) (before after : List ℕ) → times x before ≡ 0 → times x after ≡ 0 → PutsLast x (before ++ x ∷ after) ((before ++ after) ++ x ∷ [])
puts_last x before after none none' = record {
  others_first = ap (λ (xs : List ℕ). xs ++ x ∷ []) (sym (without_once x before after none none'));
  count =
      omega (arith, length-append (before ++ after) (x ∷ []), length-append before after, length-append before (x ∷ after));
}
