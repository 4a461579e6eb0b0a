-- Each chunk has a place in the use order.
use Rattle.std.proofs.Common.{◌≡◌, ◌≢◌, inl, inr, ℕ, zero, suc, ◌+◌, ◌<◌, ◌≤◌, List, [], ◌∷◌, length, get_or, Some, refl, ap, arith}
use Rattle.std.proofs.lemmas.Bool.{cases_eq, not-true, eqb-false}
use Rattle.std.proofs.lemmas.Bool.Decides.{nat_tests}
use Rattle.std.proofs.lemmas.List.Elements.{All-filter, filter_passes}
use Rattle.std.specs.List.{All, slice_get}
use Rattle.zd_alloc.specs.Candidates.{IsInOrder}
use Rattle.zd_alloc.specs.Links.{times}
use Rattle.zd_alloc.specs.Order.{is_other, without}
use Rattle.zd_alloc.proofs.OrderLaws.{times_other}

-- what stands in a list has a place there
place_of : (x : ℕ) (xs : List ℕ) → 0 < times x xs → (i : ℕ) × (slice_get xs i ≡ Some x)
place_of x [] some = absurd (omega (arith, some))
place_of x (y ∷ ys) some = elim (cases_eq y x) [
  | inl same ↦ (0, ap (λ (n : ℕ). Some n) same)
  | inr off ↦ (let rest = place_of x ys (omega (arith, some, times_other x y ys off)) in (suc rest.0, rest.1))
]

-- without a number a list has as many fewer places as the number had
length-without : (x : ℕ) (xs : List ℕ) → length (without x xs) + times x xs ≡ length xs
length-without x [] = refl
length-without x (y ∷ ys) = let rest = length-without x ys in grind (arith, nat_tests)

times_rest : (x c : ℕ) (xs : List ℕ) → c ≢ x → times c (without x xs) ≡ times c xs
times_rest x c [] off = refl
times_rest x c (y ∷ ys) off = let rest = times_rest x c ys off in grind (arith, nat_tests)

-- numbers below n, each at most once, are n at most
few_places : (n : ℕ) (xs : List ℕ) → All (λ (c : ℕ). c < n) xs → ((c : ℕ) → c < n → times c xs ≤ 1) → length xs ≤ n
few_places zero [] inside once = omega arith
few_places zero (x ∷ xs) inside once = absurd (let low = inside 0 0 (omega arith) in omega (arith, low))
few_places (suc n) xs inside once =
    let size = length-without n xs in
    let one = once n (omega arith) in
    let rest = few_places n (without n xs)
    (λ k d low.
    let below = All-filter (is_other n) (λ (c : ℕ). c < suc n) xs inside k d low in
    let off = eqb-false (get_or (without n xs) k d) n (not-true _ (filter_passes (is_other n) xs k d low)) in
    omega (arith, below, off))
    (λ c low.
    let off : c ≢ n = λ is. omega (arith, is, low) in
    let same = times_rest n c xs off in
    let most = once c (omega (arith, low)) in
    omega (arith, same, most)) in
    omega (arith, size, one, rest)

-- A CHUNK of as many as the order has stands in it
pub stands_at : (order numbers : List ℕ) (c : ℕ) → IsInOrder order numbers → c < length order
    → (i : ℕ) × (slice_get order i ≡ Some c)
stands_at order numbers c is low =
    let inside : All (λ (d : ℕ). d < length numbers) order = is.inside in
    let few = few_places (length numbers) order inside (λ d less. (let one = is.once d less in omega (arith, one))) in
    let once = is.once c (omega (arith, few, low)) in
    place_of c order (omega (arith, once))

-- MANY PLACES: a list in which n numbers in a row stand has n at least
pub many_places : (a n : ℕ) (xs : List ℕ) → ((z : ℕ) → a ≤ z → z < a + n → 0 < times z xs) → n ≤ length xs
many_places a zero xs all = omega arith
many_places a (suc n) xs all =
    let size = length-without (a + n) xs in
    let one = all (a + n) (omega arith) (omega arith) in
    let rest = many_places a n (without (a + n) xs) (λ z low less.
    let off : z ≢ a + n = λ is. omega (arith, is, less) in
    let same = times_rest (a + n) z xs off in
    let some = all z low (omega (arith, less)) in
    omega (arith, same, some)) in
    omega (arith, size, one, rest)
