-- The list that a ring of all chunks makes, and what it is after a chunk was put last.
use Rattle.std.proofs.Common.{◌≡◌, ◌≢◌, inl, inr, ℕ, zero, suc, ◌+◌, ◌<◌, List, [], ◌∷◌, ◌++◌, length, get_or, Some, None, refl, sym, ap, ◌∙◌, subst, arith, add-one}
use Rattle.std.specs.List.{slice_get, range_with_len, Contains}
use Rattle.std.proofs.lemmas.List.{get_or_past}
use Rattle.std.proofs.lemmas.List.Elements.{Contains-append_right}
use Rattle.std.proofs.lemmas.List.FromFn.{length-range_with_len}
use Rattle.std.proofs.lemmas.Option.{none-some, same_Some, slice_get-get_or, slice_get_past}
use Rattle.std.proofs.lemmas.Bool.{cases_lt}
use Rattle.zd_alloc.specs.Order.{PutsLast, IsAfter}
use Rattle.zd_alloc.specs.Links.{times, LinkTables, end_of, next_of, IsWay, IsRing, Removes, Appends, places_from, order_of, IsFullRing}
use Rattle.zd_alloc.proofs.OrderLaws.{times-append, times_same, times_within, IsSplit, split_at, puts_last}
use Rattle.zd_alloc.proofs.LinkLaws.{first_on, first_is}

way_places : (t : LinkTables) (p q : ℕ) (xs : List ℕ) → IsWay t p xs q → places_from t.next (length xs) p ≡ xs
way_places t p q [] way = refl
way_places t p q (x ∷ xs) way =
    ap (λ (y : ℕ). y ∷ places_from t.next (length xs) y) way.0.next ∙ ap (λ (ys : List ℕ). x ∷ ys) (way_places t x q xs way.1)

-- the ring of all places has one list
order_is : (t : LinkTables) (order : List ℕ) → IsFullRing t order → order_of t ≡ order
order_is t order whole =
    ap (λ (n : ℕ). places_from t.next n (end_of t)) (sym whole.count) ∙ way_places t (end_of t) (end_of t) order whole.ring.way

pub record IsOrder (t : LinkTables) (order : List ℕ) : Type 0 where
  pub whole : IsFullRing t (order_of t)
  pub is : order_of t ≡ order

order_from : (t : LinkTables) (order : List ℕ) → IsFullRing t order → IsOrder t order
order_from t order whole =
    let is = order_is t order whole in
    record { whole = subst (IsFullRing t) (sym is) whole; is = is }

pub started : (t : LinkTables) (n : ℕ) → IsRing t (range_with_len 0 n) → end_of t ≡ n → 0 < n → IsOrder t (range_with_len 0 n)
started t n ring end some =
    order_from t (range_with_len 0 n)
    (record {
      ring = ring;
      all = λ x less. times_within x 0 n (omega arith) (omega (arith, less, end));
      count = length-range_with_len 0 n ∙ sym end;
      some = omega (arith, some, end);
    })

-- a place of the list, with what stands before and after it
split_whole : (t : LinkTables) (order : List ℕ) (c : ℕ) → IsFullRing t order → c < end_of t → IsSplit c order
split_whole t order c whole inside = split_at c order (omega (arith, whole.all c inside))

-- the chunk is last once it was taken out of the ring and put into it again
put_last : (t u v : LinkTables) (order : List ℕ) (c : ℕ) → IsFullRing t order → Removes c t u → Appends c u v → end_of u ≡ end_of t → end_of v ≡ end_of u → c < end_of t → IsSplit c order → (new : List ℕ) × IsFullRing v new × PutsLast c order new
put_last t u v order c whole removes appends end end' inside split =
    let xs = split.before in
    let ys = split.after in
    let new : List ℕ = (xs ++ ys) ++ c ∷ [] in
    let sum : (x : ℕ) → times x order ≡ times x xs + times x (c ∷ ys) = λ x. ap (times x) split.is ∙ times-append x xs (c ∷ ys) in
    let one : times c xs + times c ys ≡ 0 = omega (arith, whole.all c inside, sum c, times_same c c ys refl) in
    let same : (x : ℕ) → times x new ≡ times x order =
    λ x. omega (arith, sum x, times-append x (xs ++ ys) (c ∷ []), times-append x xs ys) in
    let none : times c (xs ++ ys) ≡ 0 = times-append c xs ys ∙ one in
    let ring : IsRing v new = appends (xs ++ ys) (removes xs ys (subst (IsRing t) split.is whole.ring)) none in
    let puts : PutsLast c order new = subst (λ (zs : List ℕ). PutsLast c zs new) (sym split.is)
    (puts_last c xs ys (omega (arith, one)) (omega (arith, one))) in (
      new,
      record {
        ring = ring;
        all = λ x less. same x ∙ whole.all x (omega (arith, less, end, end'));
        count = puts.count ∙ whole.count ∙ sym end ∙ sym end';
        some = omega (arith, whole.some, end, end');
      },
      puts,
    )

pub record IsTouched (v : LinkTables) (c : ℕ) (order : List ℕ) : Type 0 where
  pub whole : IsFullRing v (order_of v)
  pub puts : PutsLast c order (order_of v)

pub touched : (t u v : LinkTables) (order : List ℕ) (c : ℕ) → IsFullRing t order → Removes c t u → Appends c u v → end_of u ≡ end_of t → end_of v ≡ end_of u → c < end_of t → IsTouched v c order
touched t u v order c whole removes appends end end' inside =
    let put = put_last t u v order c whole removes appends end end' inside (split_whole t order c whole inside) in
    let now = order_from v put.0 put.1 in
    record { whole = now.whole; puts = subst (PutsLast c order) (sym now.is) put.2 }

pub first_whole : (t : LinkTables) (order : List ℕ) → IsFullRing t order → slice_get order 0 ≡ Some (next_of t (end_of t))
first_whole t [] whole = absurd (omega (arith, whole.count, whole.some))
first_whole t (x ∷ xs) whole = ap (λ (y : ℕ). Some y) (sym whole.ring.way.0.next)

first_at : (q : ℕ) (xs : List ℕ) → first_on xs q ≡ get_or xs 0 q
first_at q [] = refl
first_at q (x ∷ xs) = refl

-- what a place leads to stands right after it
way_at : (t : LinkTables) (p q c : ℕ) (xs : List ℕ) (i : ℕ) → IsWay t p xs q → slice_get xs i ≡ Some c → next_of t c ≡ get_or xs (suc i) q
way_at t p q c [] i way at = absurd (none-some c at)
way_at t p q c (x ∷ xs) zero way at =
    subst (λ (y : ℕ). next_of t y ≡ get_or xs 0 q) (same_Some x c at) (first_is t x q xs way.1 ∙ first_at q xs)
way_at t p q c (x ∷ xs) (suc i) way at = way_at t x q c xs i way.1 at

after_at : (t : LinkTables) (order : List ℕ) (c i : ℕ) → IsFullRing t order → slice_get order i ≡ Some c → next_of t c ≡ get_or order (i + 1) (end_of t)
after_at t order c i whole at =
    way_at t (end_of t) (end_of t) c order i whole.ring.way at ∙ ap (λ (n : ℕ). get_or order n (end_of t)) (sym (add-one i))

times_at : (d : ℕ) (xs : List ℕ) (i : ℕ) → i < length xs → 0 < times (get_or xs i d) xs
times_at d [] i less = absurd (omega (arith, less))
times_at d (x ∷ xs) zero less = omega (arith, times_same x x xs refl)
times_at d (x ∷ xs) (suc i) less = omega (arith, times_at d xs i (omega (arith, less)))

contains_whole : (t : LinkTables) (order : List ℕ) (c : ℕ) → IsFullRing t order → c < end_of t → Contains order c
contains_whole t order c whole inside =
    let split = split_whole t order c whole inside in
    subst (λ (xs : List ℕ). Contains xs c) (sym split.is)
    (Contains-append_right split.before (c ∷ split.after) c (0, omega arith, refl))

-- a place inside the list isn't the end
inside_apart : (t : LinkTables) (order : List ℕ) (i : ℕ) → IsFullRing t order → i < length order → get_or order i (end_of t) ≢ end_of t
inside_apart t order i whole less same =
    let stands : 0 < times (end_of t) order = subst (λ (x : ℕ). 0 < times x order) same (times_at (end_of t) order i less) in
    omega (arith, stands, whole.ring.inside (end_of t) (omega arith))

pub after_none : (t : LinkTables) (order : List ℕ) (c : ℕ) → IsFullRing t order → c < end_of t → next_of t c ≡ end_of t → IsAfter order c None
after_none t order c whole inside next = record {
  here = contains_whole t order c whole inside;
  next = λ place at. elim (cases_lt (place + 1) (length order)) [
    | inl less ↦ absurd (inside_apart t order (place + 1) whole less (sym (after_at t order c place whole at) ∙ next))
    | inr past ↦ sym (slice_get_past order (place + 1) past)
  ];
}

pub after_some : (t : LinkTables) (order : List ℕ) (c n : ℕ) → IsFullRing t order → c < end_of t → n ≡ next_of t c → n ≢ end_of t → IsAfter order c (Some n)
after_some t order c n whole inside next ne = record {
  here = contains_whole t order c whole inside;
  next = λ place at.
      let is : n ≡ get_or order (place + 1) (end_of t) = next ∙ after_at t order c place whole at in
      elim (cases_lt (place + 1) (length order)) [
        | inl less ↦ ap (λ (x : ℕ). Some x) is ∙ sym (slice_get-get_or order (place + 1) (end_of t) less)
        | inr past ↦ absurd (ne (is ∙ get_or_past order (place + 1) (end_of t) past))
      ];
}
