-- Ways and rings after a place has been joined to another.
use Rattle.std.proofs.Common.{◌≡◌, ◌≢◌, inl, inr, ℕ, ◌+◌, ◌-◌, ◌<◌, ◌≤◌, List, [], ◌∷◌, ◌++◌, length, refl, sym, ap, ap₂, ◌∙◌, subst, arith, length-set, get_or-set_same, get_or-set_other}
use Rattle.std.proofs.lemmas.Bool.{cases_eq}
use Rattle.zd_alloc.specs.Links.{times, LinkTables, end_of, next_of, prev_of, IsStep, IsWay, IsRing, joined, Removes, Appends}
use Rattle.zd_alloc.proofs.OrderLaws.{times-append, times_same, times_other, none_first}

-- the last place on a way before its end, and the first after its beginning
abbrev pub last_on : ℕ → List ℕ → ℕ
last_on first [] = first
last_on first (place ∷ places) = last_on place places

abbrev pub first_on : List ℕ → ℕ → ℕ
first_on [] last = last
first_on (place ∷ places) last = place

-- places that are in the tables
pub record AreIn (t : LinkTables) (a b : ℕ) : Type 0 where
  pub first : a < length t.next
  pub second : b < length t.prev

step_made : (t : LinkTables) (a b : ℕ) → a < length t.next → b < length t.prev → IsStep (joined a b t) a b
step_made t a b first second = record {
  next = get_or-set_same t.next a b 0 first;
  prev = get_or-set_same t.prev b a 0 second;
}

-- a join of other places leaves a step
step_kept : (t : LinkTables) (a b p q : ℕ) → p ≢ a → q ≢ b → IsStep t p q → IsStep (joined a b t) p q
step_kept t a b p q first second step = record {
  next = get_or-set_other t.next a p b 0 first ∙ step.next;
  prev = get_or-set_other t.prev b q a 0 second ∙ step.prev;
}

pub last_is : (t : LinkTables) (p q : ℕ) (xs : List ℕ) → IsWay t p xs q → prev_of t q ≡ last_on p xs
last_is t p q [] way = way.prev
last_is t p q (x ∷ xs) way = last_is t x q xs way.1

pub first_is : (t : LinkTables) (p q : ℕ) (xs : List ℕ) → IsWay t p xs q → next_of t p ≡ first_on xs q
first_is t p q [] way = way.next
first_is t p q (x ∷ xs) way = way.0.next

-- a place that isn't on a way isn't its last, nor its first
last_apart : (p x : ℕ) (xs : List ℕ) → times p (x ∷ xs) ≡ 0 → p ≢ last_on x xs
last_apart p x [] none e = (none_first p x [] none).0 (sym e)
last_apart p x (y ∷ ys) none e = last_apart p y ys (none_first p x (y ∷ ys) none).1 e

first_apart : (p q : ℕ) (xs : List ℕ) → times p xs ≡ 0 → p ≢ q → p ≢ first_on xs q
first_apart p q [] none ne e = ne e
first_apart p q (x ∷ xs) none ne e = (none_first p x xs none).0 (sym e)

-- a way on which neither place is stays
way_kept : (t : LinkTables) (a b p q : ℕ) (xs : List ℕ) → times a (p ∷ xs) ≡ 0 → times b xs ≡ 0 → q ≢ b → IsWay t p xs q → IsWay (joined a b t) p xs q
way_kept t a b p q [] first second ne way = step_kept t a b p q (none_first a p [] first).0 ne way
way_kept t a b p q (x ∷ xs) first second ne way =
    let f = none_first a p (x ∷ xs) first in
    let s = none_first b x xs second in
    (step_kept t a b p x f.0 s.0 way.0, way_kept t a b x q xs f.1 s.1 ne way.1)

-- a way begins at another place once that is joined to its first
way_begun : (t : LinkTables) (p c q : ℕ) (xs : List ℕ) → AreIn t p (first_on xs q) → ((x : ℕ) → times x (p ∷ xs) ≤ 1) → times q xs ≡ 0 → IsWay t c xs q → IsWay (joined p (first_on xs q) t) p xs q
way_begun t p c q [] here once none way = step_made t p q here.first here.second
way_begun t p c q (x ∷ xs) here once none way =
    let apart : times p (x ∷ xs) ≡ 0 = omega (arith, once p, times_same p p (x ∷ xs) refl) in
    let alone : times x xs ≡ 0 = omega (arith, once x, times_same x x xs refl) in
    (step_made t p x here.first here.second, way_kept t p x x q xs apart alone (λ e. (none_first q x xs none).0 (sym e)) way.1)

-- a way goes past a place once those at both sides of it are joined
way_cut : (t : LinkTables) (p c q : ℕ) (xs ys : List ℕ) → AreIn t (last_on p xs) (first_on ys q) → ((x : ℕ) → times x (p ∷ xs ++ ys) ≤ 1) → times q (xs ++ ys) ≡ 0 → IsWay t p xs c → IsWay t c ys q → IsWay (joined (last_on p xs) (first_on ys q) t) p (xs ++ ys) q
way_cut t p c q [] ys here once none way way' = way_begun t p c q ys here once none way'
way_cut t p c q (x ∷ xs) ys here once none way way' =
    let apart : times p (x ∷ xs) ≡ 0 = omega (arith, once p, times_same p p (x ∷ xs ++ ys) refl, times-append p (x ∷ xs) ys) in
    let alone : times x ys ≡ 0 = omega (arith, once x, times_same x x (xs ++ ys) refl, times-append x xs ys) in
    let rest = none_first q x (xs ++ ys) none in
    let less : (z : ℕ) → times z (x ∷ xs ++ ys) ≤ 1 = λ z. omega (arith, once z) in (
      step_kept t (last_on x xs) (first_on ys q) p x (last_apart p x xs apart) (first_apart x q ys alone rest.0) way.0,
      way_cut t x c q xs ys here less rest.1 way.1 way',
    )

-- a way goes through one place more, right before its end
way_more : (t : LinkTables) (p c q : ℕ) (xs : List ℕ) → AreIn t (last_on p xs) c → AreIn t c q → ((x : ℕ) → times x (p ∷ xs) ≤ 1) → times c (p ∷ xs) ≡ 0 → c ≢ q → times q xs ≡ 0 → IsWay t p xs q → IsWay (joined c q (joined (last_on p xs) c t)) p (xs ++ c ∷ []) q
way_more t p c q [] here here' once new ne none way =
    let u = joined p c t in (
      step_kept u c q p c (none_first c p [] new).0 ne (step_made t p c here.first here.second),
      step_made u c q (omega (arith, length-set t.next p c, here'.first)) (omega (arith, length-set t.prev c p, here'.second)),
    )
way_more t p c q (x ∷ xs) here here' once new ne none way =
    let l = last_on x xs in
    let apart : times p (x ∷ xs) ≡ 0 = omega (arith, once p, times_same p p (x ∷ xs) refl) in
    let n = none_first c p (x ∷ xs) new in
    let less : (z : ℕ) → times z (x ∷ xs) ≤ 1 = λ z. omega (arith, once z) in
    let end = none_first q x xs none in (
      step_kept (joined l c t) c q p x n.0 end.0 (step_kept t l c p x (last_apart p x xs apart) (none_first c x xs n.1).0 way.0),
      way_more t x c q xs here here' less n.1 ne end.1 way.1,
    )

-- a way in two parts
pub record AreParts (t : LinkTables) (p c q : ℕ) (xs ys : List ℕ) : Type 0 where
  pub before : IsWay t p xs c
  pub after : IsWay t c ys q

way_parts : (t : LinkTables) (p c q : ℕ) (xs ys : List ℕ) → IsWay t p (xs ++ c ∷ ys) q → AreParts t p c q xs ys
way_parts t p c q [] ys way = record { before = way.0; after = way.1 }
way_parts t p c q (x ∷ xs) ys way =
    let rest = way_parts t x c q xs ys way.1 in
    record { before = (way.0, rest.before); after = rest.after }

pub end-joined : (t : LinkTables) (a b : ℕ) → end_of (joined a b t) ≡ end_of t
end-joined t a b = ap (λ (n : ℕ). n - 1) (length-set t.next a b)

-- places that stand once, and the end before them
closed_once : (e : ℕ) (xs : List ℕ) → ((x : ℕ) → times x xs ≤ 1) → times e xs ≡ 0 → (x : ℕ) → times x (e ∷ xs) ≤ 1
closed_once e xs once none x = elim (cases_eq e x) [
  | inl same ↦ omega (arith, times_same x e xs same, subst (λ (y : ℕ). times y xs ≡ 0) same none)
  | inr other ↦ omega (arith, times_other x e xs other, once x)
]

-- tables after joins are a ring where they are a way
ring_of : (t u : LinkTables) (xs : List ℕ) → end_of u ≡ end_of t → length u.prev ≡ length u.next → IsWay u (end_of t) xs (end_of t) → ((x : ℕ) → times x xs ≤ 1) → ((x : ℕ) → end_of t ≤ x → times x xs ≡ 0) → IsRing u xs
ring_of t u xs end same way once inside = record {
  same = same;
  way = subst (λ (e : ℕ). IsWay u e xs e) (sym end) way;
  once = once;
  inside = λ x past. inside x (omega (arith, end, past));
}

same-joined : (t : LinkTables) (a b : ℕ) → length t.prev ≡ length t.next → length (joined a b t).prev ≡ length (joined a b t).next
same-joined t a b same = length-set t.prev b a ∙ same ∙ sym (length-set t.next a b)

cut_ring : (t : LinkTables) (c : ℕ) (xs ys : List ℕ) → last_on (end_of t) xs ≤ end_of t → first_on ys (end_of t) ≤ end_of t → c < end_of t → AreParts t (end_of t) c (end_of t) xs ys → IsRing t (xs ++ c ∷ ys) → IsRing (joined (last_on (end_of t) xs) (first_on ys (end_of t)) t) (xs ++ ys)
cut_ring t c xs ys low low' inside parts ring =
    let e = end_of t in
    let fewer : (x : ℕ) → times x (xs ++ ys) ≤ times x (xs ++ c ∷ ys) =
    λ x. omega (arith, times-append x xs ys, times-append x xs (c ∷ ys)) in
    let none : (x : ℕ) → end_of t ≤ x → times x (xs ++ ys) ≡ 0 = λ x past. omega (arith, fewer x, ring.inside x past) in
    let less : (x : ℕ) → times x (xs ++ ys) ≤ 1 = λ x. omega (arith, fewer x, ring.once x) in
    let clear : times e (xs ++ ys) ≡ 0 = none e (omega arith) in
    let here : AreIn t (last_on e xs) (first_on ys e) = record { first = omega (arith, low, inside); second = omega (arith, low', inside, ring.same) } in
    let way : IsWay (joined (last_on e xs) (first_on ys e) t) e (xs ++ ys) e =
    way_cut t e c e xs ys here (closed_once e (xs ++ ys) less clear) clear parts.before parts.after in
    ring_of t (joined (last_on e xs) (first_on ys e) t) (xs ++ ys) (end-joined t (last_on e xs) (first_on ys e))
    (same-joined t (last_on e xs) (first_on ys e) ring.same) way less none

pub removed : (t u : LinkTables) (c p n : ℕ) → u ≡ joined p n t → p ≡ prev_of t c → n ≡ next_of t c → p ≤ end_of t → n ≤ end_of t → c < end_of t → Removes c t u
removed t u c p n is before after low low' inside xs ys ring =
    let e = end_of t in
    let parts : AreParts t e c e xs ys = way_parts t e c e xs ys ring.way in
    let last : p ≡ last_on e xs = before ∙ last_is t e c xs parts.before in
    let first : n ≡ first_on ys e = after ∙ first_is t c e ys parts.after in
    let made : u ≡ joined (last_on e xs) (first_on ys e) t = is ∙ ap₂ (λ (a b : ℕ). joined a b t) last first in
    subst (λ (v : LinkTables). IsRing v (xs ++ ys)) (sym made)
    (cut_ring t c xs ys (omega (arith, last, low)) (omega (arith, first, low')) inside parts ring)

more_ring : (t : LinkTables) (c : ℕ) (xs : List ℕ) → last_on (end_of t) xs ≤ end_of t → c < end_of t → times c xs ≡ 0 → IsRing t xs → IsRing (joined c (end_of t) (joined (last_on (end_of t) xs) c t)) (xs ++ c ∷ [])
more_ring t c xs low inside new ring =
    let e = end_of t in
    let l = last_on e xs in
    let u : LinkTables = joined l c t in
    let sum : (x : ℕ) → times x (xs ++ c ∷ []) ≡ times x xs + times x (c ∷ []) = λ x. times-append x xs (c ∷ []) in
    let none : (x : ℕ) → end_of t ≤ x → times x (xs ++ c ∷ []) ≡ 0 =
    λ x past. omega (arith, sum x, ring.inside x past, times_other x c [] (λ same. omega (arith, same, past, inside))) in
    let less : (x : ℕ) → times x (xs ++ c ∷ []) ≤ 1 = λ x. elim (cases_eq c x) [
      | inl same ↦ omega (arith, sum x, times_same x c [] same, subst (λ (y : ℕ). times y xs ≡ 0) same new)
      | inr other ↦ omega (arith, sum x, times_other x c [] other, ring.once x)
    ] in
    let clear : times e xs ≡ 0 = ring.inside e (omega arith) in
    let apart : times c (e ∷ xs) ≡ 0 = times_other c e xs (λ same. omega (arith, same, inside)) ∙ new in
    let here : AreIn t l c = record { first = omega (arith, low, inside); second = omega (arith, inside, ring.same) } in
    let here' : AreIn t c e = record { first = omega (arith, inside); second = omega (arith, inside, ring.same) } in
    let way : IsWay (joined c e u) e (xs ++ c ∷ []) e =
    way_more t e c e xs here here' (closed_once e xs ring.once clear) apart (λ same. omega (arith, same, inside)) clear ring.way in
    ring_of t (joined c e u) (xs ++ c ∷ []) (end-joined u c e ∙ end-joined t l c)
    (same-joined u c e (same-joined t l c ring.same)) way less none

pub appended : (t u v : LinkTables) (c l e : ℕ) → u ≡ joined l c t → v ≡ joined c e u → e ≡ end_of t → l ≡ prev_of t e → l ≤ end_of t → c < end_of t → Appends c t v
appended t u v c l e first second end last low inside xs ring new =
    let final : l ≡ last_on (end_of t) xs =
    last ∙ ap (λ (x : ℕ). prev_of t x) end ∙ last_is t (end_of t) (end_of t) xs ring.way in
    let made : v ≡ joined c (end_of t) (joined (last_on (end_of t) xs) c t) =
    second ∙ ap (λ (x : ℕ). joined c x u) end ∙ ap (λ (w : LinkTables). joined c (end_of t) w) (first ∙ ap (λ (x : ℕ). joined x c t) final) in
    subst (λ (w : LinkTables). IsRing w (xs ++ c ∷ [])) (sym made) (more_ring t c xs (omega (arith, final, low)) inside new ring)
