-- Members of lists: what a test of any finds, what a filter keeps, what stands in a front.
use Rattle.std.proofs.Common.{◌≡◌, ◌⊎◌, ℕ, zero, suc, ◌<◌, Bool, true, false, cond, List, [], ◌∷◌, map, take, filter, slice_get, Some, refl, sym, ap, ◌∙◌, inl, inr, arith}
use Rattle.std.specs.List.{Contains, list_any}
use Rattle.std.proofs.lemmas.Bool.{or_cases, or_left, or_right, false≢true}
use Rattle.std.proofs.lemmas.Option.{none-some, same_Some, slice_get_within, get_or_from_slice_get}

abbrev pub In : {X : Type 0} → X → List X → Type 0
In x [] = ⊥
In x (y ∷ ys) = (y ≡ x) ⊎ In x ys

pub any-in : {X : Type 0} (test : X → Bool) (xs : List X) → list_any test xs ≡ true → (x : X) × In x xs × (test x ≡ true)
any-in test [] h = absurd (false≢true h)
any-in test (x ∷ xs) h =
    elim (or_cases (test x) (list_any test xs) h) [
      | inl e ↦ (x, inl refl, e)
      | inr t ↦ (let r = any-in test xs t in (r.0, inr r.1, r.2))
    ]

pub in-any : {X : Type 0} (test : X → Bool) (x : X) (xs : List X) → In x xs → test x ≡ true → list_any test xs ≡ true
in-any test x [] h t = absurd h
in-any test x (y ∷ ys) (inl e) t = or_left (test y) (list_any test ys) (ap test e ∙ t)
in-any test x (y ∷ ys) (inr h) t = or_right (test y) (list_any test ys) (in-any test x ys h t)

-- one element more, by its test
kept : {X : Type 0} (test : X → Bool) (x y : X) (ys : List X) (b : Bool) → test y ≡ b → (In x (filter test ys) → In x ys × (test x ≡ true)) → In x (cond b (y ∷ filter test ys) (filter test ys)) → In x (y ∷ ys) × (test x ≡ true)
kept test x y ys true e rest (inl s) = (inl s, ap test (sym s) ∙ e)
kept test x y ys true e rest (inr t) = let r = rest t in (inr r.0, r.1)
kept test x y ys false e rest t = let r = rest t in (inr r.0, r.1)

pub in-filter : {X : Type 0} (test : X → Bool) (x : X) (xs : List X) → In x (filter test xs) → In x xs × (test x ≡ true)
in-filter test x [] h = absurd h
in-filter test x (y ∷ ys) h = kept test x y ys (test y) refl (in-filter test x ys) h

first_kept : {X : Type 0} (test : X → Bool) (x y : X) (ys : List X) (b : Bool) → test y ≡ b → y ≡ x → test x ≡ true → In x (cond b (y ∷ filter test ys) (filter test ys))
first_kept test x y ys true s e t = inl e
first_kept test x y ys false s e t = absurd (false≢true (sym s ∙ ap test e ∙ t))

later_kept : {X : Type 0} (test : X → Bool) (x y : X) (ys : List X) (b : Bool) → In x (filter test ys) → In x (cond b (y ∷ filter test ys) (filter test ys))
later_kept test x y ys true h = inr h
later_kept test x y ys false h = h

pub filter-in : {X : Type 0} (test : X → Bool) (x : X) (xs : List X) → In x xs → test x ≡ true → In x (filter test xs)
filter-in test x [] h t = absurd h
filter-in test x (y ∷ ys) (inl e) t = first_kept test x y ys (test y) refl e t
filter-in test x (y ∷ ys) (inr h) t = later_kept test x y ys (test y) (filter-in test x ys h t)

-- a member of a front stands at a place below its end
pub in-front : {X Y : Type 0} (f : X → Y) (y : Y) (n : ℕ) (xs : List X) → In y (map f (take n xs)) → (k : ℕ) × (x : X) × (k < n) × (slice_get xs k ≡ Some x) × (f x ≡ y)
in-front f y zero xs h = absurd h
in-front f y (suc n) [] h = absurd h
in-front f y (suc n) (x ∷ xs) (inl e) = (zero, x, omega arith, refl, e)
in-front f y (suc n) (x ∷ xs) (inr h) =
    let r = in-front f y n xs h in
    let low = r.2 in
    (suc r.0, r.1, omega (arith, low), r.3, r.4)

pub front-in : {X Y : Type 0} (f : X → Y) (n k : ℕ) (xs : List X) (x : X) → k < n → slice_get xs k ≡ Some x → In (f x) (map f (take n xs))
front-in f zero k xs x l e = absurd (omega (arith, l))
front-in f (suc n) k [] x l e = absurd (none-some x e)
front-in f (suc n) zero (y ∷ ys) x l e = inl (ap f (same_Some y x e))
front-in f (suc n) (suc k) (y ∷ ys) x l e = inr (front-in f n k ys x (omega (arith, l)) e)

-- a member stands somewhere, and what stands somewhere is a member
pub in-place : {X : Type 0} (x : X) (xs : List X) → In x xs → (k : ℕ) × (slice_get xs k ≡ Some x)
in-place x [] h = absurd h
in-place x (y ∷ ys) (inl e) = (zero, ap Some e)
in-place x (y ∷ ys) (inr h) = let r = in-place x ys h in (suc r.0, r.1)

pub place-in : {X : Type 0} (x : X) (xs : List X) (k : ℕ) → slice_get xs k ≡ Some x → In x xs
place-in x [] k e = absurd (none-some x e)
place-in x (y ∷ ys) zero e = inl (same_Some y x e)
place-in x (y ∷ ys) (suc k) e = inr (place-in x ys k e)

-- a member as std says it
pub contains_at : {X : Type 0} (xs : List X) (k : ℕ) (x : X) → slice_get xs k ≡ Some x → Contains xs x
contains_at xs k x at = (k, slice_get_within xs k x at, get_or_from_slice_get xs k x x at)
