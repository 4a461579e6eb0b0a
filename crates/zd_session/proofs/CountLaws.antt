-- The entries to come, as pieces are entered.
use Rattle.std.proofs.Common.{◌≡◌, inl, inr, ℕ, ◌+◌, ◌≤◌, Bool, true, false, not, ◌&&◌, ◌||◌, cond, eqb, List, [], ◌∷◌, ◌++◌, length, map, count_by, refl, sym, ap, ◌∙◌, subst, arith}
use Rattle.std.proofs.lemmas.Bool.{and_from, and_parts, eq-eqb, false≢true, or_left}
use Rattle.std.proofs.lemmas.List.Sums.{length-filter, sum_by-cons}
use Rattle.std.proofs.lemmas.List.Folds.{list_any-append}
use Rattle.std.specs.List.{list_any}
use Rattle.zd_steps.proofs.MemberLaws.{In, filter-in, in-any}
use Rattle.zd_model.specs.History.{Mark, mark_of_piece}
use Rattle.zd_model.specs.declared.requests.Piece.{Piece}
use Rattle.zd_steps.specs.Runs.{Run, eligible_flushes, flies, flushes, holds_back, is_eligible, is_eligible_flush, is_entered, is_held, is_mark_of}
use Rattle.zd_session.specs.Sessions.{entries_to_come}

abbrev one : Bool → ℕ
one b = cond b 1 0

one_split : (a b c : Bool) → (b ≡ true → a ≡ true) → (c ≡ true → a ≡ true) → (b ≡ true → c ≡ true → ⊥)
    → one b + one c ≤ one a
one_split true true true first second apart = absurd (apart refl refl)
one_split true true false first second apart = omega arith
one_split true false true first second apart = omega arith
one_split true false false first second apart = omega arith
one_split false true c first second apart = absurd (false≢true (first refl))
one_split false false true first second apart = absurd (false≢true (second refl))
one_split false false false first second apart = omega arith

in-map : {X Y : Type 0} (f : X → Y) (x : X) (xs : List X) → In x xs → In (f x) (map f xs)
in-map f x [] is = is
in-map f x (y ∷ ys) (inl same) = inl (ap f same)
in-map f x (y ∷ ys) (inr later) = inr (in-map f x ys later)

-- an eligible flush isn't entered
flush_to_come : (r : Run) (x : Piece) → is_eligible_flush r x ≡ true → not (is_entered r x) ≡ true
flush_to_come r x is =
    let eligible = (and_parts (flushes x) (is_eligible r x) is).1 in
    let all = and_parts (not (is_entered r x) && not (flies r x) && not (list_any (holds_back r x) r.pieces)) (not (is_held r x)) eligible in
    let three = and_parts (not (is_entered r x) && not (flies r x)) (not (list_any (holds_back r x) r.pieces)) all.0 in
    (and_parts (not (is_entered r x)) (not (flies r x)) three.0).0

-- two tests that exclude each other pass together no more often than one that is wider than both
count_split : {X : Type 0} (f g h : X → Bool) (xs : List X) → ((x : X) → In x xs → g x ≡ true → f x ≡ true)
    → ((x : X) → In x xs → h x ≡ true → f x ≡ true) → ((x : X) → In x xs → g x ≡ true → h x ≡ true → ⊥)
    → count_by g xs + count_by h xs ≤ count_by f xs
count_split f g h [] first second apart = omega arith
count_split {X} f g h (x ∷ xs) first second apart =
    let rest = count_split f g h xs (λ y is. first y (inr is)) (λ y is. second y (inr is)) (λ y is. apart y (inr is)) in
    let here = one_split (f x) (g x) (h x) (first x (inl refl)) (second x (inl refl)) (apart x (inl refl)) in
    let of_f = sum_by-cons (λ (y : X). one (f y)) x xs in
    let of_g = sum_by-cons (λ (y : X). one (g y)) x xs in
    let of_h = sum_by-cons (λ (y : X). one (h y)) x xs in
    omega (arith, rest, here, of_f, of_g, of_h)

-- one that stands there counts
count_there : {X : Type 0} (f : X → Bool) (xs : List X) (x : X) → In x xs → f x ≡ true → 1 ≤ count_by f xs
count_there f [] x is passes = absurd is
count_there {X} f (y ∷ ys) x (inl same) passes =
    let at : one (f y) ≡ 1 = ap one (ap f same ∙ passes) in
    let all = sum_by-cons (λ (z : X). one (f z)) y ys in
    omega (arith, at, all)
count_there {X} f (y ∷ ys) x (inr later) passes =
    let rest = count_there f ys x later passes in
    let all = sum_by-cons (λ (z : X). one (f z)) y ys in
    omega (arith, rest, all)

-- a piece is its own
own_mark : (p : Piece) → is_mark_of p (mark_of_piece p) ≡ true
own_mark p =
    and_from (eqb p.request p.request) (eqb p.piece p.piece) (eq-eqb p.request p.request refl) (eq-eqb p.piece p.piece refl)

module _ (old new : Run) (more : List Mark) (pieces : new.pieces ≡ old.pieces) (entered : new.entered ≡ old.entered ++ more) where
  -- what is entered then: what was, and what is added
  entered_then : (x : Piece) → is_entered new x ≡ (is_entered old x || list_any (is_mark_of x) more)
  entered_then x = ap (list_any (is_mark_of x)) entered ∙ list_any-append (is_mark_of x) old.entered more

  still_to_come : (x : Piece) → not (is_entered new x) ≡ true → not (is_entered old x) ≡ true
  still_to_come x to_come = by (is_entered old x) (list_any (is_mark_of x) more)
      (ap not (sym (entered_then x)) ∙ to_come)
    where
      by : (a b : Bool) → not (a || b) ≡ true → not a ≡ true
      by true b is = is
      by false b is = refl

  not_added : (x : Piece) → not (is_entered new x) ≡ true → list_any (is_mark_of x) more ≡ true → ⊥
  not_added x to_come added = by (is_entered old x) (list_any (is_mark_of x) more)
      (ap not (sym (entered_then x)) ∙ to_come) added
    where
      by : (a b : Bool) → not (a || b) ≡ true → b ≡ true → ⊥
      by true b is said = false≢true is
      by false true is said = false≢true is
      by false false is said = false≢true said

  -- THE ENTRIES TO COME are fewer by those that pass such a test
  fewer_to_come : (h : Piece → Bool) → ((x : Piece) → In x old.pieces → h x ≡ true → not (is_entered old x) ≡ true)
      → ((x : Piece) → In x old.pieces → h x ≡ true → list_any (is_mark_of x) more ≡ true)
      → entries_to_come new + count_by h old.pieces ≤ entries_to_come old
  fewer_to_come h was added =
      subst (λ (ps : List Piece). count_by (λ (p : Piece). not (is_entered new p)) ps + count_by h old.pieces ≤ entries_to_come old)
      (sym pieces)
      (count_split (λ (p : Piece). not (is_entered old p)) (λ (p : Piece). not (is_entered new p)) h old.pieces
      (λ x is to_come. still_to_come x to_come) was (λ x is to_come passes. not_added x to_come (added x is passes)))

  -- by one, where one is entered
  pub one_less_to_come : (p : Piece) → In p old.pieces → is_entered old p ≡ false → more ≡ mark_of_piece p ∷ []
      → entries_to_come new + 1 ≤ entries_to_come old
  one_less_to_come p there fresh is =
      let h : Piece → Bool = λ x. not (is_entered old x) && list_any (is_mark_of x) more in
      let mine : h p ≡ true =
      and_from (not (is_entered old p)) (list_any (is_mark_of p) more) (ap not fresh)
      (ap (list_any (is_mark_of p)) is ∙ or_left (is_mark_of p (mark_of_piece p)) false (own_mark p)) in
      let all = fewer_to_come h
      (λ x at passes. (and_parts (not (is_entered old x)) (list_any (is_mark_of x) more) passes).0)
      (λ x at passes. (and_parts (not (is_entered old x)) (list_any (is_mark_of x) more) passes).1) in
      let some = count_there h old.pieces p there mine in
      omega (arith, all, some)

  -- by the flushes of a commit
  pub flushes_less_to_come : more ≡ map mark_of_piece (eligible_flushes old)
      → entries_to_come new + length (eligible_flushes old) ≤ entries_to_come old
  flushes_less_to_come is =
      let count = length-filter (is_eligible_flush old) old.pieces in
      let all = fewer_to_come (is_eligible_flush old)
      (λ x at passes. flush_to_come old x passes)
      (λ x at passes. ap (list_any (is_mark_of x)) is
      ∙ in-any (is_mark_of x) (mark_of_piece x) (map mark_of_piece (eligible_flushes old))
      (in-map mark_of_piece x (eligible_flushes old) (filter-in (is_eligible_flush old) x old.pieces at passes)) (own_mark x)) in
      omega (arith, all, count)

-- the same are to come where no more are entered
pub same_to_come : (old new : Run) → new.pieces ≡ old.pieces → new.entered ≡ old.entered
    → entries_to_come new ≡ entries_to_come old
same_to_come old new pieces entered =
    ap (λ (ps : List Piece). count_by (λ (p : Piece). not (list_any (is_mark_of p) new.entered)) ps) pieces
    ∙ ap (λ (ms : List Mark). count_by (λ (p : Piece). not (list_any (is_mark_of p) ms)) old.pieces) entered

-- one that isn't entered is to come, and so are all flushes of a commit
pub some_to_come : (r : Run) (p : Piece) → In p r.pieces → is_entered r p ≡ false → 1 ≤ entries_to_come r
some_to_come r p there fresh = count_there (λ (x : Piece). not (is_entered r x)) r.pieces p there (ap not fresh)

pub flushes_to_come : (r : Run) → length (eligible_flushes r) ≤ entries_to_come r
flushes_to_come r =
    let none : Piece → Bool = λ x. false in
    let all = count_split (λ (p : Piece). not (is_entered r p)) none (is_eligible_flush r) r.pieces
    (λ x at is. absurd (false≢true is)) (λ x at passes. flush_to_come r x passes) (λ x at is passes. false≢true is) in
    let count = length-filter (is_eligible_flush r) r.pieces in
    omega (arith, all, count)
