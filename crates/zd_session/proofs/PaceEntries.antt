-- The entries to come, exactly: a piece that is entered makes them one fewer, the flushes of a commit as many as they
-- are; and the numbers of the calls at which pieces were entered.
use Rattle.std.proofs.Common.{◌≡◌, inl, inr, ℕ, zero, suc, ◌+◌, ◌<◌, ◌≤◌, Bool, true, false, not, ◌&&◌, ◌||◌, cond, eqb, List, [], ◌∷◌, ◌++◌, length, map, count_by, slice_get, Some, refl, sym, ap, ◌∙◌, subst, arith}
use Rattle.std.proofs.lemmas.Bool.{and_parts, cases_Bool, eqb-true, false≢true, true≢false}
use Rattle.std.proofs.lemmas.List.{append-nil, append_assoc, map-append}
use Rattle.std.proofs.lemmas.List.Folds.{list_any-append}
use Rattle.std.proofs.lemmas.List.Sums.{sum_by-cons}
use Rattle.std.specs.List.{list_all, list_any}
use Rattle.zd_model.specs.History.{HistoryEntry, Mark, mark_of_piece}
use Rattle.zd_model.specs.Plain.{Answer}
use Rattle.zd_model.specs.declared.requests.Piece.{Piece}
use Rattle.zd_progress.specs.Paces.{with_entries}
use Rattle.zd_steps.specs.Queues.{AreInOrder}
use Rattle.zd_steps.specs.Runs.{Run, eligible_flushes, is_entered, is_mark_of, is_over}
use Rattle.zd_steps.proofs.EnteredLaws.{same_place}
use Rattle.zd_steps.proofs.MemberLaws.{In}
use Rattle.zd_volume.specs.Commits.{flush_entries}
use Rattle.zd_session.specs.LoneSessions.{ats_of}
use Rattle.zd_session.specs.Sessions.{entries_to_come}
use Rattle.zd_session.proofs.CountLaws.{flushes_less_to_come, one_less_to_come}

abbrev one : Bool → ℕ
one b = cond b 1 0

-- COUNTS by wider tests
one_wider : (a b c : Bool) → (a ≡ true → (b || c) ≡ true) → one a ≤ one b + one c
one_wider true true c wider = omega arith
one_wider true false true wider = omega arith
one_wider true false false wider = absurd (false≢true (wider refl))
one_wider false b c wider = omega arith

count_wider : {X : Type 0} (f g h : X → Bool) (xs : List X) → ((x : X) → f x ≡ true → (g x || h x) ≡ true)
    → count_by f xs ≤ count_by g xs + count_by h xs
count_wider f g h [] wider = omega arith
count_wider {X} f g h (x ∷ xs) wider =
    let rest = count_wider f g h xs wider in
    let here = one_wider (f x) (g x) (h x) (wider x) in
    let of_f = sum_by-cons (λ (y : X). one (f y)) x xs in
    let of_g = sum_by-cons (λ (y : X). one (g y)) x xs in
    let of_h = sum_by-cons (λ (y : X). one (h y)) x xs in
    omega (arith, rest, here, of_f, of_g, of_h)

pub count_no : {X : Type 0} (f : X → Bool) (xs : List X) → ((k : ℕ) (x : X) → slice_get xs k ≡ Some x → f x ≡ true → ⊥)
    → count_by f xs ≡ 0
count_no f [] none = refl
count_no {X} f (x ∷ xs) none = elim (cases_Bool (f x)) [
  | inl ok ↦ absurd (none zero x refl ok)
  | inr ng ↦
      let rest = count_no f xs (λ k y at. none (suc k) y at) in
      let here : one (f x) ≡ 0 = ap one ng in
      let all = sum_by-cons (λ (y : X). one (f y)) x xs in
      omega (arith, rest, here, all)
]

-- where no two places pass, one does at most
count_once : {X : Type 0} (f : X → Bool) (xs : List X) → ((i j : ℕ) (x y : X) → i < j → slice_get xs i ≡ Some x
    → slice_get xs j ≡ Some y → f x ≡ true → f y ≡ true → ⊥) → count_by f xs ≤ 1
count_once f [] apart = omega arith
count_once {X} f (x ∷ xs) apart =
    let all = sum_by-cons (λ (y : X). one (f y)) x xs in
    elim (cases_Bool (f x)) [
      | inl ok ↦
          let rest = count_no f xs (λ k y at is. apart zero (suc k) x y (omega arith) refl at ok is) in
          let here : one (f x) ≡ 1 = ap one ok in
          omega (arith, rest, here, all)
      | inr ng ↦
          let rest = count_once f xs (λ i j y z low at_i at_j. apart (suc i) (suc j) y z (omega (arith, low)) at_i at_j) in
          let here : one (f x) ≡ 0 = ap one ng in
          omega (arith, rest, here, all)
    ]

-- A MARK is that of one piece of a script at most
mark_once : (pieces : List Piece) → AreInOrder pieces → (m : Mark) → count_by (λ (x : Piece). is_mark_of x m) pieces ≤ 1
mark_once pieces order m = count_once (λ (x : Piece). is_mark_of x m) pieces (λ i j x y low at_i at_j is_x is_y.
    let of_x = and_parts (eqb m.request x.request) (eqb m.piece x.piece) is_x in
    let of_y = and_parts (eqb m.request y.request) (eqb m.piece y.piece) is_y in
    let same = same_place pieces order i j x y at_i at_j
    (sym (eqb-true m.request x.request of_x.0) ∙ eqb-true m.request y.request of_y.0)
    (sym (eqb-true m.piece x.piece of_x.1) ∙ eqb-true m.piece y.piece of_y.1) in
    omega (arith, low, same))

-- so many marks are those of no more pieces
marks_few : (pieces : List Piece) → AreInOrder pieces → (list : List Mark)
    → count_by (λ (x : Piece). list_any (is_mark_of x) list) pieces ≤ length list
marks_few pieces order [] =
    let none = count_no (λ (x : Piece). list_any (is_mark_of x) []) pieces (λ k x at is. false≢true is) in
    omega (arith, none)
marks_few pieces order (m ∷ list) =
    let first = mark_once pieces order m in
    let rest = marks_few pieces order list in
    let both = count_wider (λ (x : Piece). list_any (is_mark_of x) (m ∷ list)) (λ (x : Piece). is_mark_of x m)
    (λ (x : Piece). list_any (is_mark_of x) list) pieces (λ x is. is) in
    omega (arith, first, rest, both)

module _ (old new : Run) (more : List Mark) (pieces : new.pieces ≡ old.pieces)
    (entered : new.entered ≡ old.entered ++ more) (order : AreInOrder old.pieces) where
  entered_by : (a b : Bool) → not a ≡ true → (not (a || b) || b) ≡ true
  entered_by true b left = absurd (false≢true left)
  entered_by false true left = refl
  entered_by false false left = refl

  -- no more than those that are added
  not_fewer : entries_to_come old ≤ entries_to_come new + length more
  not_fewer =
      let few = marks_few old.pieces order more in
      let wide = count_wider (λ (x : Piece). not (is_entered old x)) (λ (x : Piece). not (is_entered new x))
      (λ (x : Piece). list_any (is_mark_of x) more) old.pieces (λ x left.
      subst (λ (b : Bool). (not b || list_any (is_mark_of x) more) ≡ true)
      (sym (ap (list_any (is_mark_of x)) entered ∙ list_any-append (is_mark_of x) old.entered more))
      (entered_by (is_entered old x) (list_any (is_mark_of x) more) left)) in
      let same : count_by (λ (x : Piece). not (is_entered new x)) old.pieces ≡ entries_to_come new =
      ap (λ (ps : List Piece). count_by (λ (x : Piece). not (is_entered new x)) ps) (sym pieces) in
      omega (arith, few, wide, same)

  -- ONE PIECE
  pub one_less : (p : Piece) → In p old.pieces → is_entered old p ≡ false → more ≡ mark_of_piece p ∷ []
      → entries_to_come new + 1 ≡ entries_to_come old
  one_less p there fresh is =
      let low = one_less_to_come old new more pieces entered p there fresh is in
      let high = not_fewer in
      let single : length more ≡ 1 = ap length is in
      omega (arith, low, high, single)

  -- THE FLUSHES OF A COMMIT
  pub flushes_less : more ≡ map mark_of_piece (eligible_flushes old)
      → entries_to_come new + length (eligible_flushes old) ≡ entries_to_come old
  flushes_less is =
      let low = flushes_less_to_come old new more pieces entered is in
      let high = not_fewer in
      let size : length more ≡ length (eligible_flushes old) =
      ap length is ∙ same_length (eligible_flushes old) in
      omega (arith, low, high, size)
    where
      same_length : (list : List Piece) → length (map mark_of_piece list) ≡ length list
      same_length [] = refl
      same_length (p ∷ list) = (let rest = same_length list in omega (arith, rest))

-- WHAT IS LEFT: some piece isn't entered exactly where not all are
count_left : {X : Type 0} (f : X → Bool) (xs : List X) → list_all f xs ≡ false
    → 0 < count_by (λ (x : X). not (f x)) xs
count_left f [] off = absurd (true≢false off)
count_left {X} f (x ∷ xs) off =
    let all = sum_by-cons (λ (y : X). one (not (f y))) x xs in
    elim (cases_Bool (f x)) [
      | inl ok ↦
          let rest = count_left f xs (sym (ap (λ (b : Bool). b && list_all f xs) ok) ∙ off) in
          omega (arith, rest, all)
      | inr ng ↦ (let here : one (not (f x)) ≡ 1 = ap (λ (b : Bool). one (not b)) ng in omega (arith, here, all))
    ]

count_over : {X : Type 0} (f : X → Bool) (xs : List X) → list_all f xs ≡ true → count_by (λ (x : X). not (f x)) xs ≡ 0
count_over f [] is = refl
count_over {X} f (x ∷ xs) is =
    let both = and_parts (f x) (list_all f xs) is in
    let all = sum_by-cons (λ (y : X). one (not (f y))) x xs in
    let rest = count_over f xs both.1 in
    let here : one (not (f x)) ≡ 0 = ap (λ (b : Bool). one (not b)) both.0 in
    omega (arith, rest, here, all)

pub some_left : (r : Run) → is_over r ≡ false → 0 < entries_to_come r
some_left r left = count_left (is_entered r) r.pieces left

pub none_left : (r : Run) → is_over r ≡ true → entries_to_come r ≡ 0
none_left r over = count_over (is_entered r) r.pieces over

-- before any entry all are to come
pub all_to_come : (r : Run) → r.entered ≡ [] → entries_to_come r ≡ length r.pieces
all_to_come r none =
    ap (λ (ms : List Mark). count_by (λ (p : Piece). not (list_any (is_mark_of p) ms)) r.pieces) none ∙ every r.pieces
  where
    every : (ps : List Piece) → count_by (λ (p : Piece). not (list_any (is_mark_of p) [])) ps ≡ length ps
    every [] = refl
    every (p ∷ ps) =
        let rest = every ps in
        let all = sum_by-cons (λ (x : Piece). one (not (list_any (is_mark_of x) []))) p ps in
        omega (arith, rest, all)

-- THE NUMBERS OF CALLS
pub ats_one : (h : List HistoryEntry) (e : HistoryEntry) → ats_of (h ++ e ∷ []) ≡ with_entries e.at 1 (ats_of h)
ats_one h e = map-append (λ (x : HistoryEntry). x.at) h (e ∷ [])

-- the last entries with one number, or the first of them before the others
entries_shift : (at n : ℕ) (ats : List ℕ) → with_entries at n (ats ++ at ∷ []) ≡ with_entries at (suc n) ats
entries_shift at zero ats = refl
entries_shift at (suc n) ats = ap (λ (xs : List ℕ). xs ++ at ∷ []) (entries_shift at n ats)

same_after : (at : ℕ) (reply : Answer) (list : List Piece) (ats : List ℕ)
    → ats ++ ats_of (flush_entries reply at list) ≡ with_entries at (length list) ats
same_after at reply [] ats = append-nil ats
same_after at reply (p ∷ list) ats =
    sym (append_assoc ats (at ∷ []) (ats_of (flush_entries reply at list)))
    ∙ same_after at reply list (ats ++ at ∷ [])
    ∙ entries_shift at (length list) ats

pub ats_flushed : (h : List HistoryEntry) (reply : Answer) (at : ℕ) (list : List Piece)
    → ats_of (h ++ flush_entries reply at list) ≡ with_entries at (length list) (ats_of h)
ats_flushed h reply at list =
    map-append (λ (x : HistoryEntry). x.at) h (flush_entries reply at list) ∙ same_after at reply list (ats_of h)
