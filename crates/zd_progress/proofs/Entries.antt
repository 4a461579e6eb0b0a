-- Entries more.
use Rattle.std.proofs.Common.{◌≡◌, inl, inr, ℕ, zero, suc, ◌+◌, ◌-◌, ◌≤◌, List, [], ◌∷◌, ◌++◌, length, slice_index}
use Rattle.std.proofs.Common.{refl, ap}
use Rattle.std.proofs.Common.{◌∙◌, arith, length-append}
use Rattle.std.proofs.lemmas.Bool.{cases_lt}
use Rattle.std.proofs.lemmas.List.{get_or_append_left, get_or-append_right}
use Rattle.zd_progress.specs.Paces.{AreClose, at_before, with_entries}

same_before : (ats : List ℕ) (at i : ℕ) → i ≤ length ats → at_before (ats ++ at ∷ []) i ≡ at_before ats i
same_before ats at zero few = refl
same_before ats at (suc i) few = get_or_append_left ats (at ∷ []) 0 i (omega (arith, few))

at_end : (ats : List ℕ) (at : ℕ) → slice_index (ats ++ at ∷ []) (length ats) ≡ at
at_end ats at = get_or-append_right ats (at ∷ []) (length ats) (length ats) 0 refl (omega arith)
    ∙ (let z : length ats - length ats ≡ 0 = omega arith in rw z refl)

close_one : (most at : ℕ) (ats : List ℕ) → AreClose most ats → at ≤ at_before ats (length ats) + most
    → AreClose most (ats ++ at ∷ [])
close_one most at ats are near i inside = elim (cases_lt i (length ats)) [
  | inl less ↦
      let e : slice_index (ats ++ at ∷ []) i ≡ slice_index ats i =
      get_or_append_left ats (at ∷ []) 0 i less in
      omega (arith, are i less, e, same_before ats at i (omega (arith, less)))
  | inr past ↦
      let here : i ≡ length ats = omega (arith, past, inside, length-append ats (at ∷ [])) in
      rw here (omega (arith, at_end ats at, near, same_before ats at (length ats) (omega arith)))
]

last_one : (at : ℕ) (ats : List ℕ) → at_before (ats ++ at ∷ []) (length (ats ++ at ∷ [])) ≡ at
last_one at ats =
    let n : length (ats ++ at ∷ []) ≡ suc (length ats) = omega (arith, length-append ats (at ∷ [])) in
    ap (at_before (ats ++ at ∷ [])) n ∙ at_end ats at

pub last_of : (at n : ℕ) (ats : List ℕ)
    → at_before (with_entries at (suc n) ats) (length (with_entries at (suc n) ats)) ≡ at
last_of at n ats = last_one at (with_entries at n ats)

pub count_of : (at n : ℕ) (ats : List ℕ) → length (with_entries at n ats) ≡ length ats + n
count_of at zero ats = omega arith
count_of at (suc n) ats = omega (arith, count_of at n ats, length-append (with_entries at n ats) (at ∷ []))

pub close_more : (most at n : ℕ) (ats : List ℕ) → AreClose most ats → at ≤ at_before ats (length ats) + most
    → AreClose most (with_entries at n ats)
close_more most at zero ats are near = are
close_more most at (suc zero) ats are near = close_one most at ats are near
close_more most at (suc (suc n)) ats are near =
    close_one most at (with_entries at (suc n) ats) (close_more most at (suc n) ats are near)
    (omega (arith, last_of at n ats))
