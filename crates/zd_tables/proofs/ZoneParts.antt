-- The parts of a zone's bitmap: one block, or two.
use Rattle.std.proofs.Common.{◌≡◌, ◌⊎◌, ℕ, ◌*◌, ◌^◌, ◌≤◌, Bool, true, false, ◌||◌, List, [], ◌∷◌, eqb, leb, inl, inr, refl, subst, arith}
use Rattle.std.proofs.lemmas.Bool.{eqb-true, leb-true, or_cases}
use Rattle.std.specs.List.{list_all, list_any}
use Rattle.zd_base.specs.Geometry.{IsShape, Shape, per}
use Rattle.zd_model.proofs.FaultLaws.{both}

abbrev is_fitting : ℕ → Bool
is_fitting b = leb b 32768 || eqb b 65536

by_test : (b k : ℕ) (rest : Bool) (t : Bool) → eqb (2 ^ k) b ≡ t → is_fitting (2 ^ k) ≡ true
    → (rest ≡ true → is_fitting b ≡ true) → (t || rest) ≡ true → is_fitting b ≡ true
by_test b k rest true same fits more h = subst (λ (n : ℕ). is_fitting n ≡ true) (eqb-true (2 ^ k) b same) fits
by_test b k rest false off fits more h = more h

one_of : (b : ℕ) (ks : List ℕ) → list_all (λ k. is_fitting (2 ^ k)) ks ≡ true
    → list_any (λ k. eqb (2 ^ k) b) ks ≡ true → is_fitting b ≡ true
one_of b [] all any = cc
one_of b (k ∷ ks) all any =
    let parts = both (is_fitting (2 ^ k)) (list_all (λ n. is_fitting (2 ^ n)) ks) all in
    by_test b k (list_any (λ n. eqb (2 ^ n) b) ks) (eqb (2 ^ k) b) refl parts.0 (one_of b ks parts.1) any

-- one part with a bit for each block, or two of 32,768 bits
pub one_or_two : (g : Shape) → IsShape g
    → ((g.zone_blocks ≤ 32768) × (per g ≡ 1)) ⊎ ((g.zone_blocks ≡ 65536) × (per g ≡ 2))
one_or_two g shape =
    elim (or_cases (leb g.zone_blocks 32768) (eqb g.zone_blocks 65536)
    (one_of g.zone_blocks (3 ∷ 4 ∷ 5 ∷ 6 ∷ 7 ∷ 8 ∷ 9 ∷ 10 ∷ 11 ∷ 12 ∷ 13 ∷ 14 ∷ 15 ∷ 16 ∷ []) refl
    shape.size.power)) [
      | inl small ↦ (let few = leb-true g.zone_blocks 32768 small in inl (few, omega (arith, few)))
      | inr large ↦ (let is = eqb-true g.zone_blocks 65536 large in inr (is, omega (arith, is)))
    ]

-- all bits together are enough
pub bits_room : (g : Shape) → IsShape g → g.zone_blocks ≤ 32768 * per g
bits_room g shape = elim (one_or_two g shape) [
  | inl one ↦ omega (arith, one.0, one.1)
  | inr two ↦ omega (arith, two.0, two.1)
]
