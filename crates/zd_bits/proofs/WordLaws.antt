-- Words of 64 blocks: read from bytes, turned, and searched for their first 1.
use Rattle.std.proofs.Common.{◌≡◌, inl, inr, ℕ, zero, suc, ◌+◌, ◌-◌, ◌*◌, ◌/◌, ◌%◌, ◌<◌, ◌≤◌, ◌^◌, Bool, true, false, not, List, get_or, min, eqb, w64, bit_and, refl, sym, ap, ap₂, ◌∙◌, arith}
use Rattle.std.specs.Int.{bit_at, bit_not, sum_through, byte_worth, trailing_zeros}
use Rattle.std.specs.Int.Count.{trailing_of_zero}
use Rattle.std.proofs.Math.Nat.{pow-suc}
use Rattle.std.proofs.lemmas.Bool.{cases_lt, cases_eq}
use Rattle.std.proofs.lemmas.Nat.{pow-add, mul-add-lt, and_le_l}
use Rattle.std.proofs.lemmas.Nat.Bits.{bit_at-lt, bit_at-zero, bit_at_and, bit_at_not, bit_at_cat_low, bit_at_cat_high, bit_at_mask_inside, bit_at_mask_below, bit_at-trailing_zeros}
use Rattle.zd_model.specs.Tables.{is_set}
use Rattle.zd_bits.specs.Bits.{AllAre, IsFirst}
use Rattle.zd_bits.specs.Words.{IsWord, IsFirstOne}

power_more : (m : ℕ) → 2 ^ (8 * suc m) ≡ 2 ^ (8 * m) * 256
power_more m =
    let e : 8 * suc m ≡ 8 * m + 8 = omega arith in
    rw e (pow-add 2 (8 * m) 8)

power : (i : ℕ) → 256 ^ i ≡ 2 ^ (8 * i)
power zero = refl
power (suc i) = pow-suc 256 i ∙ ap (λ (x : ℕ). x * 256) (power i) ∙ sym (power_more i)

-- the number that the bytes f 0 to f m stand for
abbrev number : (ℕ → ℕ) → ℕ → ℕ
number f m = sum_through (λ i. byte_worth i (f i)) m

number_more : (f : ℕ → ℕ) (m : ℕ) → number f (suc m) ≡ f (suc m) * 2 ^ (8 * suc m) + number f m
number_more f m =
    let e : f (suc m) * 256 ^ suc m ≡ f (suc m) * 2 ^ (8 * suc m) = ap (λ (x : ℕ). f (suc m) * x) (power (suc m)) in
    omega (arith, e)

number_fits : (f : ℕ → ℕ) → ((j : ℕ) → f j < 2 ^ 8) → (m : ℕ) → number f m < 2 ^ (8 * suc m)
number_fits f fits zero = fits 0
number_fits f fits (suc m) =
    rw (number_more f m, power_more (suc m))
    (mul-add-lt (f (suc m)) (2 ^ (8 * suc m)) (number f m) 256 (fits (suc m)) (number_fits f fits m))

-- bit k is bit k % 8 of byte k / 8
number_bits : (f : ℕ → ℕ) → ((j : ℕ) → f j < 2 ^ 8) → (m k : ℕ) → k < 8 * suc m → bit_at (number f m) k ≡ bit_at (f (k / 8)) (k % 8)
number_bits f fits zero k small =
    let byte : k / 8 ≡ 0 = omega arith in
    let place : k % 8 ≡ k = omega arith in
    rw (byte, place)
number_bits f fits (suc m) k small =
    ap (λ (x : ℕ). bit_at x k) (number_more f m)
    ∙ elim (cases_lt k (8 * suc m)) [
      | inl low ↦ bit_at_cat_low (f (suc m)) (8 * suc m) (number f m) k low ∙ number_bits f fits m k low
      | inr high ↦
          let byte : suc m ≡ k / 8 = omega arith in
          let place : k - 8 * suc m ≡ k % 8 = omega arith in
          bit_at_cat_high (f (suc m)) (8 * suc m) (number f m) k (number_fits f fits m) high
          ∙ ap₂ (λ (x y : ℕ). bit_at (f x) y) byte place
    ]

number_same : (f g : ℕ → ℕ) (m : ℕ) → ((j : ℕ) → j ≤ m → f j ≡ g j) → number f m ≡ number g m
number_same f g zero same = same 0 (omega arith)
number_same f g (suc m) same =
    ap₂ (λ (x y : ℕ). x + y * 256 ^ suc m)
    (number_same f g m (λ j low. same j (omega arith)))
    (same (suc m) (omega arith))

-- eight bytes read as a number are the word of their blocks
pub word_is : (bits bytes : List ℕ) (i w : ℕ) → ((j : ℕ) → get_or bits j 0 < 2 ^ 8) → ((j : ℕ) → j < 8 → get_or bytes j 0 ≡ get_or bits (8 * i + j) 0) → w ≡ sum_through (λ j. byte_worth j (get_or bytes j 0)) 7 → IsWord bits true i w
word_is bits bytes i w fits same e =
    let f : ℕ → ℕ = λ j. get_or bits (8 * i + j) 0 in
    let is : w ≡ number f 7 = e ∙ number_same (λ j. get_or bytes j 0) f 7 (λ j low. same j (omega arith)) in
    let bit : (k : ℕ) → k < 64 → is_set bits (64 * i + k) ≡ eqb (bit_at w k) 1 = λ k small.
    let byte : (64 * i + k) / 8 ≡ 8 * i + k / 8 = omega arith in
    let place : (64 * i + k) % 8 ≡ k % 8 = omega arith in
    let here : bit_at w k ≡ bit_at (f (k / 8)) (k % 8) = ap (λ (x : ℕ). bit_at x k) is ∙ number_bits f (λ j. fits (8 * i + j)) 7 k (omega arith) in
    rw (byte, place) (ap (λ (x : ℕ). eqb x 1) (sym here)) in
    record {
      ones = λ k small one. bit k small ∙ ap (λ (x : ℕ). eqb x 1) one;
      zeros = λ k small none. bit k small ∙ ap (λ (x : ℕ). eqb x 1) none;
    }

-- the word of the blocks that have the other bit
pub word_turned : (bits : List ℕ) (i w : ℕ) → w < 2 ^ 64 → IsWord bits true i w → IsWord bits false i (bit_not w64 w)
word_turned bits i w fits is = record {
  ones = λ k small one.
      let none : bit_at w k ≡ 0 = omega (arith, bit_at_not w64 w k fits small, bit_at-lt w k) in
      is.zeros k small none;
  zeros = λ k small none.
      let one : bit_at w k ≡ 1 = omega (arith, bit_at_not w64 w k fits small, bit_at-lt w k) in
      is.ones k small one;
}

-- the lowest 1 of a word without its bits below `low`
pub first_one_is : (w low : ℕ) → low < 64 → w < 2 ^ 64 → IsFirstOne w low (trailing_zeros w64 (bit_and w (2 ^ 64 - 2 ^ low)))
first_one_is w low inside fits =
    let m : ℕ = bit_and w (2 ^ 64 - 2 ^ low) in
    let same : (k : ℕ) → low ≤ k → k < 64 → bit_at w k ≡ bit_at m k = λ k above small.
    omega (arith, bit_at_and w (2 ^ 64 - 2 ^ low) k, bit_at_mask_inside low 64 k above small, bit_at-lt w k) in
    let none : (k : ℕ) → k < low → bit_at m k ≡ 0 = λ k below.
    omega (arith, bit_at_and w (2 ^ 64 - 2 ^ low) k, bit_at_mask_below low 64 k below) in
    elim (cases_eq m 0) [
      | inl e ↦
          let all : trailing_zeros w64 m ≡ 64 = ap (trailing_zeros w64) e ∙ trailing_of_zero 64 in
          record {
            low = omega arith;
            high = omega arith;
            before = λ j above below. same j above (omega arith) ∙ ap (λ (x : ℕ). bit_at x j) e ∙ bit_at-zero j;
            there = λ below. absurd (omega arith);
          }
      | inr some ↦
          let fits_too : m < 2 ^ 64 = omega (arith, and_le_l w (2 ^ 64 - 2 ^ low)) in
          let t = bit_at-trailing_zeros w64 m (omega arith) fits_too in
          let not_below : low ≤ trailing_zeros w64 m = elim (cases_lt (trailing_zeros w64 m) low) [
            | inl less ↦ absurd (omega (arith, none (trailing_zeros w64 m) less, t.1))
            | inr more ↦ more
          ] in
          record {
            low = not_below;
            high = omega (arith, t.0);
            before = λ j above below. same j above (omega (arith, t.0)) ∙ t.2 j below;
            there = λ below. same (trailing_zeros w64 m) not_below below ∙ t.1;
          }
    ]

-- the blocks of a word before its first 1
pub word_passed : (bits : List ℕ) (bit : Bool) (i w from k : ℕ) → IsWord bits bit i w → IsFirstOne w (from - 64 * i) k → AllAre (not bit) bits from (64 * i) → AllAre (not bit) bits from (64 * i + k)
word_passed bits bit i w from k is first before n low high = elim (cases_lt n (64 * i)) [
  | inl less ↦ before n low less
  | inr more ↦
      let place : 64 * i + (n - 64 * i) ≡ n = omega arith in
      let here : is_set bits (64 * i + (n - 64 * i)) ≡ not bit =
      is.zeros (n - 64 * i) (omega (arith, first.high)) (first.before (n - 64 * i) (omega arith) (omega arith)) in
      ap (is_set bits) (sym place) ∙ here
]

-- the first 1 of a word is the block that was sought, or lies behind the end
pub word_found : (bits : List ℕ) (bit : Bool) (i w from end k : ℕ) → from ≤ end → k < 64 → IsWord bits bit i w → IsFirstOne w (from - 64 * i) k → AllAre (not bit) bits from (64 * i) → IsFirst bits from end bit (min (64 * i + k) end)
word_found bits bit i w from end k order inside is first before = record {
  low = omega (arith, first.low);
  high = omega arith;
  before = λ n low high. word_passed bits bit i w from k is first before n low (omega arith);
  there = λ high.
      let place : min (64 * i + k) end ≡ 64 * i + k = omega arith in
      ap (is_set bits) place ∙ is.ones k inside (first.there inside);
}
