-- The weight of a longer range.
use Rattle.std.proofs.Common.{◌≡◌, ℕ, zero, suc, ◌+◌, ◌*◌, ◌/◌, ◌%◌, ◌<◌, ◌≤◌, ◌^◌, ◌≢◌, inl, inr, Bool, true, cond, eqb, List, ◌∷◌, ◌++◌, refl, sym, ap, ap₂, ◌∙◌, arith}
use Rattle.std.specs.List.{range_with_len, count_by}
use Rattle.std.specs.Int.{bit_at}
use Rattle.std.specs.Int.Count.{ones}
use Rattle.std.proofs.Math.Nat.{pow-suc}
use Rattle.std.proofs.lemmas.Bool.{cases_eq, eq-eqb}
use Rattle.std.proofs.lemmas.List.Sums.{sum_by-append, sum_by-cons}
use Rattle.std.proofs.lemmas.Nat.{ones-le, ones_cat, pow_pos, shr_split, zero_from_ones}
use Rattle.std.proofs.lemmas.Nat.Bits.{bit_at_lowest, bit_at-suc, bit_at-lt, bit_at_cat_low}
use Rattle.zd_model.specs.Tables.{is_set}
use Rattle.zd_bits.specs.Bits.{weight_of}
use Rattle.zd_bits.specs.Words.{IsWord}

pub range_split : (a m n : ℕ) → range_with_len a (m + n) ≡ range_with_len a m ++ range_with_len (a + m) n
range_split a zero n =
    let none : zero + n ≡ n = omega arith in
    let start : a ≡ a + zero = omega arith in
    rw none (ap (λ (x : ℕ). range_with_len x n) start)
range_split a (suc m) n =
    let more : suc m + n ≡ suc (m + n) = omega arith in
    let start : a + 1 + m ≡ a + suc m = omega arith in
    rw more (ap (λ (xs : List ℕ). a ∷ xs) (range_split (a + 1) m n ∙ ap (λ (x : ℕ). range_with_len (a + 1) m ++ range_with_len x n) start))

pub weight_none : (bits : List ℕ) → weight_of bits 0 ≡ 0
unfolding weight_of
weight_none bits = refl

-- the weight of a range and of the next n blocks
pub weight_split : (bits : List ℕ) (m n : ℕ) → weight_of bits (m + n) ≡ weight_of bits m + count_by (is_set bits) (range_with_len m n)
unfolding weight_of
weight_split bits m n =
    let start : zero + m ≡ m = omega arith in
    ap (count_by (is_set bits)) (range_split 0 m n)
    ∙ sum_by-append (λ (x : ℕ). cond (is_set bits x) 1 0) (range_with_len 0 m) (range_with_len (0 + m) n)
    ∙ ap (λ (x : ℕ). weight_of bits m + count_by (is_set bits) (range_with_len x n)) start

ones_of_bit : (v : ℕ) → v < 2 → ones v ≡ v
ones_of_bit v small =
    let most : ones v ≤ 1 = ones-le 1 v small in
    elim (cases_eq v 0) [
      | inl none ↦ let e : ones 0 ≤ 0 = ones-le 0 0 (omega arith) in rw none (omega arith)
      | inr one ↦
          let some : ones v ≢ 0 = λ e. one (zero_from_ones v e) in
          omega arith
    ]

bit_counted : (b : Bool) (x : ℕ) → x < 2 → b ≡ eqb x 1 → cond b 1 0 ≡ x
bit_counted b x small e = elim (cases_eq x 1) [
  | inl one ↦ rw (e, one)
  | inr other ↦ let none : x ≡ 0 = omega arith in rw (e, none)
]

-- the blocks whose bits a number of n bits holds are as many as it has ones
pub count_is : (f : ℕ → Bool) (n a v : ℕ) → v < 2 ^ n → ((k : ℕ) → k < n → f (a + k) ≡ eqb (bit_at v k) 1) → count_by f (range_with_len a n) ≡ ones v
count_is f zero a v fits same =
    let none : ones v ≤ 0 = ones-le 0 v fits in
    omega arith
count_is f (suc n) a v fits same =
    let halves : v / 2 * 2 ^ 1 + v % 2 ≡ v = omega arith in
    let first : f (a + 0) ≡ eqb (bit_at v 0) 1 = same 0 (omega arith) in
    let start : a + 0 ≡ a = omega arith in
    let lowest : cond (f a) 1 0 ≡ ones (v % 2) =
    bit_counted (f a) (v % 2) (omega arith) (ap f (sym start) ∙ first ∙ ap (λ (x : ℕ). eqb x 1) (bit_at_lowest v))
    ∙ sym (ones_of_bit (v % 2) (omega arith)) in
    let half_fits : v / 2 < 2 ^ n = omega (arith, pow-suc 2 n) in
    let rest : count_by f (range_with_len (a + 1) n) ≡ ones (v / 2) =
    count_is f n (a + 1) (v / 2) half_fits (λ k small.
    let place : a + 1 + k ≡ a + suc k = omega arith in
    ap f place ∙ same (suc k) (omega arith) ∙ ap (λ (x : ℕ). eqb x 1) (bit_at-suc v k)) in
    sum_by-cons (λ (x : ℕ). cond (f x) 1 0) a (range_with_len (a + 1) n)
    ∙ ap₂ (λ (x y : ℕ). x + y) lowest rest
    ∙ sym (omega (arith, ones_cat 1 (v / 2) (v % 2) (omega arith), ap ones halves))

is_one : (bits : List ℕ) (i w k : ℕ) → IsWord bits true i w → k < 64 → is_set bits (64 * i + k) ≡ eqb (bit_at w k) 1
is_one bits i w k is small = elim (cases_eq (bit_at w k) 1) [
  | inl one ↦ is.ones k small one ∙ sym (eq-eqb (bit_at w k) 1 one)
  | inr other ↦
      let none : bit_at w k ≡ 0 = omega (arith, bit_at-lt w k) in
      is.zeros k small none ∙ ap (λ (x : ℕ). eqb x 1) (sym none)
]

-- the weight with a word more
pub weight_word : (bits : List ℕ) (i w : ℕ) → w < 2 ^ 64 → IsWord bits true i w → weight_of bits (64 * (i + 1)) ≡ weight_of bits (64 * i) + ones w
weight_word bits i w fits is =
    let more : 64 * (i + 1) ≡ 64 * i + 64 = omega arith in
    ap (weight_of bits) more
    ∙ weight_split bits (64 * i) 64
    ∙ ap (λ (x : ℕ). weight_of bits (64 * i) + x) (count_is (is_set bits) 64 (64 * i) w fits (λ k small. is_one bits i w k is small))

rest_fits : (w n : ℕ) → w % 2 ^ n < 2 ^ n
rest_fits w n = omega (arith, pow_pos n)

rest_bits : (w n k : ℕ) → k < n → bit_at w k ≡ bit_at (w % 2 ^ n) k
rest_bits w n k low =
    ap (λ (x : ℕ). bit_at x k) (sym (shr_split w n))
    ∙ bit_at_cat_low (w / 2 ^ n) n (w % 2 ^ n) k low

-- the weight with the front of a word
pub weight_rest : (bits : List ℕ) (i w n : ℕ) → n < 64 → IsWord bits true i w → weight_of bits (64 * i + n) ≡ weight_of bits (64 * i) + ones (w % 2 ^ n)
weight_rest bits i w n small is =
    weight_split bits (64 * i) n
    ∙ ap (λ (x : ℕ). weight_of bits (64 * i) + x)
    (count_is (is_set bits) n (64 * i) (w % 2 ^ n) (rest_fits w n) (λ k low. is_one bits i w k is (omega arith) ∙ ap (λ (x : ℕ). eqb x 1) (rest_bits w n k low)))

-- a rest of n bits has no more ones
pub rest_ones : (w n : ℕ) → ones (w % 2 ^ n) ≤ n
rest_ones w n = ones-le n (w % 2 ^ n) (rest_fits w n)
