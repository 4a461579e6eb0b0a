-- The bits of a byte that a mask of neighbouring bits gives a value.
use Rattle.std.proofs.Common.{◌≡◌, ℕ, ◌-◌, ◌<◌, ◌≤◌, ◌^◌, w8, bit_and, bit_or, ap, ◌∙◌, arith}
use Rattle.std.specs.Int.{bit_at, bit_not}
use Rattle.std.proofs.lemmas.Nat.Bits.{bit_at-lt, bit_at_or, bit_at_and, bit_at_not, bit_at_mask_inside, bit_at_mask_below, bit_at_mask_above}

-- inside the mask the bits are set
pub or_inside : (b m low high k : ℕ) → m ≡ 2 ^ high - 2 ^ low → low ≤ k → k < high → bit_at (bit_or b m) k ≡ 1
or_inside b m low high k e above below =
    let one : bit_at m k ≡ 1 = ap (λ (x : ℕ). bit_at x k) e ∙ bit_at_mask_inside low high k above below in
    omega (arith, bit_at_or b m k, bit_at-lt b k)

-- outside they are those of before
pub or_below : (b m low high k : ℕ) → m ≡ 2 ^ high - 2 ^ low → k < low → bit_at (bit_or b m) k ≡ bit_at b k
or_below b m low high k e below =
    let none : bit_at m k ≡ 0 = ap (λ (x : ℕ). bit_at x k) e ∙ bit_at_mask_below low high k below in
    omega (arith, bit_at_or b m k)

pub or_above : (b m low high k : ℕ) → m ≡ 2 ^ high - 2 ^ low → high ≤ k → bit_at (bit_or b m) k ≡ bit_at b k
or_above b m low high k e above =
    let none : bit_at m k ≡ 0 = ap (λ (x : ℕ). bit_at x k) e ∙ bit_at_mask_above low high k above in
    omega (arith, bit_at_or b m k)

-- the same where the mask's bits are cleared
pub and_inside : (b m low high k : ℕ) → m ≡ 2 ^ high - 2 ^ low → m < 2 ^ 8 → low ≤ k → k < high → k < 8 → bit_at (bit_and b (bit_not w8 m)) k ≡ 0
and_inside b m low high k e fits above below small =
    let one : bit_at m k ≡ 1 = ap (λ (x : ℕ). bit_at x k) e ∙ bit_at_mask_inside low high k above below in
    omega (arith, bit_at_and b (bit_not w8 m) k, bit_at_not w8 m k fits small)

pub and_below : (b m low high k : ℕ) → m ≡ 2 ^ high - 2 ^ low → m < 2 ^ 8 → k < low → k < 8 → bit_at (bit_and b (bit_not w8 m)) k ≡ bit_at b k
and_below b m low high k e fits below small =
    let none : bit_at m k ≡ 0 = ap (λ (x : ℕ). bit_at x k) e ∙ bit_at_mask_below low high k below in
    omega (arith, bit_at_and b (bit_not w8 m) k, bit_at_not w8 m k fits small, bit_at-lt b k)

pub and_above : (b m low high k : ℕ) → m ≡ 2 ^ high - 2 ^ low → m < 2 ^ 8 → high ≤ k → k < 8 → bit_at (bit_and b (bit_not w8 m)) k ≡ bit_at b k
and_above b m low high k e fits above small =
    let none : bit_at m k ≡ 0 = ap (λ (x : ℕ). bit_at x k) e ∙ bit_at_mask_above low high k above in
    omega (arith, bit_at_and b (bit_not w8 m) k, bit_at_not w8 m k fits small, bit_at-lt b k)
