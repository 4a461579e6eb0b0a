-- Blocks of the disk by their zone and their place in it.
use Rattle.std.proofs.Common.{◌≡◌, ◌⊎◌, ℕ, ◌+◌, ◌-◌, ◌*◌, ◌/◌, ◌%◌, ◌<◌, ◌≤◌, ap, ◌∙◌, arith, inl, inr}
use Rattle.std.proofs.Math.Nat.{mul-le-mul_right, lt-div-mul-add}
use Rattle.std.proofs.lemmas.Bool.{cases_lt}
use Rattle.std.proofs.lemmas.Nat.{div-mul-add, mod-mul-add, div-add-mod'}
use Rattle.zd_base.specs.Layout.{rounded_up}

-- of two blocks of the disk the first has the lesser zone, or the lesser place in the same zone
pub earlier_place : (z x y r w : ℕ) → x < w → r < w → z * w + x < y * w + r → (z < y) ⊎ ((z ≡ y) × (x < r))
earlier_place z x y r w xs rs h = by (cases_lt z y)
  where
    by : (z < y) ⊎ (y ≤ z) → (z < y) ⊎ ((z ≡ y) × (x < r))
    by (inl less) = inl less
    by (inr most) = by_next (cases_lt y z)
      where
        by_next : (y < z) ⊎ (z ≤ y) → (z < y) ⊎ ((z ≡ y) × (x < r))
        by_next (inl more) =
            let far : (y + 1) * w ≤ z * w = mul-le-mul_right w (omega (arith, more)) in
            absurd (omega (arith, far, h, rs))
        by_next (inr least) =
            let same : z ≡ y = omega (arith, most, least) in
            let there : z * w ≡ y * w = ap (λ n. n * w) same in
            inr (same, omega (arith, there, h))

-- block k behind zone f is in zone f + k / w
pub place_of : (f k w : ℕ) → f * w + k ≡ (f + k / w) * w + k % w
place_of f k w = let whole = div-add-mod' k w in omega (arith, whole)

-- a set of m blocks ends in the zones that it takes
pub within_zones : (m w : ℕ) → 0 < w → m ≤ rounded_up m w * w
within_zones m w some =
    let n : ℕ = m + w - 1 in
    let near : m + w - 1 < (m + w - 1) / w * w + w = lt-div-mul-add {a = n} {b = w} some in
    omega (arith, near, some)

-- and each block of it begins there
pub zone_within : (b m w : ℕ) → 0 < w → b < m → b / w < rounded_up m w
zone_within b m w some h =
    let high = within_zones m w some in
    let low = div-add-mod' b w in
    by (cases_lt (b / w) (rounded_up m w)) high low
  where
    by : (b / w < rounded_up m w) ⊎ (rounded_up m w ≤ b / w) → m ≤ rounded_up m w * w → b / w * w + b % w ≡ b → b / w < rounded_up m w
    by (inl less) high low = less
    by (inr most) high low = let up = mul-le-mul_right w most in absurd (omega (arith, high, low, up, h))
