-- Patterns by the number of their sector.
use Rattle.std.proofs.Common.{◌≡◌, ℕ, ◌+◌, ◌*◌, ◌%◌, ◌^◌, List, refl, arith}
use Rattle.zd_model.specs.Plain.{pattern}
use Rattle.zd_model.specs.Report.{row_of}

place_wraps : (n j : ℕ) → (64 * (n % 2 ^ 64) + j) % 2 ^ 32 ≡ (64 * n + j) % 2 ^ 32
place_wraps n j = omega arith

pattern_wraps : (seed n : ℕ) → pattern seed (n % 2 ^ 64) ≡ pattern seed n
unfolding pattern
pattern_wraps seed n = simp place_wraps refl

-- a number past 2^64 makes no other row
pub row_wraps : (n : ℕ) (sector : List ℕ) → row_of (n % 2 ^ 64, sector) ≡ row_of (n, sector)
unfolding row_of
row_wraps n sector = rw pattern_wraps refl
