-- Sectors that differ in the fifth byte, which is the seed's lowest, or in the first.
use Rattle.std.proofs.Common.{◌≡◌, ℕ, ◌+◌, ◌*◌, ◌/◌, ◌%◌, List, get_or, ap, arith}
use Rattle.zd_model.specs.Bytes.{zero_sector}
use Rattle.zd_model.specs.Plain.{pattern}

abbrev byte : ℕ → List ℕ → ℕ
byte i bytes = get_or bytes i 0

pub one_is_two : pattern 1 0 ≡ pattern 2 0 → ⊥
unfolding pattern
one_is_two e = let b : ◌≡◌ {A = ℕ} 1 2 = ap (byte 4) e in omega arith

pub one_is_zero : (i : ℕ) → pattern 1 i ≡ zero_sector → ⊥
unfolding pattern zero_sector
one_is_zero i e = let b : (4294967296 + (64 * i + 0) % 4294967296) / 4294967296 % 256 ≡ 0 = ap (byte 4) e in omega arith

pub one_elsewhere : pattern 1 0 ≡ pattern 1 1 → ⊥
unfolding pattern
one_elsewhere e = let b : ◌≡◌ {A = ℕ} 0 64 = ap (byte 0) e in omega arith

pub two_is_zero : pattern 2 0 ≡ zero_sector → ⊥
unfolding pattern zero_sector
two_is_zero e = let b : ◌≡◌ {A = ℕ} 2 0 = ap (byte 4) e in omega arith
