-- Numbers, sectors and blocks in lists of bytes. A sector and a block are lists of bytes.
use Rattle.std.specs.Prelude.{◌≡◌, ◌<◌, ℕ, ◌+◌, ◌*◌, ◌/◌, List, ◌++◌, length, map, take, drop}
use Rattle.std.specs.Prelude.{replicate, slice_range, slice_index, All}
use Rattle.std.specs.Int.{w32, w64, from_le_bytes}
use Rattle.std.specs.List.{range_with_len}

-- so many bytes
pub record AreBytes (n : ℕ) (bytes : List ℕ) : Type 0 where
  pub count : length bytes ≡ n
  pub each : (i : ℕ) → slice_index bytes i < 256

-- a sector: 512 bytes
abbrev pub IsSector : List ℕ → Type 0
IsSector bytes = (length bytes ≡ 512) × All (λ b. b < 256) bytes

-- the number of four bytes from `at` on, the lowest byte first
unfoldable pub u32_at : List ℕ → ℕ → ℕ
u32_at bytes at = from_le_bytes w32 (slice_range bytes at (at + 4))

-- the number of eight bytes
unfoldable pub u64_at : List ℕ → ℕ → ℕ
u64_at bytes at = from_le_bytes w64 (slice_range bytes at (at + 8))

-- xs with these in place of those from `at` on
abbrev pub overwrite : {X : Type 0} → List X → ℕ → List X → List X
overwrite xs at new = take at xs ++ new ++ drop (at + length new) xs

-- a sector of zeros
unfoldable pub zero_sector : List ℕ
zero_sector = replicate 512 0

-- the sectors that bytes are
abbrev pub sectors_of : List ℕ → List (List ℕ)
sectors_of bytes =
    map (λ j. slice_range bytes (512 * j) (512 * j + 512)) (range_with_len 0 (length bytes / 512))
