-- Words of 64 blocks, and the ones in them.
use Rattle.std.specs.Prelude.{◌≡◌, ℕ, ◌+◌, ◌*◌, ◌<◌, ◌≤◌, Bool, not, List}
use Rattle.std.specs.Int.{bit_at}
use Rattle.zd_model.specs.Tables.{is_set}

-- bit k of the word is 1 where block 64 * i + k has this bit, else 0
pub record IsWord (bits : List ℕ) (bit : Bool) (i word : ℕ) : Type 0 where
  pub ones : (k : ℕ) → k < 64 → bit_at word k ≡ 1 → is_set bits (64 * i + k) ≡ bit
  pub zeros : (k : ℕ) → k < 64 → bit_at word k ≡ 0 → is_set bits (64 * i + k) ≡ not bit

-- bit k is the first 1 of the word from bit `from` on; 64 where there is none
pub record IsFirstOne (word from k : ℕ) : Type 0 where
  pub low : from ≤ k
  pub high : k ≤ 64
  pub before : (j : ℕ) → from ≤ j → j < k → bit_at word j ≡ 0
  pub there : k < 64 → bit_at word k ≡ 1
