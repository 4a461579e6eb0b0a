-- What a source gives, and how calls are counted.
use Rattle.std.specs.Prelude.{◌≡◌, ℕ, ◌+◌, ◌-◌, ◌≤◌, ◌^◌, min, Option, Some, List, [], length, take, drop}

-- the buffer begins with the first n bytes that were left, and the others are left; none only at the end
pub record Gives (bytes : List ℕ) (after : Option (List ℕ)) (n : ℕ) (into : List ℕ) : Type 0 where
  pub some : n ≤ length bytes
  pub read : take n into ≡ take n bytes
  pub rest : after ≡ Some (drop n bytes)
  pub end : n ≡ 0 → bytes ≡ []

-- the number of the next call, from 1, in a count of 64 bits that stays at its end
abbrev pub next_call : ℕ → ℕ
next_call calls = min (calls + 1) (2 ^ 64 - 1)
