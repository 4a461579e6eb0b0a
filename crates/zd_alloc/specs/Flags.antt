-- Sets of numbers as words of 64 flags: number n is flag n % 64 of word n / 64.
use Rattle.std.specs.Prelude.{◌≡◌, ◌≢◌, ℕ, ◌+◌, ◌/◌, ◌%◌, ◌<◌, Bool, true, false, not, ◌*◌, List, nat_eq, length, slice_index}
use Rattle.std.specs.Int.{bit_at}

-- whether a number is in the set; none is past the last word
abbrev pub has_number : List ℕ → ℕ → Bool
has_number words n = nat_eq (bit_at (slice_index words (n / 64)) (n % 64)) 1

-- number n is in the set now exactly where `flag` says so, all others where they were before
pub record GivesFlag (flag : Bool) (n : ℕ) (old new : List ℕ) : Type 0 where
  pub there : has_number new n ≡ flag
  pub others : (m : ℕ) → m ≢ n → has_number new m ≡ has_number old m

-- number n is the least in the set
pub record IsLeast (words : List ℕ) (n : ℕ) : Type 0 where
  pub there : has_number words n ≡ true
  pub least : (m : ℕ) → m < n → has_number words m ≡ false

-- no number is in the set
abbrev pub HasNone : List ℕ → Type 0
HasNone words = (n : ℕ) → has_number words n ≡ false

-- number i of the summary says whether word i has a number
pub record IsSummed (words summary : List ℕ) : Type 0 where
  pub tells : (i : ℕ) → has_number summary i ≡ not (nat_eq (slice_index words i) 0)
  pub room : length words < 64 * length summary + 1
  pub few : length summary < 1025
