-- Numbers at places, and a tree over them that tells the least.
use Rattle.std.specs.Prelude.{◌≡◌, ℕ, ◌+◌, ◌*◌, ◌<◌, ◌≤◌, List, length, min, slice_index}
use Rattle.zd_alloc.specs.declared.least_tree.TheConstants.{NEVER}

-- the least of the two nodes under this one
abbrev pub least_under : List ℕ → ℕ → ℕ
least_under nodes i = min (slice_index nodes (2 * i)) (slice_index nodes (2 * i + 1))

-- node 1 is the root, nodes 2 * i and 2 * i + 1 stand under node i, and so many places come last
pub record IsLeastTree (count : ℕ) (nodes : List ℕ) : Type 0 where
  pub some : 0 < count
  pub size : length nodes ≡ 2 * count
  pub least : (i : ℕ) → 0 < i → i < count → slice_index nodes i ≡ least_under nodes i

-- the number at this place isn't past all, and none is less
pub record IsLeastPlace (numbers : List ℕ) (place : ℕ) : Type 0 where
  pub inside : place < length numbers
  pub some : slice_index numbers place < NEVER
  pub least : (other : ℕ) → other < length numbers
      → slice_index numbers place ≤ slice_index numbers other

-- no place has a number but the greatest
abbrev pub HasNoPlace : List ℕ → Type 0
HasNoPlace numbers = (place : ℕ) → place < length numbers → NEVER ≤ slice_index numbers place
