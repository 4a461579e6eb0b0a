-- The use order: a list of all chunks, the one that was written least recently first.
use Rattle.std.specs.Prelude.{◌≡◌, ℕ, ◌+◌, ◌==◌, Bool, not, List, [], ◌∷◌, ◌++◌, length, filter, Option, Some, slice_get, Contains}

-- a chunk is another than this one
abbrev pub is_other : ℕ → ℕ → Bool
is_other chunk other = not (other == chunk)

-- a list without this chunk
abbrev pub without : ℕ → List ℕ → List ℕ
without chunk order = filter (is_other chunk) order

-- the chunk stands last now, after all others, which stand as they stood
pub record PutsLast (chunk : ℕ) (old new : List ℕ) : Type 0 where
  pub others_first : new ≡ without chunk old ++ chunk ∷ []
  pub count : length new ≡ length old

-- what stands right after a chunk, wherever it stands in the list: None after the last
pub record IsAfter (order : List ℕ) (chunk : ℕ) (found : Option ℕ) : Type 0 where
  pub here : Contains order chunk
  pub next : (place : ℕ) → slice_get order place ≡ Some chunk
      → found ≡ slice_get order (place + 1)
