-- Lists that grow without memory, for so many items.
use Rattle.std.specs.Prelude.{ℕ, List}

-- the items, and how many more it takes without memory
pub record ListWithRoom (X : Type 0) : Type 0 where
  pub items : List X
  pub room : ℕ
