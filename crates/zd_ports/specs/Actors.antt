-- How many actors a constant names, and which answers are the last.
use Rattle.std.specs.Prelude.{ℕ, List, [], slice_index, slice_index_or}
use Rattle.zd_base.specs.declared.steps.Stepped.{Stepped}
use Rattle.zd_base.specs.declared.steps.Stepped.TheVariants.{Did, Idle, Over, Stopped}

-- the number in the first list
abbrev pub actors_of : List (List ℕ) → ℕ
actors_of constant = slice_index (slice_index_or constant 0 []) 0

-- after Over or Stopped no step follows
abbrev pub IsLast : Stepped → Type 0
IsLast (Did kind) = ⊥
IsLast Idle = ⊥
IsLast Over = Unit {0}
IsLast (Stopped why) = Unit {0}
