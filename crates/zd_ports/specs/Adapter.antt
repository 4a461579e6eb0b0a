-- A reader or a writer of std under a port, as contracts see it.
use Rattle.std.specs.Prelude.{ℕ, List, Option, Some, None}

-- what stands under it, as it was first and as it is, and how often it has failed
pub record Adapter (T : Type 0) : Type 0 where
  pub first : T
  pub inner : T
  pub faults : ℕ

-- the bytes that it tells now, if it told any at first
abbrev pub passed_on : Option (List ℕ) → Option (List ℕ) → Option (List ℕ)
passed_on None now = None
passed_on (Some bytes) now = now

-- what told its bytes at first tells them
abbrev pub StaysTold : Option (List ℕ) → Option (List ℕ) → Type 0
StaysTold None now = Unit {0}
StaysTold (Some bytes) None = ⊥
StaysTold (Some bytes) (Some rest) = Unit {0}
