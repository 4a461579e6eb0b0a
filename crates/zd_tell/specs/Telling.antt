-- What is told of a run, and its exit status.
use Rattle.std.specs.Prelude.{◌≡◌, ◌⊎◌, ℕ, ◌≤◌, List, Option, Some, codes}
use Rattle.zd_base.specs.Faults.{Rose}
use Rattle.zd_ports.specs.Taking.{IsTaken, Takes}

-- all that a run prints, and its exit status
pub record Telling : Type 0 where
  pub text : List ℕ
  pub status : ℕ

-- what is told where no memory is found for a text
abbrev pub memory_telling : Telling
memory_telling = record { text = codes "end 7 memory\n"; status = 7 }

-- the exit status of a run that told of a status of its own; only where all was done may it be 6
-- instead
abbrev pub HasStatus : ℕ → ℕ → Type 0
HasStatus own status = (status ≡ own) ⊎ ((status ≡ 6) × (own ≡ 0))

-- all was done, whether the sink took what was told of it or not
abbrev pub IsDone : ℕ → Type 0
IsDone status = HasStatus 0 status

-- a text was handed out to a sink that held and failed so before, and does so now
pub record HandsOut
    (text : List ℕ) (own status : ℕ) (held after : Option (List ℕ)) (faults now : ℕ) : Type 0 where
  pub apart : own ≡ 6 → ⊥
  pub answers : HasStatus own status
  -- the sink took all of it where it didn't fail, and where the status is 0; else a prefix of it
  pub taken : (before : List ℕ) → held ≡ Some before →
      Takes before after text (IsTaken status faults now)
  pub sink : status ≡ 6 → Rose faults now
  pub later : faults ≤ now

-- a message was told, or that no memory was found for its text, where it isn't fixed
pub record TellsMessage
    (message : Telling) (fixed : Type 0) (status : ℕ)
    (held after : Option (List ℕ)) (faults now : ℕ) : Type 0 where
  pub told : Telling
  pub which : (told ≡ message) ⊎ ((told ≡ memory_telling) × (fixed → ⊥))
  pub out : HandsOut told.text told.status status held after faults now
