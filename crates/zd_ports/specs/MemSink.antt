-- A sink in memory, as contracts see it.
use Rattle.std.specs.Prelude.{◌≡◌, ◌≤◌, ℕ, ◌+◌, List, ◌++◌, length}
use Rattle.zd_ports.specs.Ports.{next_call}

-- the bytes that it took, how many more it has room for, the numbers of the calls that fail, and the counts so far
pub record Intake : Type 0 where
  pub held : List ℕ
  pub room : ℕ
  pub fails : List ℕ
  pub calls : ℕ
  pub faults : ℕ

-- one more call, under the same terms
pub record CountsWrite (old new : Intake) : Type 0 where
  pub calls : new.calls ≡ next_call old.calls
  pub fails : new.fails ≡ old.fails

-- it took the bytes, which used no more room than their own
pub record Took (bytes : List ℕ) (old new : Intake) : Type 0 where
  pub held : new.held ≡ old.held ++ bytes
  pub room : old.room ≤ new.room + length bytes
  pub faults : new.faults ≡ old.faults

-- it took nothing, and its room is no less
pub record TookNothing (old new : Intake) : Type 0 where
  pub held : new.held ≡ old.held
  pub room : old.room ≤ new.room
