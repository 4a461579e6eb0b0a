-- A source in memory, as contracts see it.
use Rattle.std.specs.Prelude.{◌≡◌, ℕ, List}
use Rattle.zd_ports.specs.Ports.{next_call}

-- the bytes that are left, the most that a call gives, the numbers of the calls that fail, and the counts so far
pub record Supply : Type 0 where
  pub left : List ℕ
  pub most : ℕ
  pub fails : List ℕ
  pub calls : ℕ
  pub faults : ℕ

-- one more call, under the same terms
pub record CountsRead (old new : Supply) : Type 0 where
  pub calls : new.calls ≡ next_call old.calls
  pub most : new.most ≡ old.most
  pub fails : new.fails ≡ old.fails
