-- What a sink took of the bytes that it was handed.
use Rattle.std.specs.Prelude.{◌≡◌, ◌⊎◌, ℕ, List, [], ◌++◌, Option, Some}
use Rattle.zd_base.specs.Faults.{Rose}

-- the sink took these bytes after what it held, whole or a prefix of them
pub record Takes
    (before : List ℕ) (after : Option (List ℕ)) (bytes : List ℕ) (whole : Type 0) : Type 0 where
  pub prefix : List ℕ
  pub rest : List ℕ
  pub taken : after ≡ Some (before ++ prefix)
  pub is_prefix : prefix ++ rest ≡ bytes
  pub all : whole → rest ≡ []

-- nothing failed
abbrev pub IsFaultless : ℕ → ℕ → Type 0
IsFaultless before now = Rose before now → ⊥

-- when the sink has the whole output of a run: where all was done, and where it didn't fail
abbrev pub IsTaken : ℕ → ℕ → ℕ → Type 0
IsTaken status before now = (status ≡ 0) ⊎ IsFaultless before now
