-- Numbers that begin a text, and in a line.
use Rattle.std.specs.Prelude.{◌≡◌, ℕ, ◌+◌, ◌-◌, ◌*◌, ◌^◌, min, List, [], ◌∷◌, ◌++◌, flat_map}
use Rattle.std.specs.Char.{IsAsciiDigit}
use Rattle.zd_model.specs.Text.{numeral}

-- the number that digits write after those of n
abbrev pub value_after : ℕ → List ℕ → ℕ
value_after n [] = n
value_after n (digit ∷ digits) = value_after (n * 10 + (digit - 48)) digits

-- a number as the parser tells it: those of more than 64 bits are one
abbrev pub told : ℕ → ℕ
told n = min n (2 ^ 64)

-- the first byte is no digit
abbrev pub BeginsOther : List ℕ → Type 0
BeginsOther [] = ⊥
BeginsOther (byte ∷ rest) = IsAsciiDigit byte → ⊥

-- the number n begins it, and no digit after it
pub record HasNumber (text : List ℕ) (n : ℕ) (rest : List ℕ) : Type 0 where
  pub is : text ≡ numeral n ++ rest
  pub ends : BeginsOther rest

-- a space begins it, then the number n, and no digit after it
pub record HasField (text : List ℕ) (n : ℕ) (rest : List ℕ) : Type 0 where
  pub is : text ≡ 32 ∷ (numeral n ++ rest)
  pub ends : BeginsOther rest

-- numbers, with a space before each
abbrev pub fields : List ℕ → List ℕ
fields ns = flat_map (λ n. 32 ∷ numeral n) ns
