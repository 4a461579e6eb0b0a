-- What was read of a source.
use Rattle.std.specs.Prelude.{◌≡◌, ℕ, ◌+◌, ◌≤◌, Option, Some, List, [], ◌++◌, length}
use Rattle.zd_disk.specs.Told.{WhereTold}
use Rattle.zd_model.specs.Script.{RefusesScript}
use Rattle.zd_model.specs.declared.texts.BadLine.{BadLine}
use Rattle.zd_model.specs.declared.texts.BadLine.TheVariants.{TooLong}

-- n more of the bytes that were left were read, and the others are left; none only at their end
pub record ReadsOn (left after : Option (List ℕ)) (n : ℕ) (all more : List ℕ) : Type 0 where
  pub count : length more ≡ length all + n
  pub front : WhereTold left (λ bytes.
      (rest : List ℕ) × (after ≡ Some rest) × (more ++ rest ≡ all ++ bytes))
  pub end : n ≡ 0 → WhereTold left (λ bytes. bytes ≡ [])

-- all bytes that were left were read, and a script may have so many
pub record ReadsAll (left after : Option (List ℕ)) (all : List ℕ) : Type 0 where
  pub size : length all ≤ 67_108_864
  pub bytes : WhereTold left (λ bytes. all ≡ bytes)
  pub end : WhereTold left (λ bytes. after ≡ Some [])

-- more bytes were left than a script may have, and the first one too many was the last read
pub record ReadsTooMany (left after : Option (List ℕ)) (line : ℕ) (why : BadLine) : Type 0 where
  pub whole : line ≡ 0
  pub long : why ≡ TooLong
  pub refused : WhereTold left (λ bytes. RefusesScript bytes line why)
  pub stops : WhereTold left (λ bytes.
      WhereTold after (λ rest. length bytes ≡ length rest + 67_108_865))
