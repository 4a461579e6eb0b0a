-- The fields of a line.
use Rattle.std.specs.Prelude.{ℕ, List, [], ◌∷◌, ◌++◌, flat_map}
use Rattle.zd_model.specs.Script.{letters_of, numbers_of}
use Rattle.zd_model.specs.Text.{numeral}
use Rattle.zd_model.specs.declared.requests.What.{What}

-- the letters and the numbers of a request, a space after each
abbrev pub what_text : What → List ℕ
what_text what =
    letters_of what ++ 32 ∷ flat_map (λ n. numeral n ++ 32 ∷ []) (numbers_of what)
