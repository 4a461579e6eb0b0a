-- The words of commands.
use Rattle.std.specs.Prelude.{◌==◌, ℕ, Bool, false, List, [], ◌∷◌}

-- it begins with a minus, and isn't a minus alone
abbrev pub is_option : List ℕ → Bool
is_option [] = false
is_option (first ∷ []) = false
is_option (first ∷ second ∷ rest) = first == 45
