-- A program's flags, options and plain words as the arguments of one command of clap.
use Rattle.std.specs.Prelude.{◌≡◌, ◌≢◌, ℕ, Some, true}
use Rattle.std.specs.Prelude.{List, [], ◌∷◌, ◌++◌, map, codes}
use Rattle.std.specs.Borrow.{Bor}
use Rattle.clap.specs.Walk.{Rule}
use Rattle.clap.specs.Simple.{App, HasMatchesOf, new_app, new_rule, on_top}
use Rattle.clap.specs.Faults.{fault_of, is_simple_and_free}
use Rattle.clap.specs.declared.parser.matches.ArgMatches.{ArgMatches}
use Rattle.clap.specs.declared.builder.action.ArgAction.TheVariants.{Set, SetTrue}

abbrev pub texts : List (Bor (List ℕ)) → List (List ℕ)
texts = map (λ name. name.now)

abbrev pub flag_rule : List ℕ → Rule
flag_rule name = record (new_rule name) { long = Some name; action = Some SetTrue }

abbrev pub option_rule : List ℕ → Rule
option_rule name = record (new_rule name) { long = Some name; action = Some Set }

-- a command with these arguments too
abbrev pub with_rules : App → List Rule → App
with_rules app rules = on_top (λ top. record top { rules = top.rules ++ rules }) app

-- the command before it has any argument
abbrev pub bare_app : App
bare_app = on_top (λ top. record top { no_binary_name = true; disable_help_flag = true }) (new_app (codes "words"))

-- the command of a program
abbrev pub app_with : List (List ℕ) → List (List ℕ) → List (List ℕ) → App
app_with flags options places =
    with_rules (with_rules (with_rules bare_app (map flag_rule flags)) (map option_rule options)) (map new_rule places)

-- the command takes the words, and these are the matches
unfoldable pub IsTaken : List (List ℕ) → List (List ℕ) → List (List ℕ) → List (List ℕ) → ArgMatches → Type 0
IsTaken flags options places words m = is_simple_and_free (app_with flags options places) ≡ true
    → (fault_of (app_with flags options places) words ≡ []) × HasMatchesOf (app_with flags options places) words m

-- the command refuses the words
unfoldable pub IsRefused : List (List ℕ) → List (List ℕ) → List (List ℕ) → List (List ℕ) → Type 0
IsRefused flags options places words = is_simple_and_free (app_with flags options places) ≡ true
    → fault_of (app_with flags options places) words ≢ []
