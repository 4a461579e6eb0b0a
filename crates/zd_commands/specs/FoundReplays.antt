-- What was found in words of a replay, and what it makes.
use Rattle.std.specs.Prelude.{◌≡◌, ◌≤◌, ◌<◌, ◌^◌, ℕ, Option, Some, None, List, [], ◌∷◌, codes}
use Rattle.std.specs.Option.{option_copied}
use Rattle.zd_model.specs.Text.{numeral}
use Rattle.zd_commands.specs.Founds.{at_place}
use Rattle.zd_commands.specs.Replays.{replay_places}
use Rattle.zd_commands.specs.Spelling.{Item, value_of}
use Rattle.zd_commands.specs.declared.replays.ReplayFound.{ReplayFound}
use Rattle.zd_commands.specs.declared.replays.ReplayTask.{ReplayTask}
use Rattle.zd_commands.specs.declared.replays.ReplayTask.TheVariants.{Script, Made}

-- what was found is what the items are
pub record FindsReplay (found : ReplayFound) (items : List Item) (plain : List (List ℕ)) : Type 0 where
  pub seed : option_copied found.seed ≡ value_of (codes "make") items
  pub count : option_copied found.count ≡ value_of (codes "count") items
  pub image : option_copied found.image ≡ at_place (codes "image") replay_places plain
  pub script : option_copied found.script ≡ at_place (codes "script") replay_places plain

-- these options, and a script or none, make this task
abbrev pub MakesTask : ReplayTask → Option (List ℕ) → Option (List ℕ) → Option (List ℕ) → Type 0
MakesTask (Script text) script seed count = (script ≡ Some text.now) × (seed ≡ None) × (count ≡ None)
MakesTask (Made number requests) script seed count = (script ≡ None)
    × (seed ≡ Some (numeral number)) × (number < 2 ^ 64) × (count ≡ Some (numeral requests)) × (1 ≤ requests) × (requests ≤ 4096)

-- what was found makes this task, on this image
abbrev pub MakesReplay : ReplayFound → ReplayTask → List ℕ → Type 0
MakesReplay found task image = (option_copied found.image ≡ Some image)
    × MakesTask task (option_copied found.script) (option_copied found.seed) (option_copied found.count)
