-- Which words are a command of zreplay_one and of zreplay, and what they ask for.
use Rattle.std.specs.Prelude.{◌≡◌, ◌≤◌, ◌<◌, ◌^◌, ℕ, Option, Some, None, List, [], ◌∷◌, codes}
use Rattle.zd_model.specs.Text.{numeral}
use Rattle.zd_commands.specs.Spelling.{IsReading, Item, value_of}
use Rattle.zd_commands.specs.declared.replays.ReplayTask.{ReplayTask}
use Rattle.zd_commands.specs.declared.replays.ReplayTask.TheVariants.{Script, Made}

-- of zreplay_one
abbrev pub alone_options : List (List ℕ)
alone_options = codes "make" ∷ codes "count" ∷ []

-- of zreplay
abbrev pub replay_options : List (List ℕ)
replay_options = codes "make" ∷ codes "count" ∷ codes "actors" ∷ []

-- of both
abbrev pub replay_places : List (List ℕ)
replay_places = codes "image" ∷ codes "script" ∷ []

-- the plain words, and which of `--make` and `--count` stand: an image and a script and neither, or an image and both
abbrev pub TakesReplay : ReplayTask → List ℕ → List (List ℕ) → Option (List ℕ) → Option (List ℕ) → Type 0
TakesReplay (Script script) image plain seed count = (plain ≡ image ∷ script.now ∷ []) × (seed ≡ None) × (count ≡ None)
TakesReplay (Made number requests) image plain seed count = (plain ≡ image ∷ [])
    × (seed ≡ Some (numeral number)) × (number < 2 ^ 64) × (count ≡ Some (numeral requests)) × (1 ≤ requests) × (requests ≤ 4096)

-- how many actors `--actors` asks for, 4 where it doesn't stand
abbrev pub GivesActors : Option (List ℕ) → ℕ → Type 0
GivesActors None actors = actors ≡ 4
GivesActors (Some text) actors = (text ≡ numeral actors) × (1 ≤ actors) × (actors ≤ 64)

-- the words ask zreplay_one for this, on this image
pub record AsksAloneReplay (words : List (List ℕ)) (task : ReplayTask) (image : List ℕ) : Type 0 where
  pub items : List Item
  pub plain : List (List ℕ)
  pub reading : IsReading [] alone_options words items plain
  pub takes : TakesReplay task image plain (value_of (codes "make") items) (value_of (codes "count") items)

-- the words ask zreplay for this, on this image, by so many actors
pub record AsksReplay (words : List (List ℕ)) (task : ReplayTask) (image : List ℕ) (actors : ℕ) : Type 0 where
  pub items : List Item
  pub plain : List (List ℕ)
  pub reading : IsReading [] replay_options words items plain
  pub takes : TakesReplay task image plain (value_of (codes "make") items) (value_of (codes "count") items)
  pub gives : GivesActors (value_of (codes "actors") items) actors
