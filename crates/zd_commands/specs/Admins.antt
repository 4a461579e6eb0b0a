-- Which words are a command of dmzadm, and what they ask for.
use Rattle.std.specs.Prelude.{◌≡◌, ◌≢◌, ◌≤◌, ◌-◌, ℕ, true, Option, Some, None, unwrap_or, option_and_then}
use Rattle.std.specs.Prelude.{List, [], ◌∷◌, ◌++◌, All, codes, length, replicate}
use Rattle.uuid.specs.Text.{parsed}
use Rattle.zd_model.specs.Text.{numeral}
use Rattle.zd_commands.specs.Spelling.{IsReading, Item, flags_of, is_among, value_of}
use Rattle.zd_commands.specs.declared.admins.AdminTask.{AdminTask}
use Rattle.zd_commands.specs.declared.admins.AdminTask.TheVariants.{Format, Check, Repair, Relabel, Show, Upgrade}

abbrev pub admin_flags : List (List ℕ)
admin_flags = codes "format" ∷ codes "check" ∷ codes "repair" ∷ codes "relabel" ∷ codes "status" ∷ codes "upgrade" ∷ []

abbrev pub admin_options : List (List ℕ)
admin_options = codes "label" ∷ codes "seq" ∷ codes "uuid" ∷ []

abbrev pub admin_places : List (List ℕ)
admin_places = codes "image" ∷ []

-- a flag stands, and no other does
pub record IsOnlyFlag (name : List ℕ) (items : List Item) : Type 0 where
  pub stands : is_among (flags_of items) name ≡ true
  pub only : (other : List ℕ) → is_among (flags_of items) other ≡ true → other ≡ name

-- a text of at most 32 bytes, none of them zero, spells the label that has zeros after it
pub record SpellsLabel (text label : List ℕ) : Type 0 where
  pub short : length text ≤ 32
  pub nonzero : All (λ byte. byte ≢ 0) text
  pub padded : label ≡ text ++ replicate (32 - length text) 0

-- the label of `--label`, which is empty where it doesn't stand
abbrev pub GivesLabel : Option (List ℕ) → List ℕ → Type 0
GivesLabel text label = SpellsLabel (unwrap_or text []) label

-- the reserved zones of `--seq`, 2 where it doesn't stand
abbrev pub GivesReserved : Option (List ℕ) → ℕ → Type 0
GivesReserved None reserved = reserved ≡ 2
GivesReserved (Some text) reserved = (text ≡ numeral reserved) × (reserved ≤ 65536)

-- the identifier of `--uuid`, which has to stand
abbrev pub GivesVolume : Option (List ℕ) → List ℕ → Type 0
GivesVolume text volume = option_and_then parsed text ≡ Some volume

-- the flag that asks for it
abbrev pub task_flag : AdminTask → List ℕ
task_flag (Format reserved volume label) = codes "format"
task_flag Check = codes "check"
task_flag Repair = codes "repair"
task_flag (Relabel label) = codes "relabel"
task_flag Show = codes "status"
task_flag (Upgrade volume label) = codes "upgrade"

-- which options stand with it, and what they say
abbrev pub TakesOptions : AdminTask → Option (List ℕ) → Option (List ℕ) → Option (List ℕ) → Type 0
TakesOptions (Format reserved volume label) text seq uuid = GivesLabel text label × GivesReserved seq reserved × GivesVolume uuid volume
TakesOptions Check text seq uuid = (text ≡ None) × (seq ≡ None) × (uuid ≡ None)
TakesOptions Repair text seq uuid = (text ≡ None) × (seq ≡ None) × (uuid ≡ None)
TakesOptions Show text seq uuid = (text ≡ None) × (seq ≡ None) × (uuid ≡ None)
TakesOptions (Relabel label) text seq uuid = ((word : List ℕ) × (text ≡ Some word) × SpellsLabel word label) × (seq ≡ None) × (uuid ≡ None)
TakesOptions (Upgrade volume label) text seq uuid = GivesLabel text label × (seq ≡ None) × GivesVolume uuid volume

-- the words ask for this, on this image
pub record AsksAdmin (words : List (List ℕ)) (task : AdminTask) (image : List ℕ) : Type 0 where
  pub items : List Item
  pub plain : List (List ℕ)
  pub reading : IsReading admin_flags admin_options words items plain
  pub flag : IsOnlyFlag (task_flag task) items
  pub place : plain ≡ image ∷ []
  pub takes : TakesOptions task (value_of (codes "label") items) (value_of (codes "seq") items) (value_of (codes "uuid") items)
