-- What was found in words, and what they say.
use Rattle.std.specs.Prelude.{◌≡◌, ◌≤◌, ◌&&◌, ◌||◌, not, Bool, ℕ, true, if◌then◌else◌, Option, Some, None, List, [], ◌∷◌, codes, length, slice_get}
use Rattle.std.specs.Option.{option_copied}
use Rattle.std.specs.Str.{bytes_eq}
use Rattle.clap.specs.Walk.{Row, first_of, one_of}
use Rattle.zd_commands.specs.Spelling.{IsReading, Item, flags_of, is_among, value_of}
use Rattle.zd_commands.specs.Admins.{TakesOptions, task_flag}
use Rattle.zd_commands.specs.declared.admins.AdminFlag.{AdminFlag}
use Rattle.zd_commands.specs.declared.admins.AdminFlag.TheVariants.{Format, Check, Repair, Relabel, Show, Upgrade}
use Rattle.zd_commands.specs.declared.admins.AdminFound.{AdminFound}
use Rattle.zd_commands.specs.declared.admins.AdminTask.{AdminTask}

-- the word at the place of this name
abbrev pub at_place : List ℕ → List (List ℕ) → List (List ℕ) → Option (List ℕ)
at_place name [] words = None
at_place name (place ∷ places) [] = None
at_place name (place ∷ places) (word ∷ words) = if bytes_eq place name then Some word else at_place name places words

-- the rows that clap found are what the items are
pub record FindsRows (flags options places : List (List ℕ)) (rows : List Row) (items : List Item) (plain : List (List ℕ)) : Type 0 where
  pub flag : (name : List ℕ) → is_among flags name ≡ true
      → one_of name rows ≡ Some (if is_among (flags_of items) name then codes "true" else codes "false")
  pub option : (name : List ℕ) → is_among options name ≡ true → first_of name rows ≡ value_of name items
  pub place : (name : List ℕ) → is_among places name ≡ true → first_of name rows ≡ at_place name places plain

-- the words are a reading with at most so many plain words, and each such reading is as P says
pub record IsRead (flags options words : List (List ℕ)) (most : ℕ) (P : List Item → List (List ℕ) → Type 0) : Type 0 where
  pub items : List Item
  pub plain : List (List ℕ)
  pub reading : IsReading flags options words items plain
  pub few : length plain ≤ most
  pub each : (items : List Item) (plain : List (List ℕ)) → IsReading flags options words items plain → length plain ≤ most → P items plain

-- the words are no such reading
abbrev pub IsUnread : List (List ℕ) → List (List ℕ) → List (List ℕ) → ℕ → Type 0
IsUnread flags options words most = (items : List Item) (plain : List (List ℕ)) → IsReading flags options words items plain → length plain ≤ most → ⊥

-- what was found is what the items are
pub record FindsAdmin (found : AdminFound) (items : List Item) (plain : List (List ℕ)) : Type 0 where
  pub format : found.format ≡ is_among (flags_of items) (codes "format")
  pub check : found.check ≡ is_among (flags_of items) (codes "check")
  pub repair : found.repair ≡ is_among (flags_of items) (codes "repair")
  pub relabel : found.relabel ≡ is_among (flags_of items) (codes "relabel")
  pub status : found.status ≡ is_among (flags_of items) (codes "status")
  pub upgrade : found.upgrade ≡ is_among (flags_of items) (codes "upgrade")
  pub label : option_copied found.label ≡ value_of (codes "label") items
  pub seq : option_copied found.seq ≡ value_of (codes "seq") items
  pub uuid : option_copied found.uuid ≡ value_of (codes "uuid") items
  pub image : option_copied found.image ≡ slice_get plain 0

-- one of the flags stands, and no other
abbrev pub has_only : AdminFlag → AdminFound → Bool
has_only Format f = f.format && not (f.check || (f.repair || (f.relabel || (f.status || f.upgrade))))
has_only Check f = f.check && not (f.format || (f.repair || (f.relabel || (f.status || f.upgrade))))
has_only Repair f = f.repair && not (f.format || (f.check || (f.relabel || (f.status || f.upgrade))))
has_only Relabel f = f.relabel && not (f.format || (f.check || (f.repair || (f.status || f.upgrade))))
has_only Show f = f.status && not (f.format || (f.check || (f.repair || (f.relabel || f.upgrade))))
has_only Upgrade f = f.upgrade && not (f.format || (f.check || (f.repair || (f.relabel || f.status))))

abbrev pub flag_name : AdminFlag → List ℕ
flag_name Format = codes "format"
flag_name Check = codes "check"
flag_name Repair = codes "repair"
flag_name Relabel = codes "relabel"
flag_name Show = codes "status"
flag_name Upgrade = codes "upgrade"

-- with these flags no option stands
abbrev pub IsBareFlag : AdminFlag → Type 0
IsBareFlag Check = Unit {0}
IsBareFlag Repair = Unit {0}
IsBareFlag Show = Unit {0}
IsBareFlag _ = ⊥

-- the task is that of the flag, with these options
abbrev pub IsTaskOf : AdminFlag → AdminTask → Option (List ℕ) → Option (List ℕ) → Option (List ℕ) → Type 0
IsTaskOf flag task label seq uuid = (task_flag task ≡ flag_name flag) × TakesOptions task label seq uuid

-- the flag was found
abbrev pub has_flag : AdminFlag → AdminFound → Bool
has_flag Format found = found.format
has_flag Check found = found.check
has_flag Repair found = found.repair
has_flag Relabel found = found.relabel
has_flag Show found = found.status
has_flag Upgrade found = found.upgrade

-- the words that were found make this command
pub record MakesCommand (found : AdminFound) (task : AdminTask) (image : List ℕ) : Type 0 where
  pub flag : AdminFlag
  pub only : has_only flag found ≡ true
  pub asked : IsTaskOf flag task (option_copied found.label) (option_copied found.seq) (option_copied found.uuid)
  pub place : option_copied found.image ≡ Some image
