-- How the words of a command are spelled, and what they say by that.
use Rattle.std.specs.Prelude.{◌≡◌, ◌⊎◌, ℕ, Bool, true, false, if◌then◌else◌, Option}
use Rattle.std.specs.Prelude.{List, [], ◌∷◌, ◌++◌, All, codes, flat_map, slice_get}
use Rattle.std.specs.List.{IsDistinct, list_any}
use Rattle.std.specs.Str.{bytes_eq}
use Rattle.zd_ports.specs.Words.{is_option}

-- a flag `--name`, an option with its value as `--name value` or as `--name=value`, or a plain word
pub data Item : Type 0 where
  flag : List ℕ → Item
  apart : List ℕ → List ℕ → Item
  joined : List ℕ → List ℕ → Item
  plain : List ℕ → Item

-- `--name`
abbrev pub dashed : List ℕ → List ℕ
dashed name = 45 ∷ 45 ∷ name

-- the words of an item
abbrev pub item_words : Item → List (List ℕ)
item_words (flag name) = dashed name ∷ []
item_words (apart name value) = dashed name ∷ value ∷ []
item_words (joined name value) = (dashed name ++ 61 ∷ value) ∷ []
item_words (plain word) = word ∷ []

-- the name is one of these
abbrev pub is_among : List (List ℕ) → List ℕ → Bool
is_among names name = list_any (λ n. bytes_eq n name) names

-- a program with these flags and options has the item. What begins with a minus, and isn't a minus alone, is no
-- plain word, and is a value only behind `=`
abbrev pub IsItem : List (List ℕ) → List (List ℕ) → Item → Type 0
IsItem flags options (flag name) = is_among flags name ≡ true
IsItem flags options (apart name value) = (is_among options name ≡ true) × (is_option value ≡ false)
IsItem flags options (joined name value) = is_among options name ≡ true
IsItem flags options (plain word) = is_option word ≡ false

-- what comes last: nothing, or `--` with any words after it
abbrev pub EndsWith : List (List ℕ) → List (List ℕ) → Type 0
EndsWith end rest = ((end ≡ []) × (rest ≡ [])) ⊎ (end ≡ codes "--" ∷ rest)

-- the name that an item uses, which no other may use again
abbrev pub item_names : Item → List (List ℕ)
item_names (flag name) = name ∷ []
item_names (apart name value) = name ∷ []
item_names (joined name value) = name ∷ []
item_names (plain word) = []

abbrev pub item_flags : Item → List (List ℕ)
item_flags (flag name) = name ∷ []
item_flags _ = []

abbrev pub item_values : List ℕ → Item → List (List ℕ)
item_values name (apart option value) = if bytes_eq option name then value ∷ [] else []
item_values name (joined option value) = if bytes_eq option name then value ∷ [] else []
item_values name _ = []

abbrev pub item_plain : Item → List (List ℕ)
item_plain (plain word) = word ∷ []
item_plain _ = []

-- the flags that stand
abbrev pub flags_of : List Item → List (List ℕ)
flags_of = flat_map item_flags

-- the value of an option, where it stands
abbrev pub value_of : List ℕ → List Item → Option (List ℕ)
value_of name items = slice_get (flat_map (item_values name) items) 0

-- the words are these items of a program with these flags and options, in any order and none used twice, with these
-- plain words among them
pub record IsReading (flags options words : List (List ℕ)) (items : List Item) (plain : List (List ℕ)) : Type 0 where
  pub rest : List (List ℕ)
  pub «end» : List (List ℕ)
  pub spelled : words ≡ flat_map item_words items ++ «end»
  pub ended : EndsWith «end» rest
  pub has : All (IsItem flags options) items
  pub once : IsDistinct bytes_eq (flat_map item_names items)
  pub placed : plain ≡ flat_map item_plain items ++ rest
