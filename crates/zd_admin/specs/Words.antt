-- Which words are a command.
use Rattle.std.specs.Prelude.{◌≡◌, ◌≢◌, ℕ, ◌-◌, ◌≤◌, false, Option, Some, None}
use Rattle.std.specs.Prelude.{List, [], ◌∷◌, ◌++◌, All, codes, length, replicate, slice_get}
use Rattle.uuid.specs.Text.{parsed}
use Rattle.zd_model.specs.Text.{numeral}
use Rattle.zd_ports.specs.Words.{is_option}
use Rattle.zd_admin.specs.declared.words.Asked.{Asked}
use Rattle.zd_admin.specs.declared.words.Asked.TheVariants.{Format, Check, Repair, Relabel, Show, Upgrade}

-- `--format --seq R --uuid U IMAGE`: the words ask to format an image with so many reserved zones,
-- and with this identifier of the volume
pub record AsksFormat (words : List (List ℕ)) (reserved : ℕ) (volume : List ℕ) : Type 0 where
  pub id : List ℕ
  pub image : List ℕ
  pub spelled : words ≡ codes "--format"
      ∷ codes "--seq" ∷ numeral reserved ∷ codes "--uuid" ∷ id ∷ image ∷ []
  pub most : reserved ≤ 65536
  pub identifier : parsed id ≡ Some volume
  pub path : is_option image ≡ false

-- the words are such a command
abbrev pub IsFormatCommand : List (List ℕ) → Type 0
IsFormatCommand words = (reserved : ℕ) × (volume : List ℕ) × AsksFormat words reserved volume

-- the words are an option and an image
pub record AsksAlone (option : List ℕ) (words : List (List ℕ)) : Type 0 where
  pub image : List ℕ
  pub spelled : words ≡ option ∷ image ∷ []
  pub path : is_option image ≡ false

-- `--check IMAGE`: the words ask to check an image
abbrev pub AsksCheck : List (List ℕ) → Type 0
AsksCheck words = AsksAlone (codes "--check") words

-- `--repair IMAGE`: they ask to make a volume of what an image holds again
abbrev pub AsksRepair : List (List ℕ) → Type 0
AsksRepair words = AsksAlone (codes "--repair") words

-- `--status IMAGE`: they ask to show the volume on an image
abbrev pub AsksStatus : List (List ℕ) → Type 0
AsksStatus words = AsksAlone (codes "--status") words

-- the words are an option, another one with this value, and an image
pub record AsksWith (first option value : List ℕ) (words : List (List ℕ)) : Type 0 where
  pub image : List ℕ
  pub spelled : words ≡ first ∷ option ∷ value ∷ image ∷ []
  pub path : is_option image ≡ false

-- a word of at most 32 bytes, none of them zero, is this label, with zeros after it
pub record IsLabel (word label : List ℕ) : Type 0 where
  pub short : length word ≤ 32
  pub text : All (λ b. b ≢ 0) word
  pub value : label ≡ word ++ replicate (32 - length word) 0

-- `--relabel --label L IMAGE`: they ask to give the volume on an image this label
abbrev pub AsksRelabel : List (List ℕ) → List ℕ → Type 0
AsksRelabel words label = (word : List ℕ) × AsksWith (codes "--relabel") (codes "--label") word words
    × IsLabel word label

-- `--upgrade --uuid U IMAGE`: they ask to make the volume on an image one of version 2, with this identifier
abbrev pub AsksUpgrade : List (List ℕ) → List ℕ → Type 0
AsksUpgrade words volume = (id : List ℕ) × AsksWith (codes "--upgrade") (codes "--uuid") id words
    × (parsed id ≡ Some volume)

-- the words ask for this
abbrev pub Asks : List (List ℕ) → Asked → Type 0
Asks words (Format reserved volume) = AsksFormat words reserved volume
Asks words Check = AsksCheck words
Asks words Repair = AsksRepair words
Asks words Show = AsksStatus words
Asks words (Relabel label) = AsksRelabel words label
Asks words (Upgrade volume) = AsksUpgrade words volume

-- the words are a command
abbrev pub IsAdminCommand : List (List ℕ) → Type 0
IsAdminCommand words = (asked : Asked) × Asks words asked

-- the word of a command that stands for the image, its last one; none where the words are no command
abbrev pub NamesImage : List (List ℕ) → Option (List ℕ) → Type 0
NamesImage words None = IsAdminCommand words → ⊥
NamesImage words (Some image) = IsAdminCommand words × (slice_get words (length words - 1) ≡ Some image)
