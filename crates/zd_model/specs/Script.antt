-- The text of a list of requests, and why other bytes are refused.
use Rattle.std.specs.Prelude.{◌≡◌, ◌≢◌, ℕ, ◌+◌, ◌^◌, ◌<◌, ◌≤◌, List, [], ◌∷◌, ◌++◌, length}
use Rattle.std.specs.Prelude.{flat_map, sum_by, codes}
use Rattle.std.specs.List.{AllByRecursion}
use Rattle.zd_model.specs.Text.{numeral}
use Rattle.zd_model.specs.declared.requests.What.{What}
use Rattle.zd_model.specs.declared.requests.What.TheVariants.{Read, Write, Discard, Flush}
use Rattle.zd_model.specs.declared.requests.What.TheVariants.{ReadSectors, WriteSectors}
use Rattle.zd_model.specs.Requests.{block_count, operation_of, Operation}
use Rattle.zd_model.specs.Requests.Operation.{Reading, Writing, Discarding}
use Rattle.zd_model.specs.declared.requests.Request.{Request}
use Rattle.zd_model.specs.declared.texts.BadLine.{BadLine}
use Rattle.zd_model.specs.declared.texts.BadLine.TheVariants.{Form, Number, Caller, TooLong}

-- the letters of its form: one, or two where it names sectors
abbrev pub letters_of : What → List ℕ
letters_of (Read block count) = codes "r"
letters_of (Write block count seed) = codes "w"
letters_of (Discard block count) = codes "d"
letters_of Flush = codes "f"
letters_of (ReadSectors sector count) = codes "rs"
letters_of (WriteSectors sector count seed) = codes "ws"

-- the numbers behind the caller
abbrev pub numbers_of : What → List ℕ
numbers_of (Read block count) = block ∷ count ∷ []
numbers_of (Write block count seed) = block ∷ count ∷ seed ∷ []
numbers_of (Discard block count) = block ∷ count ∷ []
numbers_of Flush = []
numbers_of (ReadSectors sector count) = sector ∷ count ∷ []
numbers_of (WriteSectors sector count seed) = sector ∷ count ∷ seed ∷ []

-- the line of a request with numbers of any size: letters, numbers with one space before each, a
-- line feed
unfoldable pub line_text : Request → List ℕ
line_text r =
    letters_of r.what ++ flat_map (λ n. 32 ∷ numeral n) (r.caller ∷ numbers_of r.what) ++ 10 ∷ []

-- a place and a count within their bounds
pub record IsSpan (place count : ℕ) : Type 0 where
  pub place_most : place < 2 ^ 64
  pub some : 1 ≤ count
  pub count_most : count < 2 ^ 32

-- block or sector, count and seed are within their bounds
abbrev pub HasNumbers : What → Type 0
HasNumbers (Read block count) = IsSpan block count
HasNumbers (Write block count seed) = IsSpan block count × (seed < 2 ^ 32)
HasNumbers (Discard block count) = IsSpan block count
HasNumbers Flush = Unit {0}
HasNumbers (ReadSectors sector count) = IsSpan sector count
HasNumbers (WriteSectors sector count seed) = IsSpan sector count × (seed < 2 ^ 32)

-- of these blocks, how many are read or written
abbrev pub moved_of : Operation → ℕ → ℕ
moved_of Reading blocks = blocks
moved_of Writing blocks = blocks
moved_of operation blocks = 0

-- and how many are discarded
abbrev pub discarded_of : Operation → ℕ → ℕ
discarded_of Discarding blocks = blocks
discarded_of operation blocks = 0

-- how many blocks are read or written, in part or whole
abbrev pub moved_blocks : What → ℕ
moved_blocks what = moved_of (operation_of what) (block_count what)

-- how many are discarded
abbrev pub discarded_blocks : What → ℕ
discarded_blocks what = discarded_of (operation_of what) (block_count what)

-- so many requests, and so many blocks in all
pub record IsWithinLimits (plan : List Request) : Type 0 where
  pub requests : length plan ≤ 1_000_000
  pub moved : sum_by (λ r. moved_blocks r.what) plan ≤ 32_768
  pub discarded : sum_by (λ r. discarded_blocks r.what) plan ≤ 4_194_304

-- each request is right, the whole is within the limits, and the text begins with its lines
pub record BeginsWithLines (bytes : List ℕ) (plan : List Request) (rest : List ℕ) : Type 0 where
  pub text : bytes ≡ flat_map line_text plan ++ rest
  pub numbers : AllByRecursion (λ r. HasNumbers r.what) plan
  pub callers : AllByRecursion (λ r. r.caller ≤ 63) plan
  pub limits : IsWithinLimits plan

-- the bytes are the lines of this plan
pub record IsScript (bytes : List ℕ) (plan : List Request) : Type 0 where
  pub size : length bytes ≤ 67_108_864
  pub lines : BeginsWithLines bytes plan []

-- the first rule that the line at the front breaks, after the lines of this plan
pub data BreaksLineRule (plan : List Request) (rest : List ℕ) : BadLine → Type 0 where
  form :
      rest ≢ [] → ((r : Request) (tail : List ℕ) → rest ≢ line_text r ++ tail) →
      BreaksLineRule plan rest Form
  number : (r : Request) (tail : List ℕ) →
      rest ≡ line_text r ++ tail → (HasNumbers r.what → ⊥) →
      BreaksLineRule plan rest Number
  caller : (r : Request) (tail : List ℕ) →
      rest ≡ line_text r ++ tail → HasNumbers r.what → 63 < r.caller →
      BreaksLineRule plan rest Caller
  long : (r : Request) (tail : List ℕ) →
      rest ≡ line_text r ++ tail → HasNumbers r.what → r.caller ≤ 63 →
      (IsWithinLimits (plan ++ r ∷ []) → ⊥) →
      BreaksLineRule plan rest TooLong

-- why bytes are no script, and in which line, counted from 1; 0 for the whole
pub data RefusesScript (bytes : List ℕ) : ℕ → BadLine → Type 0 where
  size : 67_108_864 < length bytes → RefusesScript bytes 0 TooLong
  line : {why : BadLine} (plan : List Request) (rest : List ℕ) →
      length bytes ≤ 67_108_864 → BeginsWithLines bytes plan rest → BreaksLineRule plan rest why →
      RefusesScript bytes (length plan + 1) why
