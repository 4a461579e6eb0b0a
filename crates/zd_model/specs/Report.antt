-- The text that reports a history and how it ended.
use Rattle.std.specs.Prelude.{◌≡◌, ◌<◌, length, ℕ, ◌+◌, ◌*◌, ◌==◌, if◌then◌else◌, List, [], ◌∷◌}
use Rattle.std.specs.Prelude.{◌++◌, map, flat_map, codes}
use Rattle.std.specs.Str.{bytes_eq}
use Rattle.std.specs.List.{enumerate_from, join_with_byte, AllByRecursion}
use Rattle.zd_model.specs.Bytes.{u32_at, zero_sector, sectors_of}
use Rattle.zd_model.specs.Text.{numeral, hex}
use Rattle.zd_model.specs.Plain.{pattern}
use Rattle.zd_model.specs.Requests.{first_sector, sector_count, operation_of, Operation}
use Rattle.zd_model.specs.Requests.Operation.{Reading}
use Rattle.zd_model.specs.Script.{letters_of, numbers_of}
use Rattle.zd_model.specs.declared.requests.What.{What}
use Rattle.zd_model.specs.Plain.{Answer}
use Rattle.zd_model.specs.Plain.{Answer as replies}
use Rattle.zd_model.specs.History.{HistoryEntry}
use Rattle.zd_model.specs.declared.requests.Ending.{Ending}
use Rattle.zd_model.specs.declared.requests.Ending.TheVariants as endings
use Rattle.zd_model.specs.declared.texts.BadLine.{BadLine}
use Rattle.zd_model.specs.declared.texts.BadLine.TheVariants as lines
use Rattle.zd_model.specs.declared.texts.Outcome.{Outcome}
use Rattle.zd_model.specs.declared.texts.Outcome.TheVariants as outcomes
use Rattle.zd_model.specs.declared.texts.NoVolume.TheVariants as volumes
use Rattle.zd_base.specs.declared.numbers.Why.TheVariants as whys

-- a row of sectors: how many of zeros; a seed, and how many of its pattern; any other sector, by
-- itself
pub data Row : Type 0 where
  Zeros : ℕ → Row
  Pattern : ℕ → ℕ → Row
  Other : List ℕ → Row

-- sector i by itself: zeros, else the pattern of the seed in its first word, else its bytes
unfoldable pub row_of : ℕ × List ℕ → Row
row_of s =
    if bytes_eq s.1 zero_sector then Zeros 1 else
    (if bytes_eq s.1 (pattern (u32_at s.1 4) s.0) then Pattern (u32_at s.1 4) 1 else Other s.1)

-- rows with one more in front, joined to the first where it can be
abbrev pub with_first : Row → List Row → List Row
with_first (Zeros m) (Zeros n ∷ rows) = Zeros (m + n) ∷ rows
with_first (Pattern s m) (Pattern t n ∷ rows) =
    if s == t then Pattern s (m + n) ∷ rows else Pattern s m ∷ Pattern t n ∷ rows
with_first row rows = row ∷ rows

-- sectors with their numbers in rows, as long as possible
abbrev pub rows_of : List (ℕ × List ℕ) → List Row
rows_of [] = []
rows_of (s ∷ sectors) = with_first (row_of s) (rows_of sectors)

-- `zK`, `pSxK`, and `h` with the digits of the bytes
abbrev pub row_text : Row → List ℕ
row_text (Zeros n) = codes "z" ++ numeral n
row_text (Pattern s n) = codes "p" ++ numeral s ++ codes "x" ++ numeral n
row_text (Other bytes) = codes "h" ++ hex bytes

-- the rows of bytes that were read from sector i on, joined by commas
abbrev pub items_text : ℕ → List ℕ → List ℕ
items_text i bytes =
    join_with_byte 44 (map row_text (rows_of (enumerate_from i (sectors_of bytes))))

-- what was answered
abbrev pub reply_text : What → Answer → List ℕ
reply_text what (replies.Got bytes) = codes "data " ++ items_text (first_sector what) bytes
reply_text what replies.Done = codes "done"
reply_text what replies.Range = codes "range"
reply_text what replies.Fault = codes "fault"

-- the line of an entry: caller, request, piece, letters, place, count and seed, reply, `@` with the
-- writing calls
unfoldable pub entry_text : HistoryEntry → List ℕ
entry_text e = join_with_byte 32 (
    numeral e.caller ∷ numeral e.request ∷ numeral e.piece ∷ letters_of e.what
    ∷ map numeral (numbers_of e.what)
    ++ reply_text e.what e.reply ∷ (codes "@" ++ numeral e.at) ∷ []) ++ codes "\n"

-- a reply of an operation: bytes are that of a read alone, and are so many sectors
abbrev pub IsReplyOf : Operation → ℕ → Answer → Type 0
IsReplyOf Reading sectors (replies.Got bytes) =
    (length bytes ≡ 512 * sectors) × AllByRecursion (λ b. b < 256) bytes
IsReplyOf operation sectors (replies.Got bytes) = ⊥
IsReplyOf operation sectors reply = Unit {0}

-- the reply is one of this request: bytes stand with a read, and are those of its sectors
abbrev pub HasReply : What → Answer → Type 0
HasReply what reply = IsReplyOf (operation_of what) (sector_count what) reply

-- an entry that a report can show
abbrev pub IsReported : HistoryEntry → Type 0
IsReported e = HasReply e.what e.reply

-- the last line of a session's report
abbrev pub ending_text : Ending → List ℕ
ending_text endings.Ok = codes "end 0 ok\n"
ending_text (endings.Stopped whys.Device) = codes "end 4 device\n"
ending_text (endings.Stopped whys.Memory) = codes "end 7 memory\n"
ending_text (endings.Stopped whys.Generation) = codes "end 8 generation\n"

-- the lines of the entries in their order, then the line of the ending
unfoldable pub report : List HistoryEntry → Ending → List ℕ
report history ending = flat_map entry_text history ++ ending_text ending

-- the exit status of a run that ended so
abbrev pub outcome_status : Outcome → ℕ
outcome_status (outcomes.Ended endings.Ok) = 0
outcome_status (outcomes.Ended (endings.Stopped whys.Device)) = 4
outcome_status (outcomes.Ended (endings.Stopped whys.Memory)) = 7
outcome_status (outcomes.Ended (endings.Stopped whys.Generation)) = 8
outcome_status outcomes.Usage = 1
outcome_status (outcomes.BadScript line why) = 2
outcome_status (outcomes.NoVolume why) = 3
outcome_status outcomes.Source = 5
outcome_status outcomes.NotBuilt = 11

-- the rule that a line of a script breaks
abbrev pub why_text : BadLine → List ℕ
why_text lines.Form = codes "form"
why_text lines.Number = codes "number"
why_text lines.Caller = codes "caller"
why_text lines.TooLong = codes "long"

-- the last line of a run's output; that of a session's ending is the ending's
abbrev pub outcome_text : Outcome → List ℕ
outcome_text (outcomes.Ended ending) = ending_text ending
outcome_text outcomes.Usage = codes "end 1 usage\n"
outcome_text (outcomes.BadScript line why) =
    codes "end 2 script " ++ (numeral line ++ 32 ∷ (why_text why ++ 10 ∷ []))
outcome_text (outcomes.NoVolume volumes.NoSuperBlock) = codes "end 3 volume no-super-block\n"
outcome_text (outcomes.NoVolume volumes.Layout) = codes "end 3 volume layout\n"
outcome_text (outcomes.NoVolume (volumes.BadMap chunk)) =
    codes "end 3 volume map " ++ (numeral chunk ++ 10 ∷ [])
outcome_text (outcomes.NoVolume (volumes.BadBits zone block)) =
    codes "end 3 volume bits " ++ (numeral zone ++ 32 ∷ (numeral block ++ 10 ∷ []))
outcome_text outcomes.Source = codes "end 5 source\n"
outcome_text outcomes.NotBuilt = codes "end 11 not-built\n"

-- all that a run prints: the lines of its entries, then that of its outcome. Where a session ended,
-- it is the report
unfoldable pub run_output : List HistoryEntry → Outcome → List ℕ
run_output history outcome = flat_map entry_text history ++ outcome_text outcome
