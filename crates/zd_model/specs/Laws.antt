-- What follows from the definitions.
use Rattle.std.specs.Prelude.{◌≡◌, ◌↔◌, ℕ, ◌+◌, ◌*◌, ◌/◌, ◌<◌, ◌≤◌, false, None, List, [], ◌∷◌, ◌++◌, map, Ok}
use Rattle.std.specs.Prelude.{All, codes, length}
use Rattle.std.specs.List.{AllByRecursion, last_or}
use Rattle.zd_model.specs.Bytes.{AreBytes, IsSector}
use Rattle.zd_model.specs.Image.{Image, IsImage, Same}
use Rattle.zd_model.specs.Text.{numeral}
use Rattle.zd_model.specs.Volume.{Chosen, IsWellFormed, chosen, content}
use Rattle.zd_base.specs.Geometry.{Shape, IsShape}
use Rattle.zd_model.specs.Faults.{bad_bit, bad_chunk}
use Rattle.zd_model.specs.Tables.{BitsFollowRules, MapFollowsRules, Tables}
use Rattle.zd_base.specs.declared.layout.Layout.{Layout}
use Rattle.zd_model.specs.declared.metadata.MapEntry.{MapEntry}
use Rattle.zd_model.specs.Super.{IsSuper, HasBlock, decoded, block_of}
use Rattle.zd_model.specs.Plain.{ends_past, pattern}
use Rattle.zd_model.specs.Requests.{block_count, first_block, first_sector, sector_count}
use Rattle.zd_model.specs.Requests.{operation_of, Moves}
use Rattle.zd_model.specs.Pieces.{pieces_of_request}
use Rattle.zd_model.specs.Cut.{IsCut}
use Rattle.zd_model.specs.Script.{IsScript, RefusesScript}
use Rattle.zd_model.specs.Report.{IsReported, outcome_status, outcome_text, report, run_output}
use Rattle.zd_model.specs.declared.texts.Outcome.{Outcome}
use Rattle.zd_model.specs.declared.texts.Outcome.TheVariants as outcomes
use Rattle.zd_model.specs.declared.metadata.Super.{Super}
use Rattle.zd_model.specs.declared.requests.Request.{Request}
use Rattle.zd_model.specs.declared.requests.What.{What}
use Rattle.zd_model.specs.declared.requests.Piece.{Piece}
use Rattle.zd_model.specs.History.{HistoryEntry, IsLegal, last_array}
use Rattle.zd_model.specs.Stops.{Covers, flushed, last_flush, unflushed}
use Rattle.zd_model.specs.declared.texts.BadLine.{BadLine}
use Rattle.zd_model.specs.declared.requests.Ending.{Ending}

-- each record whose fields have their sizes and fit its version has a block
abbrev pub EachRecordHasABlock : Type 0
EachRecordHasABlock = (s : Super) → HasBlock s → IsSuper (block_of s) s

-- and no other record has one
abbrev pub NoOtherRecordHasABlock : Type 0
NoOtherRecordHasABlock = (block : List ℕ) (s : Super) → IsSuper block s → HasBlock s

-- which is the only one
abbrev pub OneRecordHasOneBlock : Type 0
OneRecordHasOneBlock = (a b : List ℕ) (s : Super) → IsSuper a s → IsSuper b s → a ≡ b

-- and a block has one record
abbrev pub OneBlockHasOneRecord : Type 0
OneBlockHasOneRecord =
    (block : List ℕ) (s t : Super) → IsSuper block s → IsSuper block t → s ≡ t

-- a block decodes to the record for which it stands, and to no other
abbrev pub DecodesToItsRecord : Type 0
DecodesToItsRecord =
    (block : List ℕ) (s : Super) → AreBytes 4096 block → (decoded block ≡ Ok s) ↔ IsSuper block s

-- the blocks that a request touches are those in which it has a sector
abbrev pub TouchedBlocksHaveASector : Type 0
TouchedBlocksHaveASector = (what : What) (x : ℕ) → 1 ≤ sector_count what →
    ((first_block what ≤ x) × (x < first_block what + block_count what))
    ↔ ((i : ℕ) × Covers what i × (i / 8 ≡ x))

-- the pieces of a request follow each other, cover it, and lie in one chunk each
abbrev pub PiecesCutARequest : Type 0
PiecesCutARequest = (z blocks n : ℕ) (r : Request) →
    1 ≤ z → Moves (operation_of r.what) → 1 ≤ sector_count r.what →
    ends_past (8 * blocks) r.what ≡ false →
    IsCut z (first_sector r.what) (first_sector r.what + sector_count r.what)
    (map (λ (p : Piece). p.what) (pieces_of_request z blocks (n, r)))

-- a script is that of one plan
abbrev pub OneScriptHasOnePlan : Type 0
OneScriptHasOnePlan = (bytes : List ℕ) (plan other : List Request) →
    IsScript bytes plan → IsScript bytes other → plan ≡ other

-- a report is that of one history and one ending
abbrev pub OneReportHasOneHistory : Type 0
OneReportHasOneHistory = (history other : List HistoryEntry) (ending last : Ending) →
    AllByRecursion IsReported history → AllByRecursion IsReported other →
    report history ending ≡ report other last → (history ≡ other) × (ending ≡ last)

-- an output is that of one history and one outcome
abbrev pub OneOutputHasOneHistory : Type 0
OneOutputHasOneHistory = (history other : List HistoryEntry) (outcome last : Outcome) →
    AllByRecursion IsReported history → AllByRecursion IsReported other →
    run_output history outcome ≡ run_output other last → (history ≡ other) × (outcome ≡ last)

-- a report is the output of a session's ending
abbrev pub AReportIsAnOutput : Type 0
AReportIsAnOutput = (history : List HistoryEntry) (ending : Ending) →
    report history ending ≡ run_output history (outcomes.Ended ending)

-- the line of an outcome begins with its status
abbrev pub AnOutcomeTellsItsStatus : Type 0
AnOutcomeTellsItsStatus = (outcome : Outcome) → (rest : List ℕ) ×
    (outcome_text outcome ≡ codes "end " ++ numeral (outcome_status outcome) ++ 32 ∷ rest)

-- what a write puts into a sector is a sector
abbrev pub PatternsAreSectors : Type 0
PatternsAreSectors = (seed i : ℕ) → IsSector (pattern seed i)

-- the plain array keeps its length, and stays one of sectors
abbrev pub ArraysStaySectors : Type 0
ArraysStaySectors = (base : List (List ℕ)) (history : List HistoryEntry) → All IsSector base →
    (length (last_array base history) ≡ length base) × All IsSector (last_array base history)

-- over an array of sectors, each history of the plain array can be reported
abbrev pub LegalHistoriesAreReported : Type 0
LegalHistoriesAreReported = (base : List (List ℕ)) (history : List HistoryEntry) →
    All IsSector base → IsLegal base history → AllByRecursion IsReported history

-- a history is parted behind the last flush that was acknowledged when k calls had returned
abbrev pub HistoriesPartAtTheLastFlush : Type 0
HistoriesPartAtTheLastFlush = (k : ℕ) (history : List HistoryEntry) →
    (history ≡ flushed k history ++ unflushed k history)
    × (last_or None (flushed k history) ≡ last_flush k history)
    × (last_flush k (unflushed k history) ≡ None)

-- a map follows the rules exactly where no chunk is bad
abbrev pub NoBadChunkIsRight : Type 0
NoBadChunkIsRight = (g : Shape) (l : Layout) (entries : List MapEntry) →
    (bad_chunk g l [] 0 entries ≡ None) ↔ MapFollowsRules g l entries

-- beside such a map, bitmaps follow the rules exactly where no bit is bad
abbrev pub NoBadBitIsRight : Type 0
NoBadBitIsRight = (g : Shape) (l : Layout) (pointer : ℕ → ℕ) (t : Tables) →
    MapFollowsRules g l t.entries → (bad_bit g pointer t ≡ None) ↔ BitsFollowRules g pointer t

-- bytes that are refused are no script, and are refused in one line for one rule
abbrev pub OneTextHasOneRefusal : Type 0
OneTextHasOneRefusal =
    (bytes : List ℕ) (plan : List Request) (m n : ℕ) (why other : BadLine) →
    RefusesScript bytes m why →
    (IsScript bytes plan → ⊥) × (RefusesScript bytes n other → (m ≡ n) × (why ≡ other))

-- the content of a well-formed image has a sector for each place of the logical device
abbrev pub ContentsAreSectors : Type 0
ContentsAreSectors = (image : Image) (c : Chosen) →
    IsImage image → IsShape image.geometry → IsWellFormed image c →
    (length (content image c) ≡ c.head.layout.chunks * image.geometry.zone_blocks * 8)
    × All IsSector (content image c)

-- of images that hold the same, the same set is chosen
abbrev pub SameImagesChooseTheSame : Type 0
SameImagesChooseTheSame = (old new : Image) →
    IsImage old → IsShape old.geometry → Same old new → chosen new ≡ chosen old

-- both are well-formed, or neither
abbrev pub SameImagesAreFormedTheSame : Type 0
SameImagesAreFormedTheSame = (old new : Image) (c : Chosen) →
    IsImage old → IsImage new → IsShape old.geometry → Same old new →
    IsWellFormed old c ↔ IsWellFormed new c

-- and they have the same content
abbrev pub SameImagesHaveTheSameContent : Type 0
SameImagesHaveTheSameContent = (old new : Image) (c : Chosen) →
    IsImage old → IsShape old.geometry → Same old new → IsWellFormed old c →
    content new c ≡ content old c
