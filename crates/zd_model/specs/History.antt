-- When a history is one of the plain list of sectors, and when it keeps each caller's order.
use Rattle.std.specs.Prelude.{◌≡◌, ◌⊎◌, ℕ, ◌+◌, ◌≤◌, Bool, false, ◌==◌, List, [], ◌∷◌}
use Rattle.std.specs.Prelude.{◌++◌, length, map, fold, filter}
use Rattle.std.specs.List.{AllByRecursion}
use Rattle.zd_model.specs.Requests.{operation_of, Operation}
use Rattle.zd_model.specs.Requests.Operation.{Reading, Writing, Discarding, Flushing}
use Rattle.zd_model.specs.Plain.{ends_past, reply_to, array_after}
use Rattle.zd_model.specs.Pieces.{pieces_of}
use Rattle.zd_model.specs.declared.requests.What.{What}
use Rattle.zd_model.specs.declared.requests.What.TheVariants.{Flush}
use Rattle.zd_model.specs.Plain.{Answer}
use Rattle.zd_model.specs.Plain.Answer.{Done, Fault}
use Rattle.zd_model.specs.declared.requests.Piece.{Piece}
use Rattle.zd_model.specs.declared.requests.Request.{Request}

-- a piece that was answered, when so many writing calls had returned since opening ended
pub record HistoryEntry : Type 0 where
  pub caller : ℕ
  pub request : ℕ
  pub piece : ℕ
  pub what : What
  pub reply : Answer
  pub at : ℕ

-- an entry changes the array where its reply is Done
abbrev pub entry_after : List (List ℕ) → What → Answer → List (List ℕ)
entry_after array what Done = array_after array what
entry_after array what reply = array

-- the array after the last entry, where these are the sectors before the first
abbrev pub last_array : List (List ℕ) → List HistoryEntry → List (List ℕ)
last_array base history = fold (λ array e. entry_after array e.what e.reply) base history

-- a flush that failed
abbrev pub IsFailedFlush : HistoryEntry → Type 0
IsFailedFlush e = (e.what ≡ Flush) × (e.reply ≡ Fault)

-- what may fail: a read; a write that is the last entry; a flush where each later entry is a flush
-- that failed
abbrev pub MayFail : Operation → List HistoryEntry → Type 0
MayFail Reading later = Unit {0}
MayFail Writing later = later ≡ []
MayFail Discarding later = ⊥
MayFail Flushing later = AllByRecursion IsFailedFlush later

-- the entry has the reply of the array before it, or it is in range and may fail
abbrev pub Answers : List (List ℕ) → HistoryEntry → List HistoryEntry → Type 0
Answers array e later =
    (e.reply ≡ reply_to array e.what)
    ⊎ ((e.reply ≡ Fault) × (ends_past (length array) e.what ≡ false)
    × MayFail (operation_of e.what) later)

-- each entry in turn, from this array on
abbrev pub AllAnswer : List (List ℕ) → List HistoryEntry → Type 0
AllAnswer array [] = Unit {0}
AllAnswer array (e ∷ later) =
    Answers array e later × AllAnswer (entry_after array e.what e.reply) later

-- how many writing calls an operation takes at least; none where it ends past the device
abbrev pub calls_needed : Operation → Bool → ℕ
calls_needed Writing false = 1
calls_needed operation past = 0

-- how much greater the number of writing calls is than that of the entry before: by one at least
-- for a write in range
abbrev pub waits : ℕ → What → ℕ
waits sectors what = calls_needed (operation_of what) (ends_past sectors what)

-- the numbers of writing calls never fall, and rise at a write in range
abbrev pub InTime : ℕ → List HistoryEntry → Type 0
InTime sectors [] = Unit {0}
InTime sectors (e ∷ []) = Unit {0}
InTime sectors (e ∷ f ∷ later) = (e.at + waits sectors f.what ≤ f.at) × InTime sectors (f ∷ later)

-- the history of a plain list of sectors
pub record IsLegal (base : List (List ℕ)) (history : List HistoryEntry) : Type 0 where
  pub answers : AllAnswer base history
  pub in_time : InTime (length base) history

-- what an entry and a piece have in common
pub record Mark : Type 0 where
  pub caller : ℕ
  pub request : ℕ
  pub piece : ℕ
  pub what : What

-- that of a piece
abbrev pub mark_of_piece : Piece → Mark
mark_of_piece p = record { caller = p.caller; request = p.request; piece = p.piece; what = p.what }

-- that of an entry
abbrev pub mark_of_entry : HistoryEntry → Mark
mark_of_entry e = record { caller = e.caller; request = e.request; piece = e.piece; what = e.what }

-- those of one caller
abbrev pub marks_of_caller : ℕ → List Mark → List Mark
marks_of_caller caller marks = filter (λ m. m.caller == caller) marks

-- each caller's entries are the first of its pieces, in their order; chunks have z blocks
abbrev pub IsOrdered : ℕ → ℕ → List Request → List HistoryEntry → Type 0
IsOrdered z blocks plan history = (caller : ℕ) → (rest : List Mark) ×
    (marks_of_caller caller (map mark_of_piece (pieces_of z blocks plan))
    ≡ marks_of_caller caller (map mark_of_entry history) ++ rest)
