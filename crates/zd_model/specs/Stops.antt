-- What a sector may hold after a stop at call k.
use Rattle.std.specs.Prelude.{◌≡◌, ◌⊎◌, ℕ, ◌+◌, ◌<◌, ◌≤◌, Bool, true, false, nat_le, ◌&&◌, List, []}
use Rattle.std.specs.Prelude.{◌∷◌, if◌then◌else◌, length, slice_index_or, filter, Option, None}
use Rattle.std.specs.Prelude.{IsSomeAnd}
use Rattle.std.specs.List.{AllByRecursion, list_any, last_or}
use Rattle.zd_model.specs.Bytes.{zero_sector}
use Rattle.zd_model.specs.Requests.{first_sector, sector_count, operation_of, Operation}
use Rattle.zd_model.specs.Requests.Operation.{Writing, Discarding}
use Rattle.zd_model.specs.Plain.{ends_past, put_by}
use Rattle.zd_model.specs.History.{last_array}
use Rattle.zd_model.specs.declared.requests.What.{What}
use Rattle.zd_model.specs.declared.requests.What.TheVariants.{Flush}
use Rattle.zd_model.specs.Plain.{Answer}
use Rattle.zd_model.specs.Plain.Answer.{Done, Fault}
use Rattle.zd_model.specs.History.{HistoryEntry}

-- no entry was made later than when so many calls had returned
abbrev pub AreBy : ℕ → List HistoryEntry → Type 0
AreBy now history = AllByRecursion (λ e. e.at ≤ now) history

-- a flush that was done when just so many calls had returned
pub record IsFlushAt (at : ℕ) (e : HistoryEntry) : Type 0 where
  pub flush : e.what ≡ Flush
  pub done : e.reply ≡ Done
  pub when : e.at ≡ at

-- a flush that was done
abbrev pub is_done_flush : What → Answer → Bool
is_done_flush Flush Done = true
is_done_flush what reply = false

-- a flush that was acknowledged when k calls had returned
abbrev pub is_acknowledged : ℕ → HistoryEntry → Bool
is_acknowledged k e = is_done_flush e.what e.reply && nat_le e.at k

-- the last flush that was acknowledged then, or none
abbrev pub last_flush : ℕ → List HistoryEntry → Option HistoryEntry
last_flush k history = last_or None (filter (is_acknowledged k) history)

-- the entries through the last acknowledged flush; none where there is none
abbrev pub flushed : ℕ → List HistoryEntry → List HistoryEntry
flushed k [] = []
flushed k (e ∷ history) =
    if list_any (is_acknowledged k) (e ∷ history) then e ∷ flushed k history else []

-- the entries after it
abbrev pub unflushed : ℕ → List HistoryEntry → List HistoryEntry
unflushed k [] = []
unflushed k (e ∷ history) =
    if list_any (is_acknowledged k) (e ∷ history) then unflushed k history else e ∷ history

-- sector i is one of those that it touches
abbrev pub Covers : What → ℕ → Type 0
Covers what i = (first_sector what ≤ i) × (i < first_sector what + sector_count what)

-- its operation may have reached the disk when k calls had returned: a write whose call is done or
-- the next one, a discard that was done
abbrev pub MayCount : Operation → ℕ → HistoryEntry → Type 0
MayCount Writing k e = (e.at ≤ k + 1) × ((e.reply ≡ Done) ⊎ (e.reply ≡ Fault))
MayCount Discarding k e = (e.at ≤ k) × (e.reply ≡ Done)
MayCount operation k e = ⊥

-- what the request of entry e, which stands after the flush, may have put into sector i
abbrev pub Puts : ℕ → ℕ → List ℕ → HistoryEntry → Type 0
Puts k i value e =
    MayCount (operation_of e.what) k e
    × Covers e.what i
    × IsSomeAnd (put_by e.what) (λ put. value ≡ put i)

-- one of these entries does, and is in range
abbrev pub SomePuts : ℕ → ℕ → ℕ → List ℕ → List HistoryEntry → Type 0
SomePuts sectors k i value [] = ⊥
SomePuts sectors k i value (e ∷ later) =
    ((ends_past sectors e.what ≡ false) × Puts k i value e) ⊎ SomePuts sectors k i value later

-- what sector i may hold where k calls had returned and the next may be under way: its value at the
-- flush, or what a later entry puts there
abbrev pub MayHold : List (List ℕ) → List HistoryEntry → ℕ → ℕ → List ℕ → Type 0
MayHold base history k i value =
    (value ≡ slice_index_or (last_array base (flushed k history)) i zero_sector)
    ⊎ SomePuts (length base) k i value (unflushed k history)
