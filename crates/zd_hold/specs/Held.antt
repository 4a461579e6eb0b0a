-- What the entries so far say of a value in a sector.
use Rattle.std.specs.Prelude.{◌≡◌, ◌↔◌, ℕ, Bool, IsTrue, List}
use Rattle.zd_model.specs.History.{HistoryEntry}
use Rattle.zd_model.specs.Plain.{Answer}
use Rattle.zd_model.specs.Plain.Answer.{Done}
use Rattle.zd_model.specs.Safe.{last_at}
use Rattle.zd_model.specs.Stops.{MayHold}
use Rattle.zd_hold.specs.declared.held.Asked.{Asked}
use Rattle.zd_hold.specs.declared.held.Held.{Held}

-- the plain array has the value, after an entry that was answered so and puts it there, or another
abbrev pub now_after : Bool → Answer → Bool → Bool
now_after before Done same = same
now_after before reply same = before

-- whether the plain array has the value there, and whether the sector may hold it
pub record IsHeld (base : List (List ℕ)) (history : List HistoryEntry) (asked : Asked) (held : Held) : Type 0 where
  pub now : IsTrue held.now ↔ (asked.value.now ≡ last_at base history asked.sector)
  pub may : IsTrue held.may ↔ MayHold base history asked.calls asked.sector asked.value.now
