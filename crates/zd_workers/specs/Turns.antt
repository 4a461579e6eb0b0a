-- The rule of the turn, and what each step of a seat tells.
use Rattle.std.specs.Prelude.{◌≡◌, ◌≢◌, ℕ, List, [], ◌∷◌, Option, Some, None}
use mathlib.Core.Option.{some, none}
use mathlib.Core.Option as maybe
use lib.ListN.{get_elem?}
use Rattle.atomic_table.specs.Table.{State, Me, Step}
use Rattle.atomic_table.specs.Seated.{TableId}
use Rattle.atomic_table.specs.declared.shared.Seat.{Seat}
use Rattle.zd_workers.specs.declared.view.SeatView.{SeatView}
use Rattle.zd_workers.specs.declared.view.SeatRole.{SeatRole}
use Rattle.zd_workers.specs.declared.view.SeatRole.TheVariants.{Spent, Waits, Opens, Holds}

-- where the turn is: with no seat, and the slot holds the stepper; with a seat that has not taken
-- the slot, which is empty; with a seat that has taken the slot
pub data Place (T : Type 0) : Type 0 where
  free : T → Place T
  opening : ℕ → Place T
  held : ℕ → Place T

abbrev pub as_view : SeatRole → List (List ℕ) → SeatView
as_view role constant = record { role = role; constant = constant }

module _ {T : Type 0} where
  abbrev pub word_of : Place T → ℕ
  word_of (free x) = 0
  word_of (opening j) = 1
  word_of (held j) = 1

  abbrev pub home_of : Place T → maybe.Option (Option T)
  home_of (free x) = some (Some x)
  home_of (opening j) = some None
  home_of (held j) = none

  -- what a role tells of the place; only the maker's seat, number 0, has the turn without the slot
  abbrev pub FitsPlace : Place T → ℕ → SeatRole → Type 0
  FitsPlace place seat Spent = Unit {0}
  FitsPlace place seat Waits = Unit {0}
  FitsPlace place seat Opens = (place ≡ opening seat) × (seat ≡ 0)
  FitsPlace place seat Holds = place ≡ held seat

  -- each live view has the constant, and has the turn only where its seat has it
  abbrev pub Knows : Place T → List (List ℕ) → ℕ → SeatView → Type 0
  Knows place constant seat v = (v.role ≢ Spent → v.constant ≡ constant) × FitsPlace place seat v.role

  -- the seat that has the turn has a view that says so
  abbrev pub IsSeated : Place T → List SeatView → Type 0
  IsSeated (free x) views = Unit {0}
  IsSeated (opening j) views = (v : SeatView) × (get_elem? views j ≡ some v) × (v.role ≡ Opens)
  IsSeated (held j) views = (v : SeatView) × (get_elem? views j ≡ some v) × (v.role ≡ Holds)

  module _ (constant_of : T → List (List ℕ)) where
    -- a stepper in the slot has the constant
    abbrev pub Carries : Place T → List (List ℕ) → Type 0
    Carries (free x) constant = constant_of x ≡ constant
    Carries (opening j) constant = Unit {0}
    Carries (held j) constant = Unit {0}

    -- the rule: word, slot and views tell of one place
    pub record TurnKept (s : State (Option T) SeatView) : Type 0 where
      pub place : Place T
      pub constant : List (List ℕ)
      pub words : s.words ≡ word_of place ∷ []
      pub homes : s.homes ≡ home_of place ∷ []
      pub carries : Carries place constant
      pub each_seat : (j : ℕ) (v : SeatView) → get_elem? s.views j ≡ some v → Knows place constant j v
      pub seated : IsSeated place s.views

    -- where the word was 0, the seat has turn and slot, with the stepper; else nothing changed
    abbrev pub tried : Step (Option T) → Me (Option T) SeatView → ℕ → Me (Option T) SeatView → Type 0
    tried st m n m' = (n ≡ 0 → (x : T) × (m' ≡ (as_view Holds m.0.constant, (0, Some x) ∷ m.1))
        × (constant_of x ≡ m.0.constant)) × (n ≢ 0 → m' ≡ m)

  -- the seat has the slot too, which was empty
  abbrev pub opened : Step (Option T) → Me (Option T) SeatView → ℕ → Me (Option T) SeatView → Type 0
  opened st m n m' = m' ≡ (as_view Holds m.0.constant, (0, None) ∷ m.1)

  -- the seat waits, with no slot
  abbrev pub released : Step (Option T) → Me (Option T) SeatView → ℕ → Me (Option T) SeatView → Type 0
  released st m n m' = m' ≡ (as_view Waits m.0.constant, [])

  -- a seat of this table, without the turn
  abbrev pub IsWaiting : TableId → List (List ℕ) → Seat (Option T) SeatView → Type 0
  IsWaiting table constant seat = (seat.table_id ≡ table) × (seat.me ≡ (as_view Waits constant, []))

  -- a seat of this table that has the turn and the slot, which it has emptied
  abbrev pub IsHolding : TableId → List (List ℕ) → Seat (Option T) SeatView → Type 0
  IsHolding table constant seat = (seat.table_id ≡ table)
      × (seat.me ≡ (as_view Holds constant, (0, None) ∷ []))

  -- the constant that a seat knows
  abbrev pub constant_at : Seat (Option T) SeatView → List (List ℕ)
  constant_at seat = seat.me.0.constant

-- what a new seat beside another knows
abbrev pub beside : SeatView → SeatView
beside v = as_view Waits v.constant
