-- What the rule of the turn says, in plain words.
use Rattle.std.specs.Prelude.{◌≡◌, ◌≢◌, ◌⊎◌, ℕ, List, slice_index, Option, Some}
use mathlib.Core.Option.{some, none}
use lib.ListN.{get_elem?}
use mathlib.Core.Logic.{◌↔◌}
use Rattle.atomic_table.specs.Table.{State}
use Rattle.zd_workers.specs.declared.view.SeatView.{SeatView}
use Rattle.zd_workers.specs.declared.view.SeatRole.{SeatRole}
use Rattle.zd_workers.specs.declared.view.SeatRole.TheVariants.{Spent, Waits, Opens, Holds}

abbrev pub HasTurn : SeatRole → Type 0
HasTurn Spent = ⊥
HasTurn Waits = ⊥
HasTurn Opens = Unit {0}
HasTurn Holds = Unit {0}

module _ {T : Type 0} where
  -- what this seat knows
  abbrev pub IsViewOf : State (Option T) SeatView → ℕ → SeatView → Type 0
  IsViewOf s seat v = get_elem? s.views seat ≡ some v

  module _ (constant_of : T → List (List ℕ)) where
    pub record IsOneTurn (s : State (Option T) SeatView) : Type 0 where
      -- word 0 is 1 exactly where a seat has the turn, and else 0
      pub word : (slice_index s.words 0 ≡ 0) ⊎ (slice_index s.words 0 ≡ 1)
      pub taken : (slice_index s.words 0 ≡ 1)
          ↔ ((j : ℕ) × (v : SeatView) × IsViewOf s j v × HasTurn v.role)
      -- never do two have it
      pub once : (i j : ℕ) (v w : SeatView) → IsViewOf s i v → IsViewOf s j w
          → HasTurn v.role → HasTurn w.role → i ≡ j
      -- where word 0 is 0, slot 0 holds a stepper whose constant stands in every live view
      pub home : slice_index s.words 0 ≡ 0 → (x : T) × (get_elem? s.homes 0 ≡ some (some (Some x)))
          × ((j : ℕ) (v : SeatView) → IsViewOf s j v → v.role ≢ Spent → v.constant ≡ constant_of x)
      -- slot 0 is out exactly where a seat has the turn and has taken it
      pub out : (get_elem? s.homes 0 ≡ some none)
          ↔ ((j : ℕ) × (v : SeatView) × IsViewOf s j v × (v.role ≡ Holds))
      -- only the maker's seat has the turn before it has taken the slot
      pub maker : (j : ℕ) (v : SeatView) → IsViewOf s j v → v.role ≡ Opens → j ≡ 0
      -- every live view has the same constant
      pub same : (i j : ℕ) (v w : SeatView) → IsViewOf s i v → IsViewOf s j w
          → v.role ≢ Spent → w.role ≢ Spent → v.constant ≡ w.constant
