-- THE TABLES OF A WRITE: the chunk gets an entry that it may have, and no block is valid in both its zones.
use Rattle.std.proofs.Common.{◌≡◌, ◌⊎◌, ℕ, ◌<◌, ◌≤◌, true, false, List, Option, Some, IsSomeAnd, inl, inr}
use Rattle.std.proofs.Common.{sym, ◌∙◌, subst, arith}
use Rattle.std.proofs.lemmas.Bool.{false_from_ne_true, false≢true}
use Rattle.zd_base.specs.Geometry.{zone_count}
use Rattle.zd_base.specs.Layout.{first_data_zone}
use Rattle.zd_model.specs.Tables.{NamesZone, Tables, entry_of, is_valid}
use Rattle.zd_model.specs.declared.metadata.MapEntry.{MapEntry}
use Rattle.zd_model.specs.declared.requests.What.{What}
use Rattle.zd_model.proofs.FaultLaws.{none_some, some_is}
use Rattle.zd_tables.specs.Tables.{tables_in}
use Rattle.zd_volume.specs.Discards.{chunk_touched, range_first}
use Rattle.zd_volume.specs.Flights.{tables_now}
use Rattle.zd_volume.specs.Sets.{AreSets, old_tables}
use Rattle.zd_volume.specs.Volumes.{IsFixed, PlainVolume, sets_of}
use Rattle.zd_volume.specs.declared.work.Place.{Place}
use Rattle.zd_volume.specs.declared.work.Place.TheVariants.{Buffer, Main, NewBuffer, NewMain}
use Rattle.zd_volume.proofs.DropTables.{in_or_out}
use Rattle.zd_routes.specs.Changes.{ChangesChunk, MayHave}
use Rattle.zd_routes.specs.Routes.{GoesTo, IsGoal, IsRoute, WritesRange, entry_touched, entry_with, other_zone}
use Rattle.zd_routes.proofs.ChunkSets.{sets_changed}
use Rattle.zd_routes.proofs.GoalLaws.{goal_alone, goal_alone_old, goal_data, goal_named, least_conventional}
use Rattle.zd_routes.proofs.GoalLaws.{least_spare, no_buffer}

-- the zones of the entry then: those that the chunk had, and the zone that is written
pub entry_from : (e : MapEntry) (place : Place) (zone z : ℕ) → NamesZone (entry_with e place zone) z
    → NamesZone e z ⊎ (z ≡ zone)
entry_from e Main zone z n = inl n
entry_from e NewMain zone z n = elim n [
  | inl h ↦ inr (sym (some_is zone z h))
  | inr h ↦ absurd (none_some z h)
]
entry_from e Buffer zone z n = inl n
entry_from e NewBuffer zone z n = elim n [
  | inl h ↦ inl (inl h)
  | inr h ↦ inr (sym (some_is zone z h))
]

-- the zone in which blocks become invalid is one that the chunk had
pub other_named : (e : MapEntry) (place : Place) (y : ℕ) → other_zone e place ≡ Some y → NamesZone e y
other_named e Main y is = inr is
other_named e NewMain y is = absurd (none_some y is)
other_named e Buffer y is = inl is
other_named e NewBuffer y is = inl is

module _ (v : PlainVolume) (fixed : IsFixed v) (what : What) (place : Place) (zone : ℕ)
    (route : IsRoute v what place zone) where
  abbrev c : ℕ
  c = chunk_touched v.geometry.zone_blocks what

  abbrev e : MapEntry
  e = entry_touched v what

  abbrev t : Tables
  t = tables_now v

  -- the chunk gives up no zone
  pub entry_keeps : (z : ℕ) → NamesZone (entry_touched v what) z
      → NamesZone (entry_with (entry_touched v what) place zone) z
  entry_keeps z own = by place route.goes
    where
      by : (at : Place)
          → GoesTo v.geometry v.pointers (entry_touched v what) (range_first v.geometry.zone_blocks what) at
          → NamesZone (entry_with (entry_touched v what) at zone) z
      by Main goes = own
      by NewMain goes = elim own [
        | inl h ↦ absurd (none_some z (sym goes ∙ h))
        | inr h ↦ absurd (no_buffer (sets_of v) fixed.sets c z goes h)
      ]
      by Buffer goes = own
      by NewBuffer goes = elim own [
        | inl h ↦ inl h
        | inr h ↦ absurd (none_some z (sym goes.1 ∙ h))
      ]

  -- a buffer is conventional, and stands beside a sequential zone
  buffer_beside : (b : ℕ) → (entry_with (entry_touched v what) place zone).buffer ≡ Some b
      → (b < v.geometry.conv)
      × IsSomeAnd (entry_with (entry_touched v what) place zone).zone (λ z. v.geometry.conv ≤ z)
  buffer_beside b is = by place route.goes route.goal is
    where
      by : (at : Place)
          → GoesTo v.geometry v.pointers (entry_touched v what) (range_first v.geometry.zone_blocks what) at
          → IsGoal (entry_touched v what) v.division at zone
          → (entry_with (entry_touched v what) at zone).buffer ≡ Some b
          → (b < v.geometry.conv)
          × IsSomeAnd (entry_with (entry_touched v what) at zone).zone (λ z. v.geometry.conv ≤ z)
      by Main goes goal at = fixed.sets.new_rules.map.buffers c b at
      by NewMain goes goal at = absurd (none_some b at)
      by Buffer goes goal at = fixed.sets.new_rules.map.buffers c b at
      by NewBuffer goes goal at =
          let same = some_is zone b at in
          let low = least_conventional v fixed what place zone route goal in (
            omega (arith, low, same),
            subst (λ (o : Option ℕ). IsSomeAnd o (λ z. v.geometry.conv ≤ z)) (sym goes.0.1) goes.0.2,
          )

  -- THE ENTRY is one that the chunk may have
  pub may_write : MayHave (sets_of v) (chunk_touched v.geometry.zone_blocks what)
      (entry_with (entry_touched v what) place zone)
  may_write = record {
    data_zones = λ z n. elim (entry_from e place zone z n) [
      | inl own ↦ fixed.sets.new_rules.map.data_zones c z own
      | inr same ↦ subst (λ (y : ℕ). (first_data_zone v.geometry v.head.layout ≤ y) × (y < zone_count v.geometry))
          (sym same) (goal_data v fixed what place zone route)
    ];
    buffers = buffer_beside;
    only = λ d z named n. elim (entry_from e place zone z n) [
      | inl own ↦ fixed.sets.new_rules.map.named_once d c z named own
      | inr same ↦
          goal_alone v fixed what place zone route d (subst (λ (y : ℕ). NamesZone (entry_of t d) y) same named)
    ];
    limbo = λ d z named n. elim (entry_from e place zone z n) [
      | inl own ↦ fixed.sets.limbo d c z named own
      | inr same ↦
          goal_alone_old v fixed what place zone route d
          (subst (λ (y : ℕ). NamesZone (entry_of (old_tables (sets_of v)) d) y) same named)
    ];
  }

  -- a block that is valid in the zone then isn't in the buffer, where it is as it was in both
  apart_before : (at : Place)
      → GoesTo v.geometry v.pointers (entry_touched v what) (range_first v.geometry.zone_blocks what) at
      → IsGoal (entry_touched v what) v.division at zone
      → (z b x : ℕ) → (entry_with (entry_touched v what) at zone).zone ≡ Some z
      → (entry_with (entry_touched v what) at zone).buffer ≡ Some b → x < v.geometry.zone_blocks
      → is_valid (tables_now v) z x ≡ true → is_valid (tables_now v) b x ≡ false
  apart_before Main goes goal z b x is buffer within valid =
      fixed.sets.new_rules.bits.one_place c z b x is buffer within valid
  apart_before NewMain goes goal z b x is buffer within valid = absurd (none_some b buffer)
  apart_before Buffer goes goal z b x is buffer within valid =
      fixed.sets.new_rules.bits.one_place c z b x is buffer within valid
  apart_before NewBuffer goes goal z b x is buffer within valid =
      let spare = least_spare v fixed what place zone route goal in
      subst (λ (y : ℕ). is_valid t y x ≡ false) (some_is zone b buffer)
      (false_from_ne_true (is_valid t zone x)
      (λ set. spare.new (fixed.sets.new_rules.bits.named zone x spare.data_zone.1 within set)))

  -- of the chunk's zones, one is written, and in the other blocks become invalid
  written_or_cleared : (at : Place) → IsGoal (entry_touched v what) v.division at zone
      → (z b : ℕ) → (entry_with (entry_touched v what) at zone).zone ≡ Some z
      → (entry_with (entry_touched v what) at zone).buffer ≡ Some b
      → (other_zone (entry_touched v what) at ≡ Some z) ⊎ (other_zone (entry_touched v what) at ≡ Some b)
  written_or_cleared Main goal z b is buffer = inr buffer
  written_or_cleared NewMain goal z b is buffer = absurd (none_some b buffer)
  written_or_cleared Buffer goal z b is buffer = inl is
  written_or_cleared NewBuffer goal z b is buffer = inl is

  module _ (first end : ℕ) (bytes : List ℕ)
      (did : WritesRange (sets_of v) (chunk_touched v.geometry.zone_blocks what) first end
      (entry_with (entry_touched v what) place zone) zone (other_zone (entry_touched v what) place) bytes) where
    abbrev u : Tables
    u = tables_in v.geometry v.head.layout bytes

    -- THE CHANGE of the tables
    pub written_changes : ChangesChunk v.geometry (chunk_touched v.geometry.zone_blocks what)
        (entry_with (entry_touched v what) place zone) (tables_now v) (tables_in v.geometry v.head.layout bytes)
    written_changes = record {
      here = did.here;
      others = did.others;
      rest = λ z x _ none gone. did.bits.others z x
          (λ same. none (subst (λ (y : ℕ). NamesZone (entry_with e place zone) y) (sym same)
          (goal_named v fixed what place zone route)))
          (λ is. gone (other_named e place z is));
      left = λ z x _ own none. absurd (none (entry_keeps z own));
      one_place = λ z b x is buffer within valid. elim (in_or_out x first end) [
        | inl at ↦ elim (written_or_cleared place route.goal z b is buffer) [
          | inl zone_cleared ↦ absurd (false≢true (sym (did.bits.cleared z x zone_cleared at.0 at.1) ∙ valid))
          | inr cleared ↦ did.bits.cleared b x cleared at.0 at.1
        ]
        | inr out ↦
            did.bits.outside b x out
            ∙ apart_before place route.goes route.goal z b x is buffer within
            (sym (did.bits.outside z x out) ∙ valid)
      ];
    }

    -- THE RULES ARE KEPT
    pub written_sets : AreSets (record (sets_of v) { new = bytes })
    written_sets =
        sets_changed (sets_of v) fixed.sets c (entry_with e place zone) bytes may_write written_changes did.size
