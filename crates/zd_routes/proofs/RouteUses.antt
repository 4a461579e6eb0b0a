-- THE ZONES ARE USED RIGHT after a write: a zone that was taken is held, and named.
use Rattle.std.proofs.Common.{◌≡◌, ◌≢◌, ℕ, List, length, get_or-set_other, get_or-set_same, length-set, inl, inr}
use Rattle.std.proofs.Common.{refl, sym, ap, ◌∙◌, subst}
use Rattle.zd_alloc.specs.Order.{PutsLast}
use Rattle.zd_alloc.specs.Zones.{Division, use_at}
use Rattle.zd_alloc.specs.declared.uses.ZoneUse.{ZoneUse}
use Rattle.zd_alloc.specs.declared.uses.ZoneUse.TheVariants.{Held, Meta}
use Rattle.zd_model.specs.Tables.{Tables}
use Rattle.zd_model.specs.declared.metadata.MapEntry.{MapEntry}
use Rattle.zd_model.specs.declared.requests.What.{What}
use Rattle.zd_tables.specs.Tables.{tables_in}
use Rattle.zd_volume.specs.Discards.{chunk_touched}
use Rattle.zd_volume.specs.Flights.{tables_now}
use Rattle.zd_volume.specs.Jobs.{IsNamed}
use Rattle.zd_volume.specs.Sets.{Sets}
use Rattle.zd_volume.specs.Uses.{AreUsed}
use Rattle.zd_volume.specs.Volumes.{IsFixed, PlainVolume, sets_of}
use Rattle.zd_volume.specs.declared.work.Place.{Place}
use Rattle.zd_volume.specs.declared.work.Place.TheVariants.{Buffer, Main, NewBuffer, NewMain}
use Rattle.zd_routes.specs.Routes.{IsGoal, IsRoute, WritesRange, entry_touched, entry_with, other_zone, uses_with}
use Rattle.zd_routes.proofs.ChunkSets.{named_by, named_here, named_still}
use Rattle.zd_routes.proofs.ChunkUses.{IsUsedAs, used_held, uses_but_one}
use Rattle.zd_routes.proofs.GoalLaws.{goal_data, goal_named}
use Rattle.zd_routes.proofs.RouteTables.{entry_from, entry_keeps, may_write, written_changes}

-- what a write makes of the uses of other zones, and their number
pub use_elsewhere : (place : Place) (zone y : ℕ) (uses : List ZoneUse) → y ≢ zone
    → use_at (uses_with place zone uses) y ≡ use_at uses y
use_elsewhere Main zone y uses off = refl
use_elsewhere NewMain zone y uses off = get_or-set_other uses zone y Held Meta off
use_elsewhere Buffer zone y uses off = refl
use_elsewhere NewBuffer zone y uses off = get_or-set_other uses zone y Held Meta off

length-uses_with : (place : Place) (zone : ℕ) (uses : List ZoneUse) → length (uses_with place zone uses) ≡ length uses
length-uses_with Main zone uses = refl
length-uses_with NewMain zone uses = length-set uses zone Held
length-uses_with Buffer zone uses = refl
length-uses_with NewBuffer zone uses = length-set uses zone Held

module _ (v : PlainVolume) (fixed : IsFixed v) (what : What) (place : Place) (zone : ℕ)
    (route : IsRoute v what place zone) where
  abbrev c : ℕ
  c = chunk_touched v.geometry.zone_blocks what

  abbrev e : MapEntry
  e = entry_touched v what

  abbrev entry : MapEntry
  entry = entry_with (entry_touched v what) place zone

  abbrev s : Sets
  s = sets_of v

  -- the zone that is written is held
  pub use_here : use_at (uses_with place zone v.division.zones) zone ≡ Held
  use_here = by place route.goal
    where
      by : (at : Place) → IsGoal (entry_touched v what) v.division at zone
          → use_at (uses_with at zone v.division.zones) zone ≡ Held
      by Main goal = fixed.uses.named zone (c, inl goal)
      by NewMain goal = get_or-set_same v.division.zones zone Held Meta goal.inside
      by Buffer goal = fixed.uses.named zone (c, inr goal)
      by NewBuffer goal = get_or-set_same v.division.zones zone Held Meta goal.inside

  module _ (first end : ℕ) (bytes : List ℕ)
      (did : WritesRange (sets_of v) (chunk_touched v.geometry.zone_blocks what) first end
      (entry_with (entry_touched v what) place zone) zone (other_zone (entry_touched v what) place) bytes)
      (d : Division) (zones : d.zones ≡ uses_with place zone v.division.zones)
      (conv : d.conv ≡ v.division.conv)
      (order : PutsLast (chunk_touched v.geometry.zone_blocks what) v.division.order d.order) where
    abbrev u : Tables
    u = tables_in v.geometry v.head.layout bytes

    named_then : (y : ℕ) → IsNamed (tables_now v) y → IsNamed (tables_in v.geometry v.head.layout bytes) y
    named_then y n =
        named_still s fixed.sets c entry bytes (may_write v fixed what place zone route)
        (written_changes v fixed what place zone route first end bytes did) y
        (entry_keeps v fixed what place zone route y) n

    named_before : (y : ℕ) → y ≢ zone → IsNamed (tables_in v.geometry v.head.layout bytes) y
        → IsNamed (tables_now v) y
    named_before y off n =
        elim (named_by s fixed.sets c entry bytes (may_write v fixed what place zone route)
        (written_changes v fixed what place zone route first end bytes did) n.0 y n.1) [
          | inl here ↦ elim (entry_from e place zone y here.1) [
            | inl own ↦ (c, own)
            | inr same ↦ absurd (off same)
          ]
          | inr there ↦ (n.0, there.1)
        ]

    at : (y : ℕ) → use_at d.zones y ≡ use_at (uses_with place zone v.division.zones) y
    at y = ap (λ (uses : List ZoneUse). use_at uses y) zones

    pub uses_written : AreUsed (record (sets_of v) { new = bytes }) v.job d
    uses_written =
        uses_but_one s bytes v.job v.division d fixed.uses conv order.count
        (ap (λ (uses : List ZoneUse). length uses) zones ∙ length-uses_with place zone v.division.zones) zone
        (λ y off. at y ∙ use_elsewhere place zone y v.division.zones off)
        (λ y _. named_then y) named_before
        (subst (IsUsedAs (record s { new = bytes }) v.job zone) (sym (at zone ∙ use_here))
        (used_held (record s { new = bytes }) v.job zone (goal_data v fixed what place zone route).0
        (named_here s fixed.sets c entry bytes (may_write v fixed what place zone route)
        (written_changes v fixed what place zone route first end bytes did) zone
        (goal_named v fixed what place zone route))))
