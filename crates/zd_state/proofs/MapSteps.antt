-- The blocks of a write are mapped, by the steps of the code: its chunk's entry, the bits of the zone that is written,
-- those of the other.
use Rattle.std.proofs.Common.{◌≡◌, ◌⊎◌, ℕ, ◌+◌, ◌-◌, ◌^◌, ◌<◌, Bool, true, false, List, length, Option, Some, None}
use Rattle.std.proofs.Common.{inl, inr, refl, sym, ap, ◌∙◌, subst, arith}
use Rattle.std.proofs.Common.{length-set}
use Rattle.zd_base.specs.Geometry.{zone_count}
use Rattle.zd_map.specs.Numbers.{IsZoneField, NamesZones}
use Rattle.zd_model.specs.Requests.{block_count}
use Rattle.zd_model.specs.Tables.{entry_of}
use Rattle.zd_model.specs.declared.metadata.MapEntry.{MapEntry}
use Rattle.zd_model.specs.declared.requests.What.{What}
use Rattle.zd_model.proofs.FaultLaws.{some_is}
use Rattle.zd_tables.specs.Changes.{entry_block}
use Rattle.zd_volume.specs.Discards.{chunk_touched, range_end, range_first}
use Rattle.zd_volume.specs.Flights.{tables_now}
use Rattle.zd_volume.specs.Marks.{GivesBits, GivesBitsIn, MarksChanged}
use Rattle.zd_volume.specs.Sets.{used}
use Rattle.zd_volume.specs.Volumes.{IsFixed, PlainVolume, sets_of}
use Rattle.zd_volume.specs.declared.work.Place.{Place}
use Rattle.zd_volume.specs.declared.work.Place.TheVariants.{Buffer, Main, NewBuffer, NewMain}
use Rattle.zd_routes.specs.Routes.{GivesEntry, IsRoute, WritesBlocks, WritesRange, entry_touched, entry_with, other_zone}
use Rattle.zd_routes.proofs.GoalLaws.{goal_data}
use Rattle.zd_routes.proofs.RouteBlocks.{written_marks, written_range}
use Rattle.zd_routes.proofs.RouteTables.{other_named}

-- a zone of the disk fits its field of an entry
field_there : (end : ℕ) (zone : Option ℕ) → end < 2 ^ 32 - 1 → ((z : ℕ) → zone ≡ Some z → z < end) → IsZoneField zone
field_there end None few low = tt
field_there end (Some z) few low = (let l = low z refl in omega (arith, l, few))

-- as many flags as there were
flags_with : (place : Place) (chunk : ℕ) (entry : MapEntry) (old new : List ℕ) (dirty marked : List Bool)
    → GivesEntry place chunk entry old new dirty marked → length marked ≡ length dirty
flags_with Main chunk entry old new dirty marked gives = ap (λ (m : List Bool). length m) gives.1
flags_with NewMain chunk entry old new dirty marked gives =
    ap (λ (m : List Bool). length m) gives.1 ∙ length-set dirty (entry_block chunk) true
flags_with Buffer chunk entry old new dirty marked gives = ap (λ (m : List Bool). length m) gives.1
flags_with NewBuffer chunk entry old new dirty marked gives =
    ap (λ (m : List Bool). length m) gives.1 ∙ length-set dirty (entry_block chunk) true

module _ (v : PlainVolume) (fixed : IsFixed v) (what : What) (place : Place) (zone : ℕ)
    (route : IsRoute v what place zone) (is : WritesBlocks (sets_of v) what) (chunk first count : ℕ)
    (at : chunk ≡ chunk_touched v.geometry.zone_blocks what) (from : first ≡ range_first v.geometry.zone_blocks what)
    (many : count ≡ block_count what) (e : MapEntry) (names : e ≡ entry_of (tables_now v) chunk) where
  entry_is : e ≡ entry_touched v what
  entry_is = names ∙ ap (λ (c : ℕ). entry_of (tables_now v) c) at

  few_zones : zone_count v.geometry < 2 ^ 32 - 1
  few_zones = (let count = fixed.sets.shape.count in omega (arith, count))

  own_low : (z : ℕ) → (e.zone ≡ Some z) ⊎ (e.buffer ≡ Some z) → z < zone_count v.geometry
  own_low z named =
      (fixed.sets.new_rules.map.data_zones chunk z
      (subst (λ (m : MapEntry). (m.zone ≡ Some z) ⊎ (m.buffer ≡ Some z)) names named)).1

  -- what is asked of the entry, and of the zone that is written
  pub fields_there : NamesZones e
  fields_there = (
    field_there (zone_count v.geometry) e.zone few_zones (λ z n. own_low z (inl n)),
    field_there (zone_count v.geometry) e.buffer few_zones (λ z n. own_low z (inr n)),
  )

  pub zone_low : zone < zone_count v.geometry
  zone_low = (goal_data v fixed what place zone route).1

  pub zone_field : zone < 2 ^ 32 - 1
  zone_field = (let low = zone_low in let few = few_zones in omega (arith, low, few))

  -- of an entry that is set, the bits of the zone that is written
  module _ (m : PlainVolume) (entered : m ≡ record v { fresh = m.fresh; dirty = m.dirty }) where
    pub zone_inside : (x : ℕ) → ◌≡◌ {A = Option ℕ} (Some zone) (Some x) → x < zone_count m.geometry
    zone_inside x same =
        subst (λ (w : PlainVolume). x < zone_count w.geometry) (sym entered)
        (subst (λ (z : ℕ). z < zone_count v.geometry) (some_is zone x same) zone_low)

    module _ (begins : GivesEntry place chunk (entry_with e place zone) v.fresh m.fresh v.dirty m.dirty) (n : PlainVolume)
        (set_there : n ≡ record m { fresh = n.fresh; dirty = n.dirty })
        (one : GivesBits true m.geometry m.head.layout zone first (first + count) m.fresh n.fresh m.dirty n.dirty) where
      so_far : n ≡ record v { fresh = n.fresh; dirty = n.dirty }
      so_far = set_there ∙ ap (λ (w : PlainVolume). record w { fresh = n.fresh; dirty = n.dirty }) entered

      pub other_inside : (x : ℕ) → other_zone e place ≡ Some x → x < zone_count n.geometry
      other_inside x other =
          subst (λ (w : PlainVolume). x < zone_count w.geometry) (sym so_far) (own_low x (other_named e place x other))

      pub flags_there : length n.dirty ≡ used (sets_of n)
      flags_there =
          subst (λ (w : PlainVolume). length n.dirty ≡ used (sets_of w)) (sym so_far)
          (one.marks.size ∙ flags_with place chunk (entry_with e place zone) v.fresh m.fresh v.dirty m.dirty begins
          ∙ fixed.flags.size)

      -- and the bits of the other
      module _ (o : PlainVolume)
          (two : GivesBitsIn false n.geometry n.head.layout (other_zone e place) first (first + count) n.fresh o.fresh
          n.dirty o.dirty) where
        of_entry : GivesEntry place (chunk_touched v.geometry.zone_blocks what)
            (entry_with (entry_touched v what) place zone) v.fresh m.fresh v.dirty m.dirty
        of_entry =
            subst (λ (c : ℕ). GivesEntry place c (entry_with (entry_touched v what) place zone) v.fresh m.fresh v.dirty
            m.dirty) at
            (subst (λ (k : MapEntry). GivesEntry place chunk (entry_with k place zone) v.fresh m.fresh v.dirty m.dirty)
            entry_is begins)

        end_is : first + count ≡ range_end v.geometry.zone_blocks what
        end_is = omega (arith, from, many)

        of_zone : GivesBits true v.geometry v.head.layout zone (range_first v.geometry.zone_blocks what)
            (range_end v.geometry.zone_blocks what) m.fresh n.fresh m.dirty n.dirty
        of_zone =
            subst (λ (a : ℕ). GivesBits true v.geometry v.head.layout zone a (range_end v.geometry.zone_blocks what)
            m.fresh n.fresh m.dirty n.dirty) from
            (subst (λ (b : ℕ). GivesBits true v.geometry v.head.layout zone first b m.fresh n.fresh m.dirty n.dirty)
            end_is
            (subst (λ (w : PlainVolume). GivesBits true w.geometry w.head.layout zone first (first + count) m.fresh
            n.fresh m.dirty n.dirty) entered one))

        of_other : GivesBitsIn false v.geometry v.head.layout (other_zone (entry_touched v what) place)
            (range_first v.geometry.zone_blocks what) (range_end v.geometry.zone_blocks what) n.fresh o.fresh n.dirty
            o.dirty
        of_other =
            subst (λ (k : MapEntry). GivesBitsIn false v.geometry v.head.layout (other_zone k place)
            (range_first v.geometry.zone_blocks what) (range_end v.geometry.zone_blocks what) n.fresh o.fresh n.dirty
            o.dirty) entry_is
            (subst (λ (a : ℕ). GivesBitsIn false v.geometry v.head.layout (other_zone e place) a
            (range_end v.geometry.zone_blocks what) n.fresh o.fresh n.dirty o.dirty) from
            (subst (λ (b : ℕ). GivesBitsIn false v.geometry v.head.layout (other_zone e place) first b n.fresh o.fresh
            n.dirty o.dirty) end_is
            (subst (λ (w : PlainVolume). GivesBitsIn false w.geometry w.head.layout (other_zone e place) first
            (first + count) n.fresh o.fresh n.dirty o.dirty) so_far two)))

        pub range_in_steps : WritesRange (sets_of v) (chunk_touched v.geometry.zone_blocks what)
            (range_first v.geometry.zone_blocks what) (range_end v.geometry.zone_blocks what)
            (entry_with (entry_touched v what) place zone) zone (other_zone (entry_touched v what) place) o.fresh
        range_in_steps =
            written_range v fixed what place zone route is m.fresh n.fresh o.fresh m.dirty n.dirty o.dirty of_entry of_zone
            of_other

        pub marks_in_steps : MarksChanged v.fresh o.fresh v.dirty o.dirty
        marks_in_steps =
            written_marks v fixed what place zone route is m.fresh n.fresh o.fresh m.dirty n.dirty o.dirty of_entry of_zone
            of_other
