-- FROM THE BLOCKS that a write and a promotion change to what they make of a volume's tables and flags.
use Rattle.std.proofs.Common.{◌≡◌, ℕ, ◌<◌, Bool, true, false, List, set, Some, None, inl, refl}
use Rattle.std.proofs.Common.{sym, ap, ◌∙◌, subst, arith}
use Rattle.zd_base.specs.Geometry.{zone_count}
use Rattle.zd_model.specs.declared.metadata.MapEntry.{MapEntry}
use Rattle.zd_model.specs.declared.requests.What.{What}
use Rattle.zd_model.proofs.FaultLaws.{none_some}
use Rattle.zd_sets.specs.Blocks.{blocks_of}
use Rattle.zd_tables.specs.Changes.{SetsEntry, entry_block}
use Rattle.zd_volume.specs.Discards.{chunk_touched, range_end, range_first}
use Rattle.zd_volume.specs.Marks.{GivesBits, GivesBitsIn, MarksChanged}
use Rattle.zd_volume.specs.Sets.{AreSets, Sets}
use Rattle.zd_volume.specs.Volumes.{IsFixed, PlainVolume, sets_of}
use Rattle.zd_volume.specs.declared.work.Place.{Place}
use Rattle.zd_volume.specs.declared.work.Place.TheVariants.{Buffer, Main, NewBuffer, NewMain}
use Rattle.zd_routes.specs.Promotions.{IsBare}
use Rattle.zd_routes.specs.Routes.{GivesEntry, GoesTo, IsRoute, WritesBlocks, WritesRange, entry_touched, entry_with, other_zone}
use Rattle.zd_routes.proofs.EntryBlocks.{HasEntry, entry_set, entry_stays}
use Rattle.zd_routes.proofs.GoalLaws.{goal_data, goal_other}
use Rattle.zd_routes.proofs.RangeBlocks.{range_flags, range_written}
use Rattle.zd_routes.proofs.RouteTables.{other_named}

-- the super block is not touched where an entry is set
pub entry_front : (s : Sets) (chunk : ℕ) (entry : MapEntry) (bytes : List ℕ) (dirty marked : List Bool)
    → HasEntry s chunk entry bytes dirty marked → blocks_of bytes 0 1 ≡ blocks_of s.new 0 1
entry_front s chunk entry bytes dirty marked has = has.only.others 0 (inl (omega arith))

-- A PROMOTION sets the entry to another one
pub promoted_entry : (v : PlainVolume) (chunk zone buffer : ℕ) (bytes : List ℕ) → AreSets (sets_of v)
    → IsBare v chunk zone buffer → SetsEntry chunk (record { zone = Some buffer; buffer = None }) v.fresh bytes
    → HasEntry (sets_of v) chunk (record { zone = Some buffer; buffer = None }) bytes v.dirty
    (set v.dirty (entry_block chunk) true)
promoted_entry v chunk zone buffer bytes are is sets =
    entry_set (sets_of v) are chunk is.there (record { zone = Some buffer; buffer = None }) bytes v.dirty
    (λ same. none_some buffer (sym (ap (λ (e : MapEntry). e.buffer) (sym is.entry ∙ same)))) sets

-- A WRITE
module _ (v : PlainVolume) (fixed : IsFixed v) (what : What) (place : Place) (zone : ℕ)
    (route : IsRoute v what place zone) (is : WritesBlocks (sets_of v) what)
    (start middle bytes : List ℕ) (early half marked : List Bool)
    (begins : GivesEntry place (chunk_touched v.geometry.zone_blocks what)
    (entry_with (entry_touched v what) place zone) v.fresh start v.dirty early)
    (one : GivesBits true v.geometry v.head.layout zone (range_first v.geometry.zone_blocks what)
    (range_end v.geometry.zone_blocks what) start middle early half)
    (two : GivesBitsIn false v.geometry v.head.layout (other_zone (entry_touched v what) place)
    (range_first v.geometry.zone_blocks what) (range_end v.geometry.zone_blocks what) middle bytes half marked) where
  abbrev c : ℕ
  c = chunk_touched v.geometry.zone_blocks what

  abbrev e : MapEntry
  e = entry_touched v what

  abbrev entry : MapEntry
  entry = entry_with (entry_touched v what) place zone

  abbrev s : Sets
  s = sets_of v

  begun : HasEntry (sets_of v) (chunk_touched v.geometry.zone_blocks what)
      (entry_with (entry_touched v what) place zone) start v.dirty early
  begun = by place route.goes begins
    where
      by : (at : Place)
          → GoesTo v.geometry v.pointers (entry_touched v what) (range_first v.geometry.zone_blocks what) at
          → GivesEntry at (chunk_touched v.geometry.zone_blocks what) (entry_with (entry_touched v what) at zone)
          v.fresh start v.dirty early
          → HasEntry (sets_of v) (chunk_touched v.geometry.zone_blocks what)
          (entry_with (entry_touched v what) at zone) start v.dirty early
      by Main goes gives = entry_stays s fixed.sets c is.there e start v.dirty early refl gives.0 gives.1
      by NewMain goes gives =
          let new : MapEntry = record { zone = Some zone; buffer = None } in
          subst (λ (m : List Bool). HasEntry s c new start v.dirty m) (sym gives.1)
          (entry_set s fixed.sets c is.there new start v.dirty
          (λ same. none_some zone (sym goes ∙ ap (λ (n : MapEntry). n.zone) same)) gives.0)
      by Buffer goes gives = entry_stays s fixed.sets c is.there e start v.dirty early refl gives.0 gives.1
      by NewBuffer goes gives =
          let new : MapEntry = record { zone = (entry_touched v what).zone; buffer = Some zone } in
          subst (λ (m : List Bool). HasEntry s c new start v.dirty m) (sym gives.1)
          (entry_set s fixed.sets c is.there new start v.dirty
          (λ same. none_some zone (sym goes.1 ∙ ap (λ (n : MapEntry). n.buffer) same)) gives.0)

  other_low : (y : ℕ) → other_zone (entry_touched v what) place ≡ Some y → y < zone_count v.geometry
  other_low y other = (fixed.sets.new_rules.map.data_zones c y (other_named e place y other)).1

  -- THE TABLES
  pub written_range : WritesRange (sets_of v) (chunk_touched v.geometry.zone_blocks what)
      (range_first v.geometry.zone_blocks what) (range_end v.geometry.zone_blocks what)
      (entry_with (entry_touched v what) place zone) zone (other_zone (entry_touched v what) place) bytes
  written_range =
      range_written s fixed.sets c is.there entry (range_first v.geometry.zone_blocks what)
      (range_end v.geometry.zone_blocks what) is.inside zone (goal_data v fixed what place zone route).1 start middle
      bytes v.dirty early half marked begun one (other_zone e place) (goal_other v fixed what place zone route)
      other_low two

  -- THE FLAGS
  pub written_marks : MarksChanged v.fresh bytes v.dirty marked
  written_marks =
      range_flags s fixed.sets c is.there entry (range_first v.geometry.zone_blocks what)
      (range_end v.geometry.zone_blocks what) is.inside zone (goal_data v fixed what place zone route).1 start middle
      bytes v.dirty early half marked begun one (other_zone e place) (goal_other v fixed what place zone route)
      other_low two
