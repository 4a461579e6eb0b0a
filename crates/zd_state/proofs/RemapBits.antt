-- What the end of a job makes of the tables and of the blocks of a set: the chunk's entry is set, the blocks of the zone
-- that is given back are valid in the target, and in it no more.
use Rattle.std.proofs.Common.{◌≡◌, ◌≢◌, ◌⊎◌, ℕ, ◌+◌, ◌-◌, ◌^◌, ◌<◌, ◌≤◌, Bool, ◌||◌, true, false, List, length, set}
use Rattle.std.proofs.Common.{Option, Some, None, inl, inr, refl, sym, ap, ap₂, ◌∙◌, subst, arith}
use Rattle.std.proofs.Common.{get_or-set_other, get_or-set_same, length-set}
use Rattle.zd_base.specs.Geometry.{Shape, per, zone_count}
use Rattle.zd_base.specs.declared.layout.Layout.{Layout}
use Rattle.zd_alloc.specs.Candidates.{GivesClass}
use Rattle.zd_alloc.specs.Zones.{Division, use_at}
use Rattle.zd_alloc.specs.declared.job_class.JobClass.{JobClass}
use Rattle.zd_alloc.specs.declared.uses.ZoneUse.TheVariants.{Held}
use Rattle.zd_map.specs.Numbers.{IsZoneField}
use Rattle.zd_model.specs.Tables.{NamesZone, entry_of, is_valid}
use Rattle.zd_model.specs.declared.metadata.MapEntry.{MapEntry}
use Rattle.zd_model.proofs.FaultLaws.{none_some, some_is}
use Rattle.zd_sets.specs.Blocks.{blocks_of}
use Rattle.zd_tables.specs.Changes.{ChangesBits, SetsEntry, bits_block, entry_block}
use Rattle.zd_tables.specs.Rules.{FollowRules}
use Rattle.zd_tables.specs.Tables.{tables_in}
use Rattle.zd_tables.proofs.TableLaws.{range_changed}
use Rattle.zd_tables.proofs.ZoneParts.{bits_room}
use Rattle.zd_volume.specs.Flights.{tables_now}
use Rattle.zd_volume.specs.Jobs.{IsJob, class_in}
use Rattle.zd_volume.specs.Marks.{GivesBits, MarksChanged}
use Rattle.zd_volume.specs.Sets.{Sets}
use Rattle.zd_volume.specs.Volumes.{IsFixed, PlainVolume, sets_of}
use Rattle.zd_volume.specs.declared.work.Work.{Work}
use Rattle.zd_volume.proofs.MarkLaws.{marks_parts, only_zone}
use Rattle.zd_routes.proofs.EntryBlocks.{HasEntry, entry_before, entry_set, marks_after}
use Rattle.zd_routes.proofs.RangeBlocks.{bitmaps_apart}
use Rattle.zd_jobs.specs.Remaps.{JoinsBits, RemapsChunk, leaving, uses_without}
use Rattle.zd_jobs.proofs.EndZones.{leaving_named, target_not_leaving}
use Rattle.zd_jobs.proofs.RemapTables.{sets_remapped}
use Rattle.zd_jobs.proofs.WorkLaws.{job_of, target_low}
use Rattle.zd_state.specs.Joins.{JoinsInto}

-- what the join makes of the tables and of the blocks of a set, where there is a target
record HasJoined (g : Shape) (l : Layout) (from : ℕ) (o : Option ℕ) (old new : List ℕ) : Type 0 where
  pub joined : (z x : ℕ) → o ≡ Some z → x < g.zone_blocks → is_valid (tables_in g l new) z x
      ≡ (is_valid (tables_in g l old) z x || is_valid (tables_in g l old) from x)
  pub others : (z x : ℕ) → o ≢ Some z → is_valid (tables_in g l new) z x ≡ is_valid (tables_in g l old) z x
  pub entries : (c : ℕ) → entry_of (tables_in g l new) c ≡ entry_of (tables_in g l old) c
  pub size : length new ≡ length old
  pub blocks : (k : ℕ) → ((z : ℕ) → o ≡ Some z → (k < bits_block g l z) ⊎ (bits_block g l z + per g ≤ k))
      → blocks_of new k 1 ≡ blocks_of old k 1

has_joined : (g : Shape) (l : Layout) (from : ℕ) (o : Option ℕ) (old new : List ℕ) (dirty marked : List Bool)
    → JoinsInto g l from o old new dirty marked → HasJoined g l from o old new
has_joined g l from None old new dirty marked joins = record {
  joined = λ z x is low. absurd (none_some z is);
  others = λ z x off. ap (λ (bytes : List ℕ). is_valid (tables_in g l bytes) z x) joins.0;
  entries = λ c. ap (λ (bytes : List ℕ). entry_of (tables_in g l bytes) c) joins.0;
  size = ap (λ (bytes : List ℕ). length bytes) joins.0;
  blocks = λ k out. ap (λ (bytes : List ℕ). blocks_of bytes k 1) joins.0;
}
has_joined g l from (Some to) old new dirty marked joins = record {
  joined = λ z x is low.
      subst (λ (y : ℕ). is_valid (tables_in g l new) y x
      ≡ (is_valid (tables_in g l old) y x || is_valid (tables_in g l old) from x)) (some_is to z is)
      (joins.tables.inside x (omega arith) low);
  others = λ z x off. joins.tables.others z x (λ same. off (ap (λ (n : ℕ). Some n) (sym same)));
  entries = joins.tables.entries;
  size = joins.only.size;
  blocks = λ k out. joins.only.others k (out to refl);
}

-- the flags, where the change before left the target's bitmap alone
joined_marks : (g : Shape) (l : Layout) (from : ℕ) (o : Option ℕ) (first old new : List ℕ)
    (early dirty marked : List Bool)
    → MarksChanged first old early dirty → JoinsInto g l from o old new dirty marked
    → ((z k : ℕ) → o ≡ Some z → bits_block g l z ≤ k → blocks_of old k 1 ≡ blocks_of first k 1)
    → MarksChanged first new early marked
joined_marks g l from None first old new early dirty marked before joins left =
    subst (λ (bytes : List ℕ). MarksChanged first bytes early marked) (sym joins.0)
    (subst (λ (flags : List Bool). MarksChanged first old early flags) (sym joins.1) before)
joined_marks g l from (Some to) first old new early dirty marked before joins left =
    marks_after first old new early dirty marked (bits_block g l to) (bits_block g l to + per g) before joins.marks
    joins.only (λ k low high. left to k refl low)

-- a zone of the disk fits its field of an entry
pub field_below : (end : ℕ) (o : Option ℕ) → end < 2 ^ 32 - 1 → ((z : ℕ) → o ≡ Some z → z < end) → IsZoneField o
field_below end None few low = tt
field_below end (Some z) few low = (let inside = low z refl in omega (arith, inside, few))

module _ (v : PlainVolume) (w : Work) (fixed : IsFixed v) (is : v.job ≡ Some w) (y : ℕ)
    (gives : leaving w.job.kind (entry_of (tables_now v) w.job.chunk) ≡ Some y) where
  abbrev s : Sets
  s = sets_of v

  abbrev g : Shape
  g = v.geometry

  abbrev l : Layout
  l = v.head.layout

  abbrev entry : MapEntry
  entry = record { zone = w.target; buffer = None }

  job : IsJob (sets_of v) v.pointers w
  job = job_of v w fixed is

  named : NamesZone (entry_of (tables_now v) w.job.chunk) y
  named = leaving_named w.job.kind (entry_of (tables_now v) w.job.chunk) y gives

  -- THE ZONE that is given back, and the target
  pub left_low : y < zone_count v.geometry
  left_low = (fixed.sets.new_rules.map.data_zones w.job.chunk y named).1

  pub left_held : use_at v.division.zones y ≡ Held
  left_held = fixed.uses.named y (w.job.chunk, named)

  pub target_apart : (z : ℕ) → w.target ≡ Some z → z ≢ y
  target_apart z target same =
      target_not_leaving s fixed.sets v.pointers w job y gives (target ∙ ap (λ (n : ℕ). Some n) same)

  pub target_field : IsZoneField w.target
  target_field =
      field_below (zone_count v.geometry) w.target
      (let count = fixed.sets.shape.count in let few : zone_count v.geometry < 2 ^ 32 - 1 = omega (arith, count) in few)
      (target_low v w fixed is)

  differs : entry_of (tables_now v) w.job.chunk ≢ record { zone = w.target; buffer = None }
  differs same = elim (subst (λ (e : MapEntry). NamesZone e y) same named) [
    | inl target ↦ target_not_leaving s fixed.sets v.pointers w job y gives target
    | inr none ↦ none_some y none
  ]

  module _ (start : List ℕ) (sets : SetsEntry w.job.chunk (record { zone = w.target; buffer = None }) v.fresh start)
      (middle : List ℕ) (half : List Bool)
      (joins : JoinsInto v.geometry v.head.layout y w.target start middle (set v.dirty (entry_block w.job.chunk) true)
      half) (bytes : List ℕ) (marked : List Bool)
      (clears : GivesBits false v.geometry v.head.layout y 0 v.geometry.zone_blocks middle bytes half marked) where
    begun : HasEntry (sets_of v) w.job.chunk (record { zone = w.target; buffer = None }) start v.dirty
        (set v.dirty (entry_block w.job.chunk) true)
    begun = entry_set s fixed.sets w.job.chunk job.chunk entry start v.dirty differs sets

    half_joined : HasJoined v.geometry v.head.layout y w.target start middle
    half_joined = has_joined g l y w.target start middle (set v.dirty (entry_block w.job.chunk) true) half joins

    cleared : ChangesBits false y 0 v.geometry.zone_blocks (tables_in v.geometry v.head.layout middle)
        (tables_in v.geometry v.head.layout bytes)
    cleared =
        range_changed g l middle bytes false y 0 g.zone_blocks (bits_room g fixed.sets.shape) left_low
        fixed.sets.fits.map clears.bits

    -- a block before all bitmaps, or behind that of the entry
    entry_left : (z k : ℕ) → bits_block v.geometry v.head.layout z ≤ k → blocks_of start k 1 ≡ blocks_of v.fresh k 1
    entry_left z k high =
        let before = entry_before s fixed.sets w.job.chunk job.chunk entry z in
        begun.only.others k (inr (omega (arith, before, high)))

    bits_joined : JoinsBits w.target (leaving w.job.kind (entry_of (tables_now v) w.job.chunk)) v.geometry.zone_blocks
        (tables_now v) (tables_in v.geometry v.head.layout bytes)
    bits_joined = record {
      joined = λ z u x target left low.
          cleared.others z x (target_apart z target)
          ∙ half_joined.joined z x target low
          ∙ ap₂ (λ (a b : Bool). a || b) (begun.tables.bits z x) (begun.tables.bits y x)
          ∙ ap (λ (n : ℕ). is_valid (tables_now v) z x || is_valid (tables_now v) n x) (some_is y u (sym gives ∙ left));
      cleared = λ u x left low.
          subst (λ (n : ℕ). is_valid (tables_in g l bytes) n x ≡ false) (some_is y u (sym gives ∙ left))
          (cleared.inside x (omega arith) low);
      others = λ u x target left.
          cleared.others u x (λ same. left (gives ∙ ap (λ (n : ℕ). Some n) (sym same)))
          ∙ half_joined.others u x target
          ∙ begun.tables.bits u x;
    }

    marks_joined : MarksChanged v.fresh middle v.dirty half
    marks_joined =
        joined_marks g l y w.target v.fresh start middle v.dirty (set v.dirty (entry_block w.job.chunk) true) half
        begun.marks joins (λ z k target high. entry_left z k high)

    -- the bitmap of the zone that is given back was left alone before
    middle_left : (k : ℕ) → bits_block v.geometry v.head.layout y ≤ k
        → k < bits_block v.geometry v.head.layout y + per v.geometry
        → blocks_of middle k 1 ≡ blocks_of v.fresh k 1
    middle_left k low high =
        half_joined.blocks k (λ z target. elim (bitmaps_apart g l y z (λ same. target_apart z target (sym same))) [
          | inl before ↦ inl (omega (arith, before, high))
          | inr behind ↦ inr (omega (arith, behind, low))
        ])
        ∙ entry_left y k low

    pub marks_remapped : MarksChanged v.fresh bytes v.dirty marked
    marks_remapped =
        marks_after v.fresh middle bytes v.dirty half marked (bits_block g l y) (bits_block g l y + per g) marks_joined
        (marks_parts false g l fixed.sets.shape y 0 g.zone_blocks left_low (omega arith) middle bytes clears.bits
        clears.changed clears.tells half marked clears.marks)
        (only_zone false g l fixed.sets.shape y 0 g.zone_blocks left_low (omega arith) middle bytes clears.bits)
        middle_left

    front_stays : blocks_of bytes 0 1 ≡ blocks_of v.fresh 0 1
    front_stays =
        (only_zone false g l fixed.sets.shape y 0 g.zone_blocks left_low (omega arith) middle bytes clears.bits).others
        0 (inl (omega arith))
        ∙ half_joined.blocks 0 (λ z target. inl (omega arith))
        ∙ begun.only.others 0 (inl (omega arith))

    abbrev after : Division → List (Option JobClass) → PlainVolume
    after d classes = record v {
      fresh = bytes;
      dirty = marked;
      division = d;
      standings = record v.standings { classes = classes };
      job = None;
    }

    -- THE JOB ENDS, where the zone is released and the class is given
    pub remap_did : (d : Division) (classes : List (Option JobClass))
        → d.zones ≡ uses_without (leaving w.job.kind (entry_of (tables_now v) w.job.chunk)) v.named v.division.zones
        → d.conv ≡ v.division.conv → d.order ≡ v.division.order
        → GivesClass w.job.chunk (class_in v.geometry v.pointers (tables_in v.geometry v.head.layout bytes) w.job.chunk)
        v.standings.classes classes
        → RemapsChunk v (record v {
          fresh = bytes;
          dirty = marked;
          division = d;
          standings = record v.standings { classes = classes };
          job = None;
        }) w
    remap_did d classes zones conv order given = record {
      here = cleared.entries w.job.chunk ∙ half_joined.entries w.job.chunk ∙ begun.tables.here;
      others = λ c off. cleared.entries c ∙ half_joined.entries c ∙ begun.tables.others c off;
      bits = bits_joined;
      front = front_stays;
      size = clears.bits.only.size ∙ half_joined.size ∙ begun.only.size;
      dirty = marks_remapped;
      zones = zones;
      conv = conv;
      order = order;
      classes = given;
      rest = refl;
    }

    -- THE RULES
    abbrev class : Option JobClass
    class = class_in v.geometry v.pointers (tables_in v.geometry v.head.layout bytes) w.job.chunk

    some_classes : GivesClass w.job.chunk
        (class_in v.geometry v.pointers (tables_in v.geometry v.head.layout bytes) w.job.chunk) v.standings.classes
        (set v.standings.classes w.job.chunk
        (class_in v.geometry v.pointers (tables_in v.geometry v.head.layout bytes) w.job.chunk))
    some_classes = record {
      there = get_or-set_same v.standings.classes w.job.chunk class None
          (let low = job.chunk in let count = fixed.candidates.count in omega (arith, low, count));
      others = λ c off. get_or-set_other v.standings.classes w.job.chunk c class None off;
      count = length-set v.standings.classes w.job.chunk class;
    }

    pub rules_remapped : FollowRules v.geometry v.head.layout bytes
    rules_remapped =
        let d : Division = record v.division {
          zones = uses_without (leaving w.job.kind (entry_of (tables_now v) w.job.chunk)) v.named v.division.zones;
        } in
        (sets_remapped v (after d (set v.standings.classes w.job.chunk class)) w fixed is
        (remap_did d (set v.standings.classes w.job.chunk class) refl refl refl some_classes)).new_rules
