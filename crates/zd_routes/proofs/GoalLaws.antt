-- THE ZONE THAT A WRITE GOES TO: a data zone, which its chunk has alone or gets, and to which no job copies.
use Rattle.std.proofs.Common.{◌≡◌, ◌≢◌, ◌⊎◌, ℕ, ◌<◌, ◌≤◌, List, length, slice_index, Option, Some, None, IsSomeAnd}
use Rattle.std.proofs.Common.{inl, inr, refl, sym, ◌∙◌, subst, arith}
use Rattle.std.proofs.lemmas.Bool.{cases_lt}
use Rattle.zd_base.specs.Geometry.{zone_count}
use Rattle.zd_base.specs.Layout.{first_data_zone}
use Rattle.zd_base.specs.declared.geometry.Kind.TheVariants.{Conventional}
use Rattle.zd_alloc.specs.Zones.{Division, IsLeastOf, use_at}
use Rattle.zd_alloc.specs.declared.uses.ZoneUse.TheVariants.{Free, Meta}
use Rattle.zd_model.specs.Tables.{NamesZone, entry_of}
use Rattle.zd_model.specs.declared.metadata.MapEntry.{MapEntry}
use Rattle.zd_model.specs.declared.requests.What.{What}
use Rattle.zd_model.proofs.FaultLaws.{none_some, some_is}
use Rattle.zd_volume.specs.Discards.{NoJobOn, chunk_touched, range_first}
use Rattle.zd_volume.specs.Flights.{tables_now}
use Rattle.zd_volume.specs.Jobs.{HasTarget, IsJobOrNone, IsTarget}
use Rattle.zd_volume.specs.Sets.{AreSets, Sets, new_tables, old_tables}
use Rattle.zd_volume.specs.Uses.{AreUsed}
use Rattle.zd_volume.specs.Volumes.{IsFixed, PlainVolume, sets_of}
use Rattle.zd_volume.specs.declared.work.JobKind.{JobKind}
use Rattle.zd_volume.specs.declared.work.JobKind.TheVariants.{Append, Empty, Merge, Move}
use Rattle.zd_volume.specs.declared.work.Place.{Place}
use Rattle.zd_volume.specs.declared.work.Place.TheVariants.{Buffer, Main, NewBuffer, NewMain}
use Rattle.zd_volume.specs.declared.work.Work.{Work}
use Rattle.zd_routes.specs.Changes.{IsSpare}
use Rattle.zd_routes.specs.Routes.{GoesTo, IsGoal, IsRoute, entry_touched, entry_with, other_zone}

-- a chunk's two zones are two
pub zones_apart : (s : Sets) → AreSets s → (chunk z : ℕ) → (entry_of (new_tables s) chunk).zone ≡ Some z
    → (entry_of (new_tables s) chunk).buffer ≢ Some z
zones_apart s are chunk z zone buffer =
    let rule = are.new_rules.map.buffers chunk z buffer in
    let low = rule.0 in
    let high : s.geometry.conv ≤ z =
    subst (λ (o : Option ℕ). IsSomeAnd o (λ n. s.geometry.conv ≤ n)) zone rule.1 in
    let wrong : ⊥ = omega (arith, low, high) in
    wrong

-- a chunk without a zone has no buffer
pub no_buffer : (s : Sets) → AreSets s → (chunk b : ℕ) → (entry_of (new_tables s) chunk).zone ≡ None
    → (entry_of (new_tables s) chunk).buffer ≢ Some b
no_buffer s are chunk b none buffer =
    subst (λ (o : Option ℕ). IsSomeAnd o (λ n. s.geometry.conv ≤ n)) none
    (are.new_rules.map.buffers chunk b buffer).1

-- a job on another chunk copies to no zone of this one
module _ (s : Sets) (are : AreSets s) (chunk z : ℕ) (own : NamesZone (entry_of (new_tables s) chunk) z) where
  target_apart : (kind : JobKind) (c : ℕ) (target : Option ℕ) → c ≢ chunk
      → HasTarget s.geometry (old_tables s) (new_tables s) kind (entry_of (new_tables s) c) target
      → target ≡ Some z → ⊥
  target_apart Empty c target off has is = none_some z (sym has ∙ is)
  target_apart Move c target off has is =
      has.5 (
        chunk,
        subst (λ (n : ℕ). NamesZone (entry_of (new_tables s) chunk) n)
            (some_is z has.0 (sym is ∙ has.1)) own,
      )
  target_apart Append c target off has is =
      off (are.new_rules.map.named_once c chunk z (inl (sym has ∙ is)) own)
  target_apart Merge c target off has is =
      off (are.new_rules.map.named_once c chunk z (inr (sym has ∙ is)) own)

  pub own_no_target : (pointers : List ℕ) (job : Option Work) → IsJobOrNone s pointers job → NoJobOn job chunk
      → IsTarget job z → ⊥
  own_no_target pointers None jobs off is = is
  own_no_target pointers (Some w) jobs off is = target_apart w.job.kind w.job.chunk w.target off jobs.target is

-- a free zone may be given to a chunk
pub free_spare : (s : Sets) (job : Option Work) (d : Division) → AreUsed s job d → (z : ℕ) → z < length d.zones
    → use_at d.zones z ≡ Free → IsSpare s z
free_spare s job d was z inside free = record {
  data_zone = (above, low);
  old = (was.free z free).0;
  new = (was.free z free).1;
}
  where
    low : z < zone_count s.geometry
    low = let count = was.count in omega (arith, count, inside)

    above : first_data_zone s.geometry s.head.layout ≤ z
    above = elim (cases_lt z (first_data_zone s.geometry s.head.layout)) [
      | inl below ↦
          absurd (let no : Free ≡ Meta = sym free ∙ (was.meta z low).1 below in let f : ⊥ = cc in f)
      | inr high ↦ high
    ]

module _ (v : PlainVolume) (fixed : IsFixed v) (what : What) (place : Place) (zone : ℕ)
    (route : IsRoute v what place zone) where
  abbrev c : ℕ
  c = chunk_touched v.geometry.zone_blocks what

  abbrev e : MapEntry
  e = entry_touched v what

  -- one of the chunk's zones, or a free one
  goal_from : (at : Place) → IsGoal (entry_touched v what) v.division at zone
      → NamesZone (entry_touched v what) zone ⊎ IsLeastOf Conventional v.division zone
  goal_from Main goal = inl (inl goal)
  goal_from NewMain goal = inr goal
  goal_from Buffer goal = inl (inr goal)
  goal_from NewBuffer goal = inr goal

  pub least_spare : IsLeastOf Conventional v.division zone → IsSpare (sets_of v) zone
  least_spare least = free_spare (sets_of v) v.job v.division fixed.uses zone least.inside least.free

  pub least_conventional : IsLeastOf Conventional v.division zone → zone < v.geometry.conv
  least_conventional least =
      let conv = fixed.uses.conv in
      let low : zone < v.division.conv = least.of_kind in
      omega (arith, conv, low)

  pub goal_data : (first_data_zone v.geometry v.head.layout ≤ zone) × (zone < zone_count v.geometry)
  goal_data = elim (goal_from place route.goal) [
    | inl own ↦ fixed.sets.new_rules.map.data_zones c zone own
    | inr least ↦ (least_spare least).data_zone
  ]

  -- no other chunk has it, nor had it at the last commit
  pub goal_alone : (d : ℕ) → NamesZone (entry_of (tables_now v) d) zone
      → d ≡ chunk_touched v.geometry.zone_blocks what
  goal_alone d named = elim (goal_from place route.goal) [
    | inl own ↦ fixed.sets.new_rules.map.named_once d c zone named own
    | inr least ↦ absurd ((least_spare least).new (d, named))
  ]

  pub goal_alone_old : (d : ℕ) → NamesZone (entry_of (old_tables (sets_of v)) d) zone
      → d ≡ chunk_touched v.geometry.zone_blocks what
  goal_alone_old d named = elim (goal_from place route.goal) [
    | inl own ↦ fixed.sets.limbo d c zone named own
    | inr least ↦ absurd ((least_spare least).old (d, named))
  ]

  -- the chunk has it then
  pub goal_named : NamesZone (entry_with (entry_touched v what) place zone) zone
  goal_named = by place route.goal
    where
      by : (at : Place) → IsGoal (entry_touched v what) v.division at zone
          → NamesZone (entry_with (entry_touched v what) at zone) zone
      by Main goal = inl goal
      by NewMain goal = inl refl
      by Buffer goal = inr goal
      by NewBuffer goal = inr refl

  -- and it is another one than that in which blocks become invalid
  pub goal_other : other_zone (entry_touched v what) place ≢ Some zone
  goal_other = by place route.goal
    where
      by : (at : Place) → IsGoal (entry_touched v what) v.division at zone
          → other_zone (entry_touched v what) at ≢ Some zone
      by Main goal is = zones_apart (sets_of v) fixed.sets c zone goal is
      by NewMain goal is = none_some zone is
      by Buffer goal is = zones_apart (sets_of v) fixed.sets c zone is goal
      by NewBuffer goal is = (least_spare goal).new (c, inl is)

  -- a sequential one is the chunk's own, and is written just up to the first block
  pub goal_sequential : v.geometry.conv ≤ zone
      → (place ≡ Main) × (slice_index v.pointers zone ≡ range_first v.geometry.zone_blocks what)
  goal_sequential high = by place route.goes route.goal
    where
      by : (at : Place)
          → GoesTo v.geometry v.pointers (entry_touched v what) (range_first v.geometry.zone_blocks what) at
          → IsGoal (entry_touched v what) v.division at zone
          → (at ≡ Main) × (slice_index v.pointers zone ≡ range_first v.geometry.zone_blocks what)
      by Main goes goal =
          let same : goes.0 ≡ zone = some_is goes.0 zone (sym goes.1 ∙ goal) in (
            refl,
            elim goes.2 [
              | inl low ↦ absurd (let f : ⊥ = omega (arith, high, low, same) in f)
              | inr at ↦ subst (λ (z : ℕ). slice_index v.pointers z ≡ range_first v.geometry.zone_blocks what) same at
            ],
          )
      by NewMain goes goal = absurd (let low = least_conventional goal in let f : ⊥ = omega (arith, high, low) in f)
      by Buffer goes goal =
          absurd (let low = (fixed.sets.new_rules.map.buffers c zone goal).0 in
          let f : ⊥ = omega (arith, high, low) in f)
      by NewBuffer goes goal = absurd (let low = least_conventional goal in let f : ⊥ = omega (arith, high, low) in f)

  -- no job copies to it
  pub goal_no_target : NoJobOn v.job (chunk_touched v.geometry.zone_blocks what) → IsTarget v.job zone → ⊥
  goal_no_target off = elim (goal_from place route.goal) [
    | inl own ↦ own_no_target (sets_of v) fixed.sets c zone own v.pointers v.job fixed.job off
    | inr least ↦ (fixed.uses.free zone least.free).2
  ]
