-- WHAT IS TRUE OF A VOLUME'S OWN VALUES stays true where a job begins, with a reset of its target or without one.
use Rattle.std.proofs.Common.{◌≡◌, ℕ, ◌≤◌, List, length, set, slice_index, get_or-set_other, get_or-set_same}
use Rattle.std.proofs.Common.{length-set, IsSomeAnd, Option, Some, None, inl, inr, refl, sym, ap, ap₂, ◌∙◌, subst, arith}
use Rattle.std.proofs.lemmas.Bool.{cases_lt}
use Rattle.zd_base.specs.Geometry.{zone_count}
use Rattle.zd_alloc.specs.Zones.{Division}
use Rattle.zd_model.specs.Tables.{NamesZone, entry_of}
use Rattle.zd_model.specs.declared.metadata.MapEntry.{MapEntry}
use Rattle.zd_model.proofs.FaultLaws.{none_some, some_is}
use Rattle.zd_disk.specs.Told.{next_count}
use Rattle.zd_volume.specs.Flights.{tables_now}
use Rattle.zd_volume.specs.Jobs.{FitsEntry, HasTarget, IsJob, class_by, class_in}
use Rattle.zd_volume.specs.Sets.{old_tables}
use Rattle.zd_volume.specs.Uses.{AreCandidates, AreUsed}
use Rattle.zd_volume.specs.Volumes.{IsFixed, PlainVolume, StandInZones, sets_of}
use Rattle.zd_volume.specs.declared.work.JobKind.{JobKind}
use Rattle.zd_volume.specs.declared.work.JobKind.TheVariants.{Empty, Move, Append, Merge}
use Rattle.zd_volume.specs.declared.work.Work.{Work}
use Rattle.zd_routes.specs.Changes.{IsSpare}
use Rattle.zd_routes.proofs.ChunkClasses.{candidates_changed}
use Rattle.zd_routes.proofs.FixedWrites.{in_zones_set}
use Rattle.zd_routes.proofs.GoalLaws.{free_spare}
use Rattle.zd_jobs.specs.JobSteps.{BeginsBy, BeginsJob, BeginsWithReset, NeedsReset}
use Rattle.zd_jobs.specs.Possible.{IsPossible}
use Rattle.zd_jobs.proofs.BegunUses.{uses_named, uses_taken}
use Rattle.zd_jobs.proofs.EndZones.{there_is}
use Rattle.zd_jobs.proofs.PossibleJobs.{empty_bare, possible_fits}

-- IT BEGINS INSIDE ITS ZONES: an Append at the pointer of a sequential zone
pub begun_inside : (v : PlainVolume) (w : Work) (d : Division) → IsFixed v → IsPossible v w.job.chunk w.job.kind
    → BeginsBy v w.job.kind (entry_of (tables_now v) w.job.chunk) w.target w.copied d
    → w.copied ≤ v.geometry.zone_blocks
begun_inside v w d fixed possible begins =
    by w.job.kind (possible_fits v w.job.chunk w.job.kind possible) begins
  where
    by : (kind : JobKind) → FitsEntry v.geometry kind (entry_of (tables_now v) w.job.chunk)
        → BeginsBy v kind (entry_of (tables_now v) w.job.chunk) w.target w.copied d
        → w.copied ≤ v.geometry.zone_blocks
    by Empty fits b = (let none = b.1 in omega (arith, none))
    by Move fits b = (let none = b.2 in omega (arith, none))
    by Append fits b =
        let rules = fixed.sets.new_rules.map in
        let buffer = there_is (entry_of (tables_now v) w.job.chunk).buffer fits.1 in
        let high : v.geometry.conv ≤ b.0 =
        subst (λ (o : Option ℕ). IsSomeAnd o (λ z. v.geometry.conv ≤ z)) b.1
        (rules.buffers w.job.chunk buffer.0 buffer.1).1 in
        let under = fixed.in_zones.at b.0 high (rules.data_zones w.job.chunk b.0 (inl b.1)).1 in
        let start = b.3 in
        omega (arith, under, start)
    by Merge fits b = (let none = b.1 in omega (arith, none))

module _ (v : PlainVolume) (w : Work) (d : Division) (fixed : IsFixed v) (free : v.job ≡ None)
    (possible : IsPossible v w.job.chunk w.job.kind) (read : w.read ≡ 0)
    (begins : BeginsBy v w.job.kind (entry_of (tables_now v) w.job.chunk) w.target w.copied d) where
  abbrev e : MapEntry
  e = entry_of (tables_now v) w.job.chunk

  used : AreUsed (sets_of v) None v.division
  used = subst (λ (job : Option Work). AreUsed (sets_of v) job v.division) free fixed.uses

  -- a zone that a Move takes is in no table
  begun_spare : BeginsBy v Move (entry_of (tables_now v) w.job.chunk) w.target w.copied d → (z : ℕ)
      → w.target ≡ Some z → IsSpare (sets_of v) z × (v.geometry.conv ≤ z)
  begun_spare b z target =
      let same : b.0 ≡ z = some_is b.0 z (sym b.1 ∙ target) in
      let conv = used.conv in
      let high : v.division.conv ≤ b.0 = b.3.least.of_kind in (
        subst (IsSpare (sets_of v)) same
            (free_spare (sets_of v) None v.division used b.0 b.3.least.inside b.3.least.free),
        omega (arith, conv, high, same),
      )

  -- THE TARGET
  target_begun : HasTarget v.geometry (old_tables (sets_of v)) (tables_now v) w.job.kind
      (entry_of (tables_now v) w.job.chunk) w.target
  target_begun = by w.job.kind begins
    where
      by : (kind : JobKind) → BeginsBy v kind (entry_of (tables_now v) w.job.chunk) w.target w.copied d
          → HasTarget v.geometry (old_tables (sets_of v)) (tables_now v) kind (entry_of (tables_now v) w.job.chunk)
          w.target
      by Empty b = b.0
      by Move b =
          let spare = begun_spare b b.0 b.1 in
          (b.0, b.1, spare.1, spare.0.data_zone.1, spare.0.old, spare.0.new)
      by Append b = b.2 ∙ sym b.1
      by Merge b = b.0

  -- THE ZONES
  uses_begun : AreUsed (sets_of v) (Some w) d
  uses_begun = by w.job.kind begins
    where
      by : (kind : JobKind) → BeginsBy v kind (entry_of (tables_now v) w.job.chunk) w.target w.copied d
          → AreUsed (sets_of v) (Some w) d
      by Empty b =
          subst (AreUsed (sets_of v) (Some w)) (sym b.2)
          (uses_named (sets_of v) w v.division used (λ z is. absurd (none_some z (sym b.0 ∙ is))))
      by Move b = uses_taken (sets_of v) w v.division used d b.0 b.3 b.1
      by Append b =
          subst (AreUsed (sets_of v) (Some w)) (sym b.4)
          (uses_named (sets_of v) w v.division used (λ z is. (w.job.chunk, inl (b.1 ∙ sym b.2 ∙ is))))
      by Merge b =
          subst (AreUsed (sets_of v) (Some w)) (sym b.2)
          (uses_named (sets_of v) w v.division used (λ z is. (w.job.chunk, inr (sym b.0 ∙ is))))

  order_begun : d.order ≡ v.division.order
  order_begun = by w.job.kind begins
    where
      by : (kind : JobKind) → BeginsBy v kind (entry_of (tables_now v) w.job.chunk) w.target w.copied d
          → d.order ≡ v.division.order
      by Empty b = ap (λ (d : Division). d.order) b.2
      by Move b = b.3.order
      by Append b = ap (λ (d : Division). d.order) b.4
      by Merge b = ap (λ (d : Division). d.order) b.2

  -- A SEQUENTIAL TARGET is written up to where the job begins, where it needs no reset
  pub pointer_begun : (NeedsReset v w.job.kind w.target → ⊥) → (z : ℕ) → w.target ≡ Some z → v.geometry.conv ≤ z
      → slice_index v.pointers z ≡ w.copied
  pointer_begun bare z target high = by w.job.kind begins bare
    where
      by : (kind : JobKind) → BeginsBy v kind (entry_of (tables_now v) w.job.chunk) w.target w.copied d
          → (NeedsReset v kind w.target → ⊥) → slice_index v.pointers z ≡ w.copied
      by Empty b bare = absurd (none_some z (sym b.0 ∙ target))
      by Move b bare = elim (cases_lt 0 (slice_index v.pointers z)) [
        | inl moved ↦ absurd (bare (z, target, moved))
        | inr start ↦ (let none = b.2 in omega (arith, start, none))
      ]
      by Append b bare =
          ap (λ (y : ℕ). slice_index v.pointers y) (sym (some_is b.0 z (sym b.2 ∙ target))) ∙ sym b.3
      by Merge b bare =
          absurd (let low = (fixed.sets.new_rules.map.buffers w.job.chunk z (sym b.0 ∙ target)).0 in
          let f : ⊥ = omega (arith, low, high) in f)

  -- THE JOB, and all values
  module _ (pointers : List ℕ) (since : ℕ) (count : length pointers ≡ zone_count v.geometry)
      (in_zones : StandInZones v.geometry pointers)
      (pointer : (z : ℕ) → w.target ≡ Some z → v.geometry.conv ≤ z → slice_index pointers z ≡ w.copied)
      (candidates : AreCandidates (sets_of v) pointers v.division.order v.standings) where
    job_begun : IsJob (sets_of v) pointers w
    job_begun = record {
      chunk = possible.there;
      entry = possible_fits v w.job.chunk w.job.kind possible;
      target = target_begun;
      emptied = empty_bare v w.job.chunk w.job.kind possible;
      inside = (let inside = begun_inside v w d fixed possible begins in omega (arith, inside, read));
      few = omega (arith, read);
      unread = λ _. read;
      run = λ y x from low high. absurd (let f : ⊥ = omega (arith, low, high, read) in f);
      pointer = pointer;
    }

    fixed_begun : IsFixed (record v { division = d; pointers = pointers; job = Some w; since = since })
    fixed_begun = record {
      sets = fixed.sets;
      flags = fixed.flags;
      under_way = fixed.under_way;
      uses = uses_begun;
      named = fixed.named;
      pointers = count;
      in_zones = in_zones;
      candidates = subst (λ (order : List ℕ). AreCandidates (sets_of v) pointers order v.standings)
          (sym order_begun) candidates;
      job = job_begun;
      room = fixed.room;
    }

-- A JOB BEGINS without a reset
pub fixed_begins : (from to : PlainVolume) (w : Work) → IsFixed from → from.job ≡ None
    → IsPossible from w.job.chunk w.job.kind → BeginsJob from to w.job w → IsFixed to
fixed_begins from to w fixed free possible did =
    subst IsFixed (sym did.rest)
    (fixed_begun from w to.division fixed free possible did.read did.begins from.pointers from.since fixed.pointers
    fixed.in_zones (pointer_begun from w to.division fixed free possible did.read did.begins did.bare)
    fixed.candidates)

-- with a reset
module _ (from to : PlainVolume) (w : Work) (zone : ℕ) (fixed : IsFixed from) (free : from.job ≡ None)
    (possible : IsPossible from w.job.chunk w.job.kind) (did : BeginsWithReset from to w.job w zone) where
  pub begins_taking : BeginsBy from w.job.kind (entry_of (tables_now from) w.job.chunk) w.target w.copied to.division
  begins_taking =
      subst (λ (kind : JobKind). BeginsBy from kind (entry_of (tables_now from) w.job.chunk) w.target w.copied
      to.division) (sym did.kind) (zone, did.target, did.copied, did.takes)

  pub spare_reset : IsSpare (sets_of from) zone × (from.geometry.conv ≤ zone)
  spare_reset =
      begun_spare from w to.division fixed free possible did.read begins_taking
      (zone, did.target, did.copied, did.takes) zone did.target

  -- the class of a chunk that has no buffer depends on no pointer
  class_unbuffered : class_in from.geometry from.pointers (tables_now from) w.job.chunk
      ≡ class_in from.geometry (set from.pointers zone 0) (tables_now from) w.job.chunk
  class_unbuffered =
      let fits : FitsEntry from.geometry Move (entry_of (tables_now from) w.job.chunk) =
      subst (λ (kind : JobKind). FitsEntry from.geometry kind (entry_of (tables_now from) w.job.chunk)) did.kind
      (possible_fits from w.job.chunk w.job.kind possible) in
      ap₂ (class_by from.geometry from.pointers (tables_now from)) fits.0.1 fits.1
      ∙ sym (ap₂ (class_by from.geometry (set from.pointers zone 0) (tables_now from)) fits.0.1 fits.1)

  candidates_reset : AreCandidates (sets_of from) (set from.pointers zone 0) from.division.order from.standings
  candidates_reset =
      candidates_changed (sets_of from) w.job.chunk from.fresh from.pointers (set from.pointers zone 0)
      from.division.order from.standings from.standings fixed.candidates
      (record {
        there = fixed.candidates.each w.job.chunk possible.there ∙ class_unbuffered;
        others = λ c off. refl;
        count = refl;
      })
      (λ c off. refl) (λ c z x off named. refl)
      (λ c z off named. get_or-set_other from.pointers zone z 0 0
      (λ same. spare_reset.0.new (c, subst (NamesZone (entry_of (tables_now from) c)) same named)))
      refl

  pub fixed_begins_reset : IsFixed to
  fixed_begins_reset =
      subst IsFixed (sym did.rest)
      (fixed_begun from w to.division fixed free possible did.read begins_taking (set from.pointers zone 0)
      (next_count from.since) (length-set from.pointers zone 0 ∙ fixed.pointers)
      (in_zones_set from.geometry from.pointers zone 0 fixed.pointers (omega arith) fixed.in_zones)
      (λ z target high.
      ap (λ (y : ℕ). slice_index (set from.pointers zone 0) y) (some_is z zone (sym target ∙ did.target))
      ∙ get_or-set_same from.pointers zone 0 0
      (let low = spare_reset.0.data_zone.1 in let count = fixed.pointers in omega (arith, low, count))
      ∙ sym did.copied)
      candidates_reset)
