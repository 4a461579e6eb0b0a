-- WHAT IS TRUE OF A VOLUME'S OWN VALUES stays true where a job ends: the zone that is given back is released.
use Rattle.std.proofs.Common.{◌≡◌, ◌≢◌, ℕ, ◌<◌, ◌≤◌, false, List, length, get_or, get_or-set_other}
use Rattle.std.proofs.Common.{get_or-set_same, length-set, Option, Some, None, inl, inr, refl}
use Rattle.std.proofs.Common.{sym, ap, ◌∙◌, subst, arith}
use Rattle.std.proofs.lemmas.Bool.{cases_eq}
use Rattle.std.specs.Prelude.{set}
use Rattle.zd_base.specs.Geometry.{zone_count}
use Rattle.zd_base.specs.Layout.{first_data_zone}
use Rattle.zd_alloc.specs.Zones.{use_after_release, use_at}
use Rattle.zd_alloc.specs.declared.uses.ZoneUse.{ZoneUse}
use Rattle.zd_alloc.specs.declared.uses.ZoneUse.TheVariants.{Meta}
use Rattle.zd_model.specs.Tables.{entry_of}
use Rattle.zd_model.specs.declared.metadata.MapEntry.{MapEntry}
use Rattle.zd_model.proofs.FaultLaws.{some_is}
use Rattle.zd_volume.specs.Flights.{tables_now}
use Rattle.zd_volume.specs.Sets.{Sets}
use Rattle.zd_volume.specs.Uses.{AreCandidates, AreUsed, IsPhase}
use Rattle.zd_volume.specs.Volumes.{IsFixed, PlainVolume, sets_of}
use Rattle.zd_volume.specs.declared.phase.Phase.{Phase}
use Rattle.zd_volume.specs.declared.phase.Phase.TheVariants.{Idle}
use Rattle.zd_volume.specs.declared.work.Work.{Work}
use Rattle.zd_volume.proofs.DropTables.{flags_marked, some_or}
use Rattle.zd_routes.proofs.ChunkClasses.{candidates_changed}
use Rattle.zd_routes.proofs.ChunkUses.{IsUsedAs, used_released}
use Rattle.zd_jobs.specs.Remaps.{RemapsChunk, leaving, uses_without}
use Rattle.zd_jobs.proofs.EndZones.{leaving_named, leaving_there}
use Rattle.zd_jobs.proofs.RemapTables.{bits_beside, leaving_bare, named_but_left, named_target}
use Rattle.zd_jobs.proofs.RemapTables.{named_without_target, sets_remapped}
use Rattle.zd_jobs.proofs.WorkLaws.{job_of, uses_of_job}

module _ (from to : PlainVolume) (w : Work) (fixed : IsFixed from) (is : from.job ≡ Some w)
    (did : RemapsChunk from to w) where
  abbrev s : Sets
  s = sets_of from

  abbrev e : MapEntry
  e = entry_of (tables_now from) w.job.chunk

  left : (y : ℕ) × (leaving w.job.kind (entry_of (tables_now from) w.job.chunk) ≡ Some y)
  left = leaving_there s fixed.sets from.pointers w (job_of from w fixed is)

  -- the zone that is given back, by its number
  module _ (y : ℕ) (gives : leaving w.job.kind (entry_of (tables_now from) w.job.chunk) ≡ Some y) where
    abbrev given : ZoneUse
    given = use_after_release (get_or from.named y false)

    pub zones_given : to.division.zones ≡ set from.division.zones y (use_after_release (get_or from.named y false))
    zones_given = did.zones ∙ ap (λ (o : Option ℕ). uses_without o from.named from.division.zones) gives

    data_zone : (first_data_zone from.geometry from.head.layout ≤ y) × (y < zone_count from.geometry)
    data_zone = fixed.sets.new_rules.map.data_zones w.job.chunk y (leaving_named w.job.kind e y gives)

    pub given_inside : y < length from.division.zones
    given_inside = (let low = data_zone.1 in let count = fixed.uses.count in omega (arith, low, count))

    use_given : IsUsedAs (record (sets_of from) { new = to.fresh }) None y (use_at to.division.zones y)
    use_given =
        subst (IsUsedAs (record s { new = to.fresh }) None y)
        (sym (ap (λ (uses : List ZoneUse). use_at uses y) zones_given
        ∙ get_or-set_same from.division.zones y given Meta given_inside))
        (used_released (record s { new = to.fresh }) None from.named y fixed.named data_zone.0 data_zone.1
        (leaving_bare from to w fixed is did y gives) (λ t. t))

    use_kept : (z : ℕ) → z ≢ y → IsUsedAs (record (sets_of from) { new = to.fresh }) None z (use_at to.division.zones z)
    use_kept z off = record {
      meta = λ low. (
        (λ meta. (was.meta z low).0 (sym at ∙ meta)),
        (λ below. at ∙ (was.meta z low).1 below),
      );
      free = λ free.
          let bare = was.free z (sym at ∙ free) in
          (bare.0, (λ n. bare.1 (named_without_target from to w fixed is did z bare.2 n)), λ t. t);
      limbo = λ limbo.
          let bare = was.limbo z (sym at ∙ limbo) in
          (bare.0, (λ n. bare.1 (named_without_target from to w fixed is did z bare.2 n)), λ t. t);
      held = λ held. elim (was.held z (sym at ∙ held)) [
        | inl n ↦ inl (named_but_left from to w fixed is did z
            (λ also. off (some_is z y (sym also ∙ gives))) n)
        | inr target ↦ inl (named_target from to w fixed is did z target)
      ];
      named = λ n. elim (some_or w.target z) [
        | inl target ↦ at ∙ was.target z target
        | inr apart ↦ at ∙ was.named z (named_without_target from to w fixed is did z apart n)
      ];
      target = λ t. absurd t;
    }
      where
        was : AreUsed (sets_of from) (Some w) from.division
        was = uses_of_job from w fixed is

        at : use_at to.division.zones z ≡ use_at from.division.zones z
        at =
            ap (λ (uses : List ZoneUse). use_at uses z) zones_given
            ∙ get_or-set_other from.division.zones y z given Meta off

    use_each : (z : ℕ) → IsUsedAs (record (sets_of from) { new = to.fresh }) None z (use_at to.division.zones z)
    use_each z = elim (cases_eq z y) [
      | inl same ↦
          subst (λ (n : ℕ). IsUsedAs (record s { new = to.fresh }) None n (use_at to.division.zones n)) (sym same)
          use_given
      | inr off ↦ use_kept z off
    ]

    -- THE ZONES
    uses_remapped : AreUsed (record (sets_of from) { new = to.fresh }) None to.division
    uses_remapped = record {
      count = ap (λ (uses : List ZoneUse). length uses) zones_given ∙ length-set from.division.zones y given
          ∙ fixed.uses.count;
      conv = did.conv ∙ fixed.uses.conv;
      order = ap (λ (order : List ℕ). length order) did.order ∙ fixed.uses.order;
      meta = λ z. (use_each z).meta;
      free = λ z. (use_each z).free;
      limbo = λ z. (use_each z).limbo;
      held = λ z. (use_each z).held;
      named = λ z. (use_each z).named;
      target = λ z. (use_each z).target;
    }

  -- THE CLASSES
  candidates_remapped : AreCandidates (record (sets_of from) { new = to.fresh }) from.pointers from.division.order
      (record from.standings { classes = to.standings.classes })
  candidates_remapped =
      candidates_changed s w.job.chunk to.fresh from.pointers from.pointers from.division.order from.standings
      (record from.standings { classes = to.standings.classes }) fixed.candidates did.classes did.others
      (bits_beside from to w fixed is did) (λ c z _ _. refl) refl

  pub fixed_remapped : from.phase ≡ Idle → IsFixed to
  fixed_remapped idle = subst IsFixed (sym did.rest) (record {
    sets = sets_remapped from to w fixed is did;
    flags = flags_marked s from.dirty to.dirty to.fresh fixed.flags (omega arith) did.dirty did.front;
    under_way = subst (λ (q : Phase). IsPhase q to.dirty from.head.generation) (sym idle) tt;
    uses = uses_remapped left.0 left.1;
    named = fixed.named;
    pointers = fixed.pointers;
    in_zones = fixed.in_zones;
    candidates = subst (λ (order : List ℕ). AreCandidates (record s { new = to.fresh }) from.pointers order
        (record from.standings { classes = to.standings.classes })) (sym did.order) candidates_remapped;
    job = tt;
    room = fixed.room;
  })
