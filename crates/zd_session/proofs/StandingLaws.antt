-- What the questions of the choice tell of a volume is what the rules look at.
use Rattle.std.proofs.Common.{◌≡◌, ◌⊎◌, inl, inr, ℕ, zero, suc, ◌-◌, ◌<◌, ◌≤◌, Bool, true, false, not, ◌&&◌, ◌||◌, cond, nat_lt, nat_le, eqb, List, [], ◌∷◌, Option, Some, None, refl, sym, ap, ap₂, ◌∙◌, subst, find, count_by, arith, Decides, IsTrue, IfNone, IfSome}
use Rattle.std.specs.Prelude.{slice_index, is_none, option_and_then}
use Rattle.std.proofs.lemmas.Bool.{and_from, and_parts, cases_lt, eq-eqb, false≢true, and_right, le-leb, leb-true, lt-leb, lt-ltb, ltb-false, ltb-true, ne_eqb, or_cases, or_right}
use Rattle.std.proofs.lemmas.Bool.Decides.{Decides-and, Decides-like, Decides-ltb, Decides-not, Decides-or, same_from_decides}
use Rattle.std.proofs.lemmas.List.{get_or-take, length-take}
use Rattle.std.proofs.lemmas.List.Sums.{get_or-le-sum_by}
use Rattle.std.proofs.lemmas.Option.{none-some}
use Rattle.std.specs.List.{list_any, range_with_len}
use Rattle.zd_base.specs.Geometry.{Shape}
use Rattle.zd_base.specs.declared.geometry.Kind.TheVariants.{Conventional}
use Rattle.zd_base.specs.declared.steps.StepKind.{StepKind}
use Rattle.zd_base.specs.declared.steps.StepKind.TheVariants.{CopyRead, CopyWrite}
use Rattle.zd_alloc.specs.Zones.{Division, HasNoFree, IsLeastOf, is_free, is_limbo, use_at, uses_of}
use Rattle.zd_alloc.specs.declared.uses.ZoneUse.{ZoneUse}
use Rattle.zd_alloc.specs.declared.uses.ZoneUse.TheVariants.{Meta, Free, Held, Limbo}
use Rattle.zd_model.proofs.FaultLaws.{none_some, some_is}
use Rattle.zd_model.specs.Tables.{is_valid}
use Rattle.zd_model.specs.declared.metadata.MapEntry.{MapEntry}
use Rattle.zd_model.specs.declared.requests.Piece.{Piece}
use Rattle.zd_volume.specs.Discards.{range_first}
use Rattle.zd_volume.specs.Flights.{tables_now}
use Rattle.zd_volume.specs.Volumes.{IsFixed, PlainVolume}
use Rattle.zd_volume.specs.declared.phase.Phase.{Phase}
use Rattle.zd_volume.specs.declared.phase.Phase.TheVariants.{Idle, Log, LogFlush, LogSuper, LogSuperFlush, InPlace, InPlaceFlush, InPlaceSuper, InPlaceSuperFlush}
use Rattle.zd_volume.specs.declared.work.Place.{Place}
use Rattle.zd_volume.specs.declared.work.Place.TheVariants.{Main, NewMain, Buffer, NewBuffer}
use Rattle.zd_volume.specs.declared.work.Work.{Work}
use Rattle.zd_routes.specs.Routes.{GoesTo, HasPlace, IsRoute, LacksZone, TakesZone, entry_touched}
use Rattle.zd_commit.specs.Closed.{HasLimbo}
use Rattle.zd_jobs.specs.NextSteps.{IsNextOf, IsNextStep, source}
use Rattle.zd_jobs.proofs.NextLaws.{IsFirstLeft, next_gap, next_read, next_step_unique}
use Rattle.zd_jobs.proofs.PossibleJobs.{before_found, found_passes, unfound}
use Rattle.zd_reclaim.specs.Due.{IsJobDue}
use Rattle.zd_reclaim.proofs.FreeZones.{free_inside, some_free}
use Rattle.zd_steps.specs.NextStep.{is_commit_due, is_job_due, is_low}
use Rattle.zd_steps.specs.Runs.{lacks_zone, writes}
use Rattle.zd_session.specs.Sessions.{no_edges}
use Rattle.zd_session.specs.Standings.{has_job, is_under_way, kind_at, kind_next, leaves_gap, needs_zone, next_block, standing_of, takes_zone}
use Rattle.zd_session.proofs.PickLaws.{job_picked, picked_has}

abbrev tally : ZoneUse → ℕ
tally u = cond (is_free u) 1 0

pub not_is : (a b : Bool) → not a ≡ b → a ≡ not b
not_is true b is = ap not is
not_is false b is = ap not is

-- NO COMMIT IS UNDER WAY
pub idle_decides : (p : Phase) → Decides (not (is_under_way p)) (p ≡ Idle)
idle_decides Idle = (λ _. refl, λ _. refl)
idle_decides (Log k) = (λ is. absurd (false≢true is), λ is. absurd (let f : ⊥ = cc in f))
idle_decides LogFlush = (λ is. absurd (false≢true is), λ is. absurd (let f : ⊥ = cc in f))
idle_decides LogSuper = (λ is. absurd (false≢true is), λ is. absurd (let f : ⊥ = cc in f))
idle_decides LogSuperFlush = (λ is. absurd (false≢true is), λ is. absurd (let f : ⊥ = cc in f))
idle_decides (InPlace k) = (λ is. absurd (false≢true is), λ is. absurd (let f : ⊥ = cc in f))
idle_decides InPlaceFlush = (λ is. absurd (false≢true is), λ is. absurd (let f : ⊥ = cc in f))
idle_decides InPlaceSuper = (λ is. absurd (false≢true is), λ is. absurd (let f : ⊥ = cc in f))
idle_decides InPlaceSuperFlush = (λ is. absurd (false≢true is), λ is. absurd (let f : ⊥ = cc in f))

-- SOME ZONE IS IN LIMBO
limbo_use : (u : ZoneUse) → is_limbo u ≡ true → u ≡ Limbo
limbo_use Limbo is = refl
limbo_use Meta is = absurd (false≢true is)
limbo_use Free is = absurd (false≢true is)
limbo_use Held is = absurd (false≢true is)

any_limbo : (zones : List ZoneUse) → list_any is_limbo zones ≡ true → (z : ℕ) × (use_at zones z ≡ Limbo)
any_limbo [] is = absurd (false≢true is)
any_limbo (u ∷ zones) is = elim (or_cases (is_limbo u) (list_any is_limbo zones) is) [
  | inl here ↦ (0, limbo_use u here)
  | inr later ↦ (let rest = any_limbo zones later in (suc rest.0, rest.1))
]

limbo_any : (zones : List ZoneUse) (z : ℕ) → use_at zones z ≡ Limbo → list_any is_limbo zones ≡ true
limbo_any [] z is = absurd (let f : ⊥ = cc in f)
limbo_any (u ∷ zones) zero is = ap (λ (x : ZoneUse). is_limbo x || list_any is_limbo zones) is
limbo_any (u ∷ zones) (suc z) is =
    or_right (is_limbo u) (list_any is_limbo zones) (limbo_any zones z is)

limbo_decides : (d : Division) → Decides (list_any is_limbo d.zones) (HasLimbo d)
limbo_decides d = (λ is. any_limbo d.zones is, λ has. limbo_any d.zones has.0 has.1)

itself : (b : Bool) → Decides b (IsTrue b)
itself b = (λ is. is, λ is. is)

module _ (v : PlainVolume) where
  -- A COMMIT IS DUE
  pub commit_due : (flush wanted due : Bool) → Decides due ((v.phase ≡ Idle) × (IsTrue flush ⊎ (IsTrue wanted × HasLimbo v.division)))
      → due ≡ is_commit_due (standing_of v no_edges) flush wanted
  commit_due flush wanted due is =
      same_from_decides due (is_commit_due (standing_of v no_edges) flush wanted) is
      (Decides-and (not (is_under_way v.phase)) (flush || (wanted && list_any is_limbo v.division.zones))
      (idle_decides v.phase)
      (Decides-or flush (wanted && list_any is_limbo v.division.zones) (itself flush)
      (Decides-and wanted (list_any is_limbo v.division.zones) (itself wanted) (limbo_decides v.division))))

  -- A JOB IS DUE
  pub none_decides : (job : Option Work) → Decides (is_none (kind_next v job)) (job ≡ None)
  none_decides None = (λ _. refl, λ _. refl)
  none_decides (Some w) = (λ is. absurd (false≢true is), λ is. absurd (none-some w (sym is)))

  pub job_due : IsFixed v → (wanted due : Bool) → Decides due (IsJobDue v wanted)
      → due ≡ is_job_due (standing_of v no_edges) wanted
  job_due fixed wanted due is =
      let none : Bool = is_none (kind_next v v.job) in
      let idle : Bool = not (is_under_way v.phase) in
      let wants : Bool = wanted && not (list_any is_limbo v.division.zones) in
      let low : Bool = is_low (standing_of v no_edges) in
      same_from_decides due (is_job_due (standing_of v no_edges) wanted) is
      (Decides-like (is_job_due (standing_of v no_edges) wanted)
      (λ all. record { idle = all.0.0.1; none = all.0.0.0; need = all.0.1; picks = job_picked v fixed all.1 })
      (λ due. (((due.none, due.idle), due.need), picked_has v fixed due.picks.0 due.picks.1))
      (Decides-and ((none && idle) && (wants || low)) (has_job v)
      (Decides-and (none && idle) (wants || low)
      (Decides-and none idle (none_decides v.job) (idle_decides v.phase))
      (Decides-or wants low
      (Decides-and wanted (not (list_any is_limbo v.division.zones)) (itself wanted)
      (Decides-not (list_any is_limbo v.division.zones) (limbo_decides v.division)))
      (Decides-ltb _ _)))
      (itself (has_job v))))

  -- A WRITE LACKS A ZONE
  taken : (place : Place) (g : Shape) (pointers : List ℕ) (e : MapEntry) (first : ℕ) → GoesTo g pointers e first place
      → TakesZone place → takes_zone g pointers first e.zone e.buffer ≡ true
  taken NewMain g pointers e first goes takes = ap (λ (o : Option ℕ). takes_zone g pointers first o e.buffer) goes
  taken NewBuffer g pointers e first goes takes =
      ap₂ (λ (o b : Option ℕ). takes_zone g pointers first o b) goes.0.1 goes.1
      ∙ and_from (nat_le g.conv goes.0.0) (not (eqb (slice_index pointers goes.0.0) first))
      (le-leb g.conv goes.0.0 goes.0.2)
      (ap not (ne_eqb (slice_index pointers goes.0.0) first goes.0.3))
  taken Main g pointers e first goes takes = absurd takes
  taken Buffer g pointers e first goes takes = absurd takes

  untaken : (place : Place) (g : Shape) (pointers : List ℕ) (e : MapEntry) (first : ℕ) → GoesTo g pointers e first place
      → (TakesZone place → ⊥) → takes_zone g pointers first e.zone e.buffer ≡ false
  untaken NewMain g pointers e first goes free = absurd (free tt)
  untaken NewBuffer g pointers e first goes free = absurd (free tt)
  untaken Main g pointers e first goes free =
      ap (λ (o : Option ℕ). takes_zone g pointers first o e.buffer) goes.1 ∙ by e.buffer goes.2
    where
      by : (b : Option ℕ) → (goes.0 < g.conv) ⊎ (slice_index pointers goes.0 ≡ first)
          → takes_zone g pointers first (Some goes.0) b ≡ false
      by (Some b) h = refl
      by None (inl low) = ap (λ (c : Bool). c && not (eqb (slice_index pointers goes.0) first)) (lt-leb g.conv goes.0 low)
      by None (inr same) =
          ap (λ (c : Bool). nat_le g.conv goes.0 && not c) (eq-eqb (slice_index pointers goes.0) first same)
          ∙ and_right (nat_le g.conv goes.0) false refl
  untaken Buffer g pointers e first goes free =
      by e.buffer (λ none. goes.1 none)
    where
      by : (b : Option ℕ) → (b ≡ None → ⊥) → takes_zone g pointers first e.zone b ≡ false
      by None some = absurd (some refl)
      by (Some b) some = ap (λ (o : Option ℕ). takes_zone g pointers first o (Some b)) goes.0.1

  -- no conventional zone is free exactly where none counts
  conv_free : (z : ℕ) → z < v.division.conv → use_at v.division.zones z ≡ Free
      → 0 < count_by is_free (uses_of Conventional v.division)
  conv_free z low is =
      let at : use_at (uses_of Conventional v.division) z ≡ Free = get_or-take v.division.conv v.division.zones z Meta low ∙ is in
      let here : tally (use_at (uses_of Conventional v.division) z) ≡ 1 = ap tally at in
      let most = get_or-le-sum_by tally (uses_of Conventional v.division) z Meta
      (free_inside (uses_of Conventional v.division) z at) in
      omega (arith, here, most)

  none_counts : HasNoFree Conventional v.division → count_by is_free (uses_of Conventional v.division) ≡ 0
  none_counts none = elim (cases_lt 0 (count_by is_free (uses_of Conventional v.division))) [
    | inr none_at ↦ omega (arith, none_at)
    | inl some ↦
        let one = some_free (uses_of Conventional v.division) some in
        let low = free_inside (uses_of Conventional v.division) one.0 one.1 in
        let size = length-take v.division.conv v.division.zones in
        absurd (none one.0 (omega (arith, low, size))
        (sym (get_or-take v.division.conv v.division.zones one.0 Meta (omega (arith, low, size))) ∙ one.1))
  ]

  module _ (p : Piece) where
    abbrev first : ℕ
    first = range_first v.geometry.zone_blocks p.what

    has_free : (zone : ℕ) → IsLeastOf Conventional v.division zone
        → (needs_zone v p && eqb (count_by is_free (uses_of Conventional v.division)) 0) ≡ false
    has_free zone least =
        let some = conv_free zone least.of_kind least.free in
        ap (λ (b : Bool). needs_zone v p && b) (ne_eqb (count_by is_free (uses_of Conventional v.division)) 0 (λ zero. omega (arith, some, zero)))
        ∙ and_right (needs_zone v p) false refl

    lacking : LacksZone v p.what → needs_zone v p ≡ true
    lacking lacks =
        taken lacks.place v.geometry v.pointers (entry_touched v p.what) first lacks.goes lacks.takes

    routed : (place : Place) (zone : ℕ) → IsRoute v p.what place zone
        → (needs_zone v p && eqb (count_by is_free (uses_of Conventional v.division)) 0) ≡ false
    routed Main zone route =
        ap (λ (b : Bool). b && eqb (count_by is_free (uses_of Conventional v.division)) 0)
        (untaken Main v.geometry v.pointers (entry_touched v p.what) first route.goes (λ none. none))
    routed Buffer zone route =
        ap (λ (b : Bool). b && eqb (count_by is_free (uses_of Conventional v.division)) 0)
        (untaken Buffer v.geometry v.pointers (entry_touched v p.what) first route.goes (λ none. none))
    routed NewMain zone route = has_free zone route.goal
    routed NewBuffer zone route = has_free zone route.goal

    -- A WRITE LACKS A ZONE exactly where it has no place
    pub lacks_place : (o : Option Place) → writes p ≡ true → p.range ≡ false → IfSome o (HasPlace v p.what)
        → IfNone o (LacksZone v p.what) → is_none o ≡ lacks_zone (standing_of v no_edges) p
    lacks_place o write range some none = by o some none
        ∙ ap (λ (b : Bool). b && needs_zone v p && eqb (count_by is_free (uses_of Conventional v.division)) 0)
        (sym (and_from (writes p) (not p.range) write (ap not range)))
      where
        by : (o : Option Place) → IfSome o (HasPlace v p.what) → IfNone o (LacksZone v p.what)
            → is_none o ≡ (true && needs_zone v p && eqb (count_by is_free (uses_of Conventional v.division)) 0)
        by (Some place) has none = sym (routed place has.0 has.1)
        by None some lacks =
            sym (and_from (needs_zone v p) (eqb (count_by is_free (uses_of Conventional v.division)) 0) (lacking lacks)
            (eq-eqb (count_by is_free (uses_of Conventional v.division)) 0 (none_counts lacks.none)))

  -- THE NEXT STEP OF A JOB
  module _ (w : Work) where
    gap_decides : (target : Option ℕ) (at : ℕ) → Decides (leaves_gap v.geometry w target at)
        ((z : ℕ) × (target ≡ Some z) × (v.geometry.conv ≤ z) × (w.copied < at))
    gap_decides None at = (λ is. absurd (false≢true is), λ gap. absurd (none_some gap.0 gap.1))
    gap_decides (Some zone) at = (
      λ is. (let both = and_parts (nat_le v.geometry.conv zone) (nat_lt w.copied at) is in
          (zone, refl, leb-true v.geometry.conv zone both.0, ltb-true w.copied at both.1)),
      λ gap. (let high = gap.2 in let same = some_is zone gap.0 gap.1 in
          and_from (nat_le v.geometry.conv zone) (nat_lt w.copied at) (le-leb v.geometry.conv zone (omega (arith, high, same)))
          (lt-ltb w.copied at gap.3)),
    )

    at_first : (at : ℕ) → w.read ≡ 0 → IsFirstLeft v w at → (gap : Bool) → leaves_gap v.geometry w w.target at ≡ gap
        → IsNextOf v w (cond gap CopyWrite CopyRead)
    at_first at none left true is = next_gap v w at none left ((gap_decides w.target at).0 is)
    at_first at none left false is =
        next_read v w at none left (λ gap. false≢true (sym is ∙ (gap_decides w.target at).1 gap))

    from_zone : (zone : ℕ) (o : Option ℕ) → source v w ≡ Some zone → w.read ≡ 0
        → find (is_valid (tables_now v) zone) (range_with_len w.copied (v.geometry.zone_blocks - w.copied)) ≡ o
        → IsNextOf v w (kind_at v.geometry w o)
    from_zone zone None from none found = inr (inl (
      none,
      (λ y x is low high.
          subst (λ (z : ℕ). is_valid (tables_now v) z x ≡ false) (some_is zone y (sym from ∙ is))
          (unfound (is_valid (tables_now v) zone) w.copied (v.geometry.zone_blocks - w.copied) x found low
          (omega (arith, low, high)))),
      refl,
    ))
    from_zone zone (Some at) from none found =
        let passes = found_passes (is_valid (tables_now v) zone) w.copied (v.geometry.zone_blocks - w.copied) at found in
        let low = passes.1 in
        let high = passes.2 in
        at_first at none (record {
          zone = zone;
          from = from;
          later = low;
          inside = omega (arith, low, high);
          first = λ x later before.
              before_found (is_valid (tables_now v) zone) w.copied (v.geometry.zone_blocks - w.copied) at x found later before;
          valid = passes.0;
        }) (leaves_gap v.geometry w w.target at) refl

    from_source : (o : Option ℕ) → source v w ≡ o → w.read ≡ 0 → IsNextOf v w (kind_at v.geometry w
        (option_and_then (λ (zone : ℕ). find (is_valid (tables_now v) zone) (range_with_len w.copied (v.geometry.zone_blocks - w.copied))) o))
    from_source None from none = inr (inl (none, (λ y x is low high. absurd (none_some y (sym from ∙ is))), refl))
    from_source (Some zone) from none = from_zone zone (find (is_valid (tables_now v) zone) (range_with_len w.copied (v.geometry.zone_blocks - w.copied))) from none refl

    next_is : (read : Bool) → nat_lt 0 w.read ≡ read → IsNextOf v w (cond read CopyWrite (kind_at v.geometry w (next_block v w)))
    next_is true is = inl (ltb-true 0 w.read is, refl)
    next_is false is = from_source (source v w) refl (let none = ltb-false 0 w.read is in omega (arith, none))

  pub step_next : (job : Option Work) → IsNextStep v job (kind_next v job)
  step_next None = refl
  step_next (Some w) = next_is w (nat_lt 0 w.read) refl

  pub job_next : (next : Option StepKind) → IsNextStep v v.job next → next ≡ kind_next v v.job
  job_next next is = next_step_unique v v.job next (kind_next v v.job) is (step_next v.job)
