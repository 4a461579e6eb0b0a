-- A JOB THAT BEGINS WITH A RESET KEEPS A VOLUME, in any phase; so does a reset that failed: no table names the zone.
use Rattle.std.proofs.Common.{◌≡◌, ◌≢◌, ℕ, ◌/◌, ◌%◌, ◌<◌, false, true, List, length, set, slice_index, Option, Some}
use Rattle.std.proofs.Common.{None, inl, inr, get_or-set_other, get_or-set_same, sym, ap, ◌∙◌, subst, arith}
use Rattle.std.proofs.lemmas.Bool.{cases_eq}
use Rattle.std.specs.Prelude.{IsTrue}
use Rattle.zd_base.specs.Geometry.{Shape, zone_count}
use Rattle.zd_base.specs.Layout.{rounded_up}
use Rattle.zd_base.specs.declared.numbers.Why.{Why}
use Rattle.zd_base.specs.declared.geometry.Kind.TheVariants.{Sequential}
use Rattle.zd_alloc.specs.Zones.{IsLeastOf}
use Rattle.zd_alloc.specs.declared.uses.ZoneUse.{ZoneUse}
use Rattle.zd_model.specs.Image.{Image}
use Rattle.zd_model.specs.Places.{zone_at}
use Rattle.zd_model.specs.Safe.{base_at}
use Rattle.zd_model.specs.Tables.{is_valid}
use Rattle.zd_disk.specs.Steps.{ResetLeaves, ResetStep, WasReset}
use Rattle.zd_disk.specs.Told.{next_count}
use Rattle.zd_disk.specs.View.{Calls, HasFailed, Turns, View}
use Rattle.zd_tables.specs.Rules.{FollowRules}
use Rattle.zd_tables.specs.Tables.{tables_in}
use Rattle.zd_volume.specs.Flights.{tables_now}
use Rattle.zd_volume.specs.Jobs.{IsNamed}
use Rattle.zd_volume.specs.Volumes.{HasPointers, IsFixed, IsKeptVolume, IsWhole, PlainVolume, sets_of}
use Rattle.zd_volume.specs.declared.work.Job.{Job}
use Rattle.zd_volume.specs.declared.work.Work.{Work}
use Rattle.zd_volume.proofs.Choices.{some_blocks}
use Rattle.zd_volume.proofs.DataSteps.{IsBareZone, NowAfter, after_data, kept_reset}
use Rattle.zd_volume.proofs.FixedLaws.{fixed_beside}
use Rattle.zd_volume.proofs.InPhases.{both_at}
use Rattle.zd_volume.proofs.PlaceLaws.{below_apart, content_apart, named_place}
use Rattle.zd_routes.specs.Changes.{IsSpare}
use Rattle.zd_routes.proofs.GoalLaws.{free_spare}
use Rattle.zd_jobs.specs.JobSteps.{BeginsWithReset, FailsReset}
use Rattle.zd_jobs.specs.Possible.{IsPossible}
use Rattle.zd_jobs.proofs.DataReads.{reads_data}
use Rattle.zd_jobs.proofs.FixedBegins.{begins_taking, fixed_begins_reset, spare_reset}
use Rattle.zd_jobs.proofs.KeptBegins.{copies_begun, whole_taken}

-- A ZONE THAT NO TABLE NAMES has no sector and no valid block
unnamed_bare : (v : PlainVolume) → IsFixed v → (bytes : List ℕ) → FollowRules v.geometry v.head.layout bytes → (z : ℕ)
    → z < zone_count v.geometry → (IsNamed (tables_in v.geometry v.head.layout bytes) z → ⊥)
    → ((n : ℕ) → zone_at v.geometry.zone_blocks (tables_in v.geometry v.head.layout bytes) n ≢ Some z)
    × ((x : ℕ) → x < v.geometry.zone_blocks
    → IsTrue (is_valid (tables_in v.geometry v.head.layout bytes) z x) → ⊥)
unnamed_bare v fixed bytes rules z low bare = (
  (λ n is. bare (
    n / 8 / v.geometry.zone_blocks,
    (named_place v.geometry v.head.layout (some_blocks (sets_of v) fixed.sets)
        (tables_in v.geometry v.head.layout bytes) rules.map n z is).0,
  )),
  (λ x inside valid. bare (rules.bits.named z x low inside valid)),
)

pub spare_bare : (v : PlainVolume) → IsFixed v → (z : ℕ) → IsSpare (sets_of v) z → IsBareZone v z
spare_bare v fixed z spare = record {
  far = spare.data_zone.0;
  old = λ _. unnamed_bare v fixed v.committed fixed.sets.old_rules z spare.data_zone.1 spare.old;
  new = λ _. unnamed_bare v fixed v.fresh fixed.sets.new_rules z spare.data_zone.1 spare.new;
}

-- the pointer of a zone that was reset
pointers_reset : (g : Shape) (pointers : List ℕ) (zone : ℕ) (r j : Image) → WasReset zone r j
    → length pointers ≡ zone_count g → HasPointers g pointers r → HasPointers g (set pointers zone 0) j
pointers_reset g pointers zone r j did size has = record {
  at = λ z seq low. elim (cases_eq z zone) [
    | inl here ↦
        ap (λ (y : ℕ). slice_index (set pointers zone 0) y) here
        ∙ get_or-set_same pointers zone 0 0 (omega (arith, size, low, here))
        ∙ sym (ap (λ (n : ℕ). rounded_up n 8) (ap j.held here ∙ did.zone))
    | inr off ↦
        get_or-set_other pointers zone z 0 0 off
        ∙ has.at z seq low
        ∙ ap (λ (n : ℕ). rounded_up n 8) (sym (did.others z off).held)
  ];
}

whole_reset : (g : Shape) (uses : List ZoneUse) (zone : ℕ) (r j : Image) → WasReset zone r j → IsWhole g uses r
    → IsWhole g uses j
whole_reset g uses zone r j did whole = record {
  at = λ z seq held. elim (cases_eq z zone) [
    | inl here ↦ ap (λ (n : ℕ). n % 8) (ap j.held here ∙ did.zone)
    | inr off ↦ ap (λ (n : ℕ). n % 8) (did.others z off).held ∙ whole.at z seq held
  ];
}

module _ (from to : PlainVolume) (w : Work) (zone : ℕ) (opening u x : View) (runs : from.stopped ≡ None)
    (was : IsKeptVolume from opening u) (free : from.job ≡ None) (possible : IsPossible from w.job.chunk w.job.kind)
    (did : BeginsWithReset from to w.job w zone) (turns : Turns (WasReset zone) u x) where
  abbrev base : List (List ℕ)
  base = base_at opening.zones

  abbrev after : PlainVolume
  after = after_data from to.division (set from.pointers zone 0) from.standings (Some w) from.buffer None

  is_after : after ≡ to
  is_after =
      ap (λ (stopped : Option Why). record from {
        division = to.division;
        pointers = set from.pointers zone 0;
        job = Some w;
        since = next_count from.since;
        stopped = stopped;
      }) (sym runs)
      ∙ sym did.rest

  spare : IsSpare (sets_of from) zone
  spare = (spare_reset from to w zone was.fixed free possible did).0

  now_reset : NowAfter from after base true u x
  now_reset _ r j there then of_r of_j now =
      let reset : WasReset zone r j = both_at (WasReset zone) u.zones x.zones turns.reads r j there then in
      let bare = unnamed_bare from was.fixed from.fresh was.fixed.sets.new_rules zone spare.data_zone.1 spare.new in
      let some = some_blocks (sets_of from) was.fixed.sets in
      let rules = was.fixed.sets.new_rules.map in
      record {
        read = reads_data (sets_of from) was.fixed.sets from.phase base from.history r j of_r zone
            spare.data_zone.0 reset.geometry reset.others
            (below_apart from.geometry from.head.layout some (tables_now from) rules r j of_r now.read.below zone
            bare.0 reset.others bare.1)
            (λ n low.
            content_apart from.geometry from.head.layout some (tables_now from) rules r j of_r now.read.below zone
            bare.0 reset.others n
            ∙ now.read.served n low)
            now.read;
        pointers = pointers_reset from.geometry from.pointers zone r j reset was.fixed.pointers now.pointers;
        whole = subst (λ (uses : List ZoneUse). IsWhole from.geometry uses j) (sym did.takes.zones)
            (whole_taken from.geometry from.division.zones zone j (ap (λ (n : ℕ). n % 8) reset.zone)
            (whole_reset from.geometry from.division.zones zone r j reset now.whole));
        copies = copies_begun from w to.division was.fixed possible did.read
            (begins_taking from to w zone was.fixed free possible did) base from.history j;
      }

  kept_begun_reset : Calls (λ _. ResetStep zone) (λ _ j. ResetLeaves j zone) u x → IsKeptVolume to opening x
  kept_begun_reset call =
      subst (λ (v : PlainVolume). IsKeptVolume v opening x) is_after
      (kept_reset from opening u x runs was to.division (set from.pointers zone 0) from.standings (Some w) from.buffer true
      (subst IsFixed (sym is_after) (fixed_begins_reset from to w zone was.fixed free possible did)) now_reset
      (λ no. absurd (let f : ⊥ = cc in f)) (WasReset zone) turns zone (spare_bare from was.fixed zone spare) call)

-- ONE THAT WAS DONE
pub kept_begins_reset : (from to : PlainVolume) (job : Job) (w : Work) (zone : ℕ) (opening u x : View)
    → from.stopped ≡ None → IsKeptVolume from opening u → from.job ≡ None → IsPossible from job.chunk job.kind
    → BeginsWithReset from to job w zone → Turns (WasReset zone) u x
    → Calls (λ _. ResetStep zone) (λ _ j. ResetLeaves j zone) u x → IsKeptVolume to opening x
kept_begins_reset from to job w zone opening u x runs was free possible did turns call =
    kept_begun_reset from to w zone opening u x runs was free
    (subst (λ (j : Job). IsPossible from j.chunk j.kind) (sym did.job_is) possible)
    (subst (λ (j : Job). BeginsWithReset from to j w zone) (sym did.job_is) did) turns call

-- ONE THAT FAILED: the zone isn't taken, and the volume is stopped
pub kept_reset_failed : (from to : PlainVolume) (zone : ℕ) (opening u x : View) → from.stopped ≡ None
    → IsKeptVolume from opening u → IsLeastOf Sequential from.division zone → FailsReset from to → HasFailed u x
    → Turns (ResetStep zone) u x → Calls (λ _. ResetStep zone) (λ _ j. ResetLeaves j zone) u x
    → IsKeptVolume to opening x
kept_reset_failed from to zone opening u x runs was least did failed turns call =
    subst (λ (v : PlainVolume). IsKeptVolume v opening x) (sym did)
    (kept_reset from opening u x runs was from.division from.pointers from.standings from.job from.buffer false
    (fixed_beside from was.fixed from.phase from.history (next_count from.since) (Some Why.Device)
    was.fixed.under_way)
    (λ no. absurd (let f : ⊥ = cc in f)) (λ _. failed) (ResetStep zone) turns zone
    (spare_bare from was.fixed zone
    (free_spare (sets_of from) from.job from.division was.fixed.uses zone least.inside least.free)) call)
