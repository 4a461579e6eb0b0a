-- The job under way: what is known of it, and of the zones from which and to which it copies.
use Rattle.std.proofs.Common.{◌≡◌, ℕ, ◌+◌, ◌-◌, ◌*◌, ◌<◌, ◌≤◌, List, Option, Some, None, inl, inr, refl, sym, ap}
use Rattle.std.proofs.Common.{◌∙◌, subst, arith}
use Rattle.std.proofs.lemmas.Bool.{cases_lt}
use Rattle.zd_base.specs.Geometry.{Shape, zone_count}
use Rattle.zd_base.specs.Layout.{first_data_zone}
use Rattle.zd_alloc.specs.Zones.{Division}
use Rattle.zd_model.specs.Image.{Image}
use Rattle.zd_model.specs.Safe.{base_at}
use Rattle.zd_model.specs.Tables.{entry_of}
use Rattle.zd_model.proofs.FaultLaws.{none_some, some_is}
use Rattle.zd_disk.specs.OfGeometry.{IsImageOf}
use Rattle.zd_disk.specs.Told.{WhereTold}
use Rattle.zd_disk.specs.View.{View}
use Rattle.zd_disk.proofs.ToldLaws.{Some-same}
use Rattle.zd_volume.specs.Flights.{tables_now}
use Rattle.zd_volume.specs.Jobs.{AreCopied, FitsEntry, HasCopies, HasTarget, IsJob, IsJobOrNone}
use Rattle.zd_volume.specs.Sets.{Sets, old_tables}
use Rattle.zd_volume.specs.Uses.{AreUsed}
use Rattle.zd_volume.specs.Volumes.{IsFixed, IsKeptVolume, IsNow, PlainVolume, sets_of}
use Rattle.zd_volume.specs.declared.work.JobKind.{JobKind}
use Rattle.zd_volume.specs.declared.work.JobKind.TheVariants.{Empty, Move, Append, Merge}
use Rattle.zd_volume.specs.declared.work.Work.{Work}
use Rattle.zd_volume.proofs.DropUses.{source_named}
use Rattle.zd_volume.proofs.JobLaws.{target_data}
use Rattle.zd_jobs.specs.NextSteps.{IsNextRun, source}
use Rattle.zd_jobs.proofs.EndZones.{there_is}

-- zones are used as before beside a job that goes on
pub uses_on : (s : Sets) (old new : Work) (d : Division) → new.target ≡ old.target → AreUsed s (Some old) d
    → AreUsed s (Some new) d
uses_on s old new d same was = record {
  count = was.count;
  conv = was.conv;
  order = was.order;
  meta = was.meta;
  free = λ z is. (let bare = was.free z is in (bare.0, bare.1, λ t. bare.2 (sym same ∙ t)));
  limbo = λ z is. (let left = was.limbo z is in (left.0, left.1, λ t. left.2 (sym same ∙ t)));
  held = λ z is. elim (was.held z is) [ inl n ↦ inl n | inr t ↦ inr (same ∙ t) ];
  named = was.named;
  target = λ z t. was.target z (sym same ∙ t);
}

-- the image that a disk tells is one of the volume's geometry
pub told_image : (v : PlainVolume) (opening u : View) → IsKeptVolume v opening u → (r : Image) → u.zones ≡ Some r
    → IsImageOf v.geometry r
told_image v opening u was r there = record {
  image = u.shaped r there;
  geometry = Some-same r.geometry v.geometry (sym (u.agrees r there) ∙ was.tells);
}

module _ (v : PlainVolume) (w : Work) (fixed : IsFixed v) (is : v.job ≡ Some w) where
  pub job_of : IsJob (sets_of v) v.pointers w
  job_of = subst (IsJobOrNone (sets_of v) v.pointers) is fixed.job

  pub uses_of_job : AreUsed (sets_of v) (Some w) v.division
  uses_of_job = subst (λ (job : Option Work). AreUsed (sets_of v) job v.division) is fixed.uses

  -- THE TARGET is a data zone
  pub target_far : (z : ℕ) → w.target ≡ Some z → first_data_zone v.geometry v.head.layout ≤ z
  target_far z target = target_data (sets_of v) fixed.sets v.pointers w job_of z target

  pub target_low : (z : ℕ) → w.target ≡ Some z → z < zone_count v.geometry
  target_low z target = by w.job.kind job_of.target
    where
      by : (kind : JobKind)
          → HasTarget v.geometry (old_tables (sets_of v)) (tables_now v) kind (entry_of (tables_now v) w.job.chunk)
          w.target → z < zone_count v.geometry
      by Empty has = absurd (none_some z (sym has ∙ target))
      by Move has =
          let same = some_is has.0 z (sym has.1 ∙ target) in
          let low = has.3 in
          omega (arith, low, same)
      by Append has = (fixed.sets.new_rules.map.data_zones w.job.chunk z (inl (sym has ∙ target))).1
      by Merge has = (fixed.sets.new_rules.map.data_zones w.job.chunk z (inr (sym has ∙ target))).1

  -- there is one but for an Empty, for which nothing is read or copied
  pub target_there : (w.job.kind ≡ Empty → ⊥) → (z : ℕ) × (w.target ≡ Some z)
  target_there copies = by w.job.kind refl job_of.entry job_of.target
    where
      by : (kind : JobKind) → w.job.kind ≡ kind → FitsEntry v.geometry kind (entry_of (tables_now v) w.job.chunk)
          → HasTarget v.geometry (old_tables (sets_of v)) (tables_now v) kind (entry_of (tables_now v) w.job.chunk)
          w.target → (z : ℕ) × (w.target ≡ Some z)
      by Empty kind fits has = absurd (copies kind)
      by Move kind fits has = (has.0, has.1)
      by Append kind fits has = (let zone = there_is (entry_of (tables_now v) w.job.chunk).zone fits.0 in
          (zone.0, has ∙ zone.1))
      by Merge kind fits has = (let buffer = there_is (entry_of (tables_now v) w.job.chunk).buffer fits.1 in
          (buffer.0, has ∙ buffer.1))

  pub target_read : 0 < w.read → (z : ℕ) × (w.target ≡ Some z)
  target_read read = target_there (λ empty. (let none = job_of.unread empty in omega (arith, read, none)))

  pub target_empty : w.job.kind ≡ Empty → w.target ≡ None
  target_empty empty =
      subst (λ (kind : JobKind). HasTarget v.geometry (old_tables (sets_of v)) (tables_now v) kind
      (entry_of (tables_now v) w.job.chunk) w.target) empty job_of.target

  -- THE SOURCE too
  pub source_low : (y : ℕ) → source v w ≡ Some y → y < zone_count v.geometry
  source_low y from =
      (fixed.sets.new_rules.map.data_zones w.job.chunk y
      (source_named w.job.kind (entry_of (tables_now v) w.job.chunk) y from)).1

  module _ (base : List (List ℕ)) (r : Image) (now : IsNow v base r) where
    pub copies_of : AreCopied (sets_of v) v.buffer w base v.history r
    copies_of = subst (λ (job : Option Work). HasCopies (sets_of v) v.buffer job base v.history r) is now.copies

    -- A SEQUENTIAL TARGET is written just up to where the job is
    pub copied_at_pointer : (z : ℕ) → w.target ≡ Some z → v.geometry.conv ≤ z → 8 * w.copied ≡ r.held z
    copied_at_pointer z target high =
        let whole = now.whole.at z high (uses_of_job.target z target) in
        let stands = now.pointers.at z high (target_low z target) in
        let block = job_of.pointer z target high in
        omega (arith, whole, stands, block)

    -- THE RUN that is read next lies below the pointer of the source
    pub run_below : (at count : ℕ) (run : IsNextRun v w at count) → IsImageOf v.geometry r
        → 8 * at + 8 * count ≤ r.held run.zone
    run_below at count run of = elim (cases_lt run.zone v.geometry.conv) [
      | inl conv ↦
          let zones = ap (λ (s : Shape). s.conv) of.geometry in
          let size = ap (λ (s : Shape). s.zone_blocks) of.geometry in
          let full = of.image.conventional run.zone (omega (arith, conv, zones)) in
          let end = run.inside in
          omega (arith, full, size, end)
      | inr seq ↦
          let end = run.inside in
          let some = run.some in
          let low = source_low run.zone run.from in
          let last = run.valid (at + count - 1) (omega (arith, some)) (omega (arith, some)) in
          let under = now.read.below run.zone (at + count - 1) seq low (omega (arith, some, end)) last in
          omega (arith, some, under)
    ]

-- THE SAME where the disk tells it: what its calls ask for
module _ (v : PlainVolume) (w : Work) (opening u : View) (runs : v.stopped ≡ None) (was : IsKeptVolume v opening u)
    (is : v.job ≡ Some w) where
  pub starts_at_copied : (z : ℕ) → w.target ≡ Some z
      → WhereTold u.zones (λ i. i.geometry.conv ≤ z → 8 * w.copied ≡ i.held z)
  starts_at_copied z target r there high =
      copied_at_pointer v w was.fixed is (base_at opening.zones) r (was.reads runs r there) z target
      (subst (λ (g : Shape). g.conv ≤ z) (told_image v opening u was r there).geometry high)

  pub run_below_told : (at count : ℕ) (run : IsNextRun v w at count)
      → WhereTold u.zones (λ i. 8 * at + 8 * count ≤ i.held run.zone)
  run_below_told at count run r there =
      run_below v w was.fixed is (base_at opening.zones) r (was.reads runs r there) at count run
      (told_image v opening u was r there)
