-- THE END OF A JOB KEEPS A VOLUME: in Idle, where all is copied. It makes no call.
use Rattle.std.proofs.Common.{◌≡◌, ℕ, false, List, Some, None, refl, sym, subst, arith}
use Rattle.std.specs.Prelude.{get_or}
use Rattle.zd_base.specs.declared.steps.StepKind.{StepKind}
use Rattle.zd_alloc.specs.declared.uses.ZoneUse.{ZoneUse}
use Rattle.zd_model.specs.Image.{Image}
use Rattle.zd_model.specs.Safe.{base_at}
use Rattle.zd_model.specs.Tables.{entry_of}
use Rattle.zd_disk.specs.View.{View}
use Rattle.zd_volume.specs.Flights.{tables_now}
use Rattle.zd_volume.specs.LeftImages.{MayBeLeft, ReadsAs}
use Rattle.zd_volume.specs.Volumes.{IsFixed, IsKeptVolume, IsNow, IsWhole, PlainVolume, sets_of}
use Rattle.zd_volume.specs.declared.phase.Phase.{Phase}
use Rattle.zd_volume.specs.declared.phase.Phase.TheVariants.{Idle}
use Rattle.zd_volume.specs.declared.work.Work.{Work}
use Rattle.zd_volume.proofs.Images.{left_idle}
use Rattle.zd_volume.proofs.Still.{kept_still, only_nothing}
use Rattle.zd_routes.proofs.PromotedPlaces.{whole_released}
use Rattle.zd_jobs.specs.NextSteps.{IsCopied, IsNextOf}
use Rattle.zd_jobs.specs.Remaps.{RemapsChunk, leaving}
use Rattle.zd_jobs.proofs.EndZones.{leaving_there}
use Rattle.zd_jobs.proofs.FixedRemaps.{fixed_remapped, given_inside, zones_given}
use Rattle.zd_jobs.proofs.NextLaws.{remap_next}
use Rattle.zd_jobs.proofs.RemapPlaces.{below_remapped, remap_serves}
use Rattle.zd_jobs.proofs.WorkLaws.{job_of}

module _ (from to : PlainVolume) (w : Work) (opening now : View) (was : IsKeptVolume from opening now)
    (idle : from.phase ≡ Idle) (is : from.job ≡ Some w) (copied : IsCopied from w) (did : RemapsChunk from to w) where
  abbrev base : List (List ℕ)
  base = base_at opening.zones

  abbrev after : PlainVolume
  after = record from {
    fresh = to.fresh;
    dirty = to.dirty;
    division = to.division;
    standings = record from.standings { classes = to.standings.classes };
    job = None;
  }

  left : (y : ℕ) × (leaving w.job.kind (entry_of (tables_now from) w.job.chunk) ≡ Some y)
  left = leaving_there (sets_of from) was.fixed.sets from.pointers w (job_of from w was.fixed is)

  reads_remapped : (r : Image) → IsNow from (base_at opening.zones) r
      → ReadsAs Idle (sets_of after) (base_at opening.zones) from.history r
  reads_remapped r now =
      let reads : ReadsAs Idle (sets_of from) base from.history r =
      subst (λ (q : Phase). ReadsAs q (sets_of from) base from.history r) idle now.read in
      record {
        first = record {
          super = reads.first.super;
          below = λ k i _ _ none. absurd (let f : ⊥ = omega (arith, none) in f);
          from = reads.first.from;
        };
        second = record {
          super = reads.second.super;
          below = λ k i _ _ none. absurd (let f : ⊥ = omega (arith, none) in f);
          from = reads.second.from;
        };
        below = below_remapped from to w was.fixed is did copied base r now;
        served = remap_serves from to w was.fixed is did copied base r now;
      }

  now_remapped : (r : Image) → IsNow from (base_at opening.zones) r → IsNow after (base_at opening.zones) r
  now_remapped r now = record {
    read = subst (λ (q : Phase). ReadsAs q (sets_of after) base from.history r) (sym idle) (reads_remapped r now);
    pointers = now.pointers;
    whole = subst (λ (uses : List ZoneUse). IsWhole from.geometry uses r)
        (sym (zones_given from to w was.fixed is did left.0 left.1))
        (whole_released from.geometry from.division.zones left.0 (get_or from.named left.0 false) r
        (given_inside from to w was.fixed is did left.0 left.1) now.whole);
    copies = tt;
  }

  left_remapped : (i : Image) → MayBeLeft from.phase (sets_of from) (base_at opening.zones) from.history from.since i
      → MayBeLeft from.phase (sets_of after) (base_at opening.zones) from.history from.since i
  left_remapped i may =
      subst (λ (q : Phase). MayBeLeft q (sets_of after) base from.history from.since i) (sym idle)
      (left_idle (sets_of from) to.fresh base from.history from.history from.since i (λ n y m. m)
      (subst (λ (q : Phase). MayBeLeft q (sets_of from) base from.history from.since i) idle may))

  kept_after : IsKeptVolume after opening now
  kept_after =
      kept_still from after opening now now
      (record { geometry = refl; head = refl; since = refl; opening = refl; runs = λ r. r }) (only_nothing now) was
      (record {
        fixed = subst IsFixed did.rest (fixed_remapped from to w was.fixed is did idle);
        by_now = was.counted.by_now;
        faulted = was.faulted;
        calm = was.calm;
        legal = λ r t l. l;
        more = λ k n y m. m;
        reads = λ _ r t reads. now_remapped r reads;
        stops = λ _ r i t may. left_remapped i may;
      })

  pub kept_remapped : IsKeptVolume to opening now
  kept_remapped = subst (λ (v : PlainVolume). IsKeptVolume v opening now) (sym did.rest) kept_after

-- THE SAME where that is the job's next step
pub kept_job_ended : (from to : PlainVolume) (w : Work) (opening now : View) → IsKeptVolume from opening now
    → from.phase ≡ Idle → from.job ≡ Some w → IsNextOf from w StepKind.Remap → RemapsChunk from to w
    → IsKeptVolume to opening now
kept_job_ended from to w opening now was idle is next did =
    kept_remapped from to w opening now was idle is (remap_next from w next).1 did
