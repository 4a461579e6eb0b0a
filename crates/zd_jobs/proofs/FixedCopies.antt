-- WHAT IS TRUE OF A VOLUME'S OWN VALUES stays true where blocks were copied to a job's target.
use Rattle.std.proofs.Common.{◌≡◌, ℕ, ◌+◌, ◌≤◌, Bool, cond, List, set, slice_index, Some}
use Rattle.std.proofs.Common.{get_or-set_same, refl, sym, ap, ◌∙◌, subst, arith}
use Rattle.std.proofs.lemmas.Bool.{le-ltb}
use Rattle.zd_model.proofs.FaultLaws.{some_is}
use Rattle.zd_disk.specs.Told.{next_count}
use Rattle.zd_volume.specs.Jobs.{IsJob}
use Rattle.zd_volume.specs.Uses.{AreCandidates}
use Rattle.zd_volume.specs.Volumes.{IsFixed, PlainVolume, sets_of}
use Rattle.zd_volume.specs.declared.work.Work.{Work}
use Rattle.zd_routes.specs.Routes.{pointers_with}
use Rattle.zd_routes.proofs.ChunkClasses.{candidates_changed}
use Rattle.zd_routes.proofs.FixedWrites.{in_zones_with, length-pointers_with, pointer_elsewhere}
use Rattle.zd_routes.proofs.GoalLaws.{own_no_target}
use Rattle.zd_jobs.specs.JobSteps.{WritesBlocksOn}
use Rattle.zd_jobs.proofs.WorkLaws.{job_of, target_low, uses_of_job, uses_on}

module _ (from to : PlainVolume) (w : Work) (zone count : ℕ) (fixed : IsFixed from) (is : from.job ≡ Some w)
    (did : WritesBlocksOn from to w zone count) (inside : w.copied + count ≤ from.geometry.zone_blocks) where
  abbrev end : ℕ
  end = w.copied + count

  abbrev moved : List ℕ
  moved = pointers_with from.geometry from.pointers zone (w.copied + count)

  abbrev next : Work
  next = record w { copied = w.copied + count; read = 0 }

  abbrev after : PlainVolume
  after = record from {
    job = Some next;
    pointers = moved;
    standings = record from.standings { classes = to.standings.classes };
    buffer = to.buffer;
    since = next_count from.since;
  }

  -- the pointer stands behind the blocks
  pointer_moved : from.geometry.conv ≤ zone → slice_index moved zone ≡ w.copied + count
  pointer_moved high =
      ap (λ (b : Bool). slice_index (cond b from.pointers (set from.pointers zone end)) zone)
      (le-ltb zone from.geometry.conv high)
      ∙ get_or-set_same from.pointers zone end 0
      (let low = target_low from w fixed is zone did.target in let size = fixed.pointers in omega (arith, low, size))

  job_copied : IsJob (sets_of from) moved next
  job_copied = record {
    chunk = (job_of from w fixed is).chunk;
    entry = (job_of from w fixed is).entry;
    target = (job_of from w fixed is).target;
    emptied = (job_of from w fixed is).emptied;
    inside = omega (arith, inside);
    few = omega arith;
    unread = λ _. refl;
    run = λ y x source low high. absurd (let f : ⊥ = omega (arith, low, high) in f);
    pointer = λ z target high.
        let same : z ≡ zone = some_is z zone (sym target ∙ did.target) in
        ap (λ (y : ℕ). slice_index moved y) same ∙ pointer_moved (omega (arith, high, same));
  }

  candidates_copied : AreCandidates (sets_of from) moved from.division.order
      (record from.standings { classes = to.standings.classes })
  candidates_copied =
      candidates_changed (sets_of from) w.job.chunk from.fresh from.pointers moved from.division.order from.standings
      (record from.standings { classes = to.standings.classes }) fixed.candidates did.classes (λ c off. refl)
      (λ c z x off named. refl)
      (λ c z off named. pointer_elsewhere from.geometry from.pointers zone end z
      (λ same. own_no_target (sets_of from) fixed.sets c z named from.pointers (Some w) (job_of from w fixed is)
      (λ here. off (sym here)) (did.target ∙ ap (λ (y : ℕ). Some y) (sym same))))
      refl

  pub fixed_after_copy : IsFixed after
  fixed_after_copy = record {
    sets = fixed.sets;
    flags = fixed.flags;
    under_way = fixed.under_way;
    uses = uses_on (sets_of from) w next from.division refl (uses_of_job from w fixed is);
    named = fixed.named;
    pointers = length-pointers_with from.geometry from.pointers zone end ∙ fixed.pointers;
    in_zones = in_zones_with from.geometry from.pointers zone end fixed.pointers inside fixed.in_zones;
    candidates = candidates_copied;
    job = job_copied;
    room = did.size ∙ fixed.room;
  }

  pub fixed_copied : IsFixed to
  fixed_copied = subst IsFixed (sym did.rest) fixed_after_copy
