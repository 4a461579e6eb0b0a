-- A commit begins, or cannot: steps without a call.
use Rattle.std.proofs.Common.{◌≡◌, ℕ, ◌-◌, ◌^◌, ◌<◌, Some, None, refl, sym, ◌∙◌, subst, arith}
use Rattle.zd_base.specs.declared.numbers.Why.{Why}
use Rattle.zd_model.specs.Safe.{base_at}
use Rattle.zd_disk.specs.View.{View}
use Rattle.zd_sets.proofs.StageLaws.{before_mixed}
use Rattle.zd_volume.specs.LeftImages.{MayBeLeft, ReadsAs}
use Rattle.zd_volume.specs.Phases.{IsNextDirty}
use Rattle.zd_volume.specs.Sets.{second, used}
use Rattle.zd_volume.specs.Uses.{IsPhase}
use Rattle.zd_volume.specs.Volumes.{IsKeptVolume, PlainVolume, sets_of}
use Rattle.zd_volume.specs.declared.phase.Phase.{Phase}
use Rattle.zd_volume.specs.declared.phase.Phase.TheVariants.{Idle, Log}
use Rattle.zd_volume.proofs.FixedLaws.{fixed_beside}
use Rattle.zd_volume.proofs.FlushPhases.{few_dirty, onward}
use Rattle.zd_volume.proofs.Still.{kept_still, only_nothing}

-- A COMMIT BEGINS with its first dirty block
pub kept_begin : (v : PlainVolume) (m : ℕ) (opening d : View) → IsKeptVolume v opening d → v.phase ≡ Idle
    → IsNextDirty v.dirty 1 (Some m) → v.head.generation < 2 ^ 64 - 1
    → IsKeptVolume (record v { phase = Log m }) opening d
kept_begin v m opening d was idle is small =
    kept_still v (record v { phase = Log m }) opening d d
    (record { geometry = refl; head = refl; since = refl; opening = refl; runs = λ r. r }) (only_nothing d) was
    (record {
      fixed = fixed_beside v was.fixed (Log m) v.history v.since v.stopped (omega (arith, is.1), is.0, is.3, small);
      by_now = was.counted.by_now;
      faulted = was.faulted;
      calm = was.calm;
      legal = λ r t l. l;
      more = λ k n x may. may;
      reads = λ _ r t now.
          let read : ReadsAs Idle (sets_of v) (base_at opening.zones) v.history r =
          subst (λ (p : Phase). ReadsAs p (sets_of v) (base_at opening.zones) v.history r) idle now.read in
          record {
            read = record {
              first = read.first;
              second = onward (sets_of v) was.fixed.sets v.dirty was.fixed.flags (second (sets_of v)) v.head m r
                  (few_dirty (sets_of v) was.fixed.sets v.dirty was.fixed.flags m is) (λ j a b. is.2 j a b) read.second;
              below = read.below;
              served = read.served;
            };
            pointers = now.pointers;
            whole = now.whole;
            copies = now.copies;
          };
      stops = λ _ r c t may.
          let f : MayBeLeft Idle (sets_of v) (base_at opening.zones) v.history v.since c =
          subst (λ (p : Phase). MayBeLeft p (sets_of v) (base_at opening.zones) v.history v.since c) idle may in
          record {
            first = f.first;
            second = before_mixed v.geometry (second (sets_of v))
                (used (sets_of v)) v.head v.committed v.fresh c f.second;
            by_old = f.by_old;
            below_old = f.below_old;
            below_new = λ t. absurd t;
            by_new = λ t. absurd t;
          };
    })

-- A VOLUME THAT STOPS by no failure of the disk
pub kept_stopped : (v : PlainVolume) (opening d : View) → IsKeptVolume v opening d
    → IsKeptVolume (record v { stopped = Some Why.Generation }) opening d
kept_stopped v opening d was = record {
  tells = was.tells;
  shows = was.shows;
  fixed = fixed_beside v was.fixed v.phase v.history v.since (Some Why.Generation) was.fixed.under_way;
  counted = record {
    few = was.counted.few;
    later = was.counted.later;
    count = was.counted.count;
    generation = was.counted.generation;
    by_now = was.counted.by_now;
  };
  faulted = record {
    later = was.faulted.later;
    told = was.faulted.told;
    cause = λ small why. absurd (let f : ⊥ = cc in f);
  };
  calm = λ x. absurd (let f : ⊥ = cc in f);
  based = was.based;
  legal = was.legal;
  reads = λ x. absurd (let f : ⊥ = cc in f);
  stops = λ x. absurd (let f : ⊥ = cc in f);
  safe = was.safe;
  earlier = was.earlier;
}

-- the phase of a volume that the disk has stopped says nothing
pub kept_unphased : (v : PlainVolume) (p : Phase) (why : Why) (opening d : View) → p ≡ Idle → v.stopped ≡ Some why
    → IsKeptVolume v opening d → IsKeptVolume (record v { phase = p }) opening d
kept_unphased v p why opening d idle halted was = record {
  tells = was.tells;
  shows = was.shows;
  fixed = fixed_beside v was.fixed p v.history v.since v.stopped
      (subst (λ (q : Phase). IsPhase q v.dirty v.head.generation) (sym idle) tt);
  counted = record {
    few = was.counted.few;
    later = was.counted.later;
    count = was.counted.count;
    generation = was.counted.generation;
    by_now = was.counted.by_now;
  };
  faulted = was.faulted;
  calm = was.calm;
  based = was.based;
  legal = was.legal;
  reads = λ runs. absurd (let no : None ≡ Some why = sym runs ∙ halted in let f : ⊥ = cc in f);
  stops = λ runs. absurd (let no : None ≡ Some why = sym runs ∙ halted in let f : ⊥ = cc in f);
  safe = was.safe;
  earlier = was.earlier;
}
