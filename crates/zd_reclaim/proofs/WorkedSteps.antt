-- A step of a job whose call failed, and the last step.
use Rattle.std.proofs.Common.{◌≡◌, inl, inr, Option, Some, None, Err, refl, sym, subst}
use Rattle.zd_base.specs.declared.numbers.Why.{Why}
use Rattle.zd_base.specs.declared.steps.StepKind.{StepKind}
use Rattle.zd_base.specs.declared.steps.StepKind.TheVariants.{CopyRead, CopyWrite, Remap}
use Rattle.zd_disk.specs.View.{HasFailed, OnlyReads, ReadsOnce, View}
use Rattle.zd_volume.specs.Volumes.{PlainVolume}
use Rattle.zd_volume.specs.declared.work.Work.{Work}
use Rattle.zd_jobs.specs.JobSteps.{FailsCopyRead}
use Rattle.zd_jobs.specs.NextSteps.{IsNextOf, IsNextStep}
use Rattle.zd_state.specs.JobCalls.{CopiesOn}
use Rattle.zd_reclaim.specs.Works.{MakesNextStep, WorksOn}

-- the job of which a step comes next
under_way : (v : PlainVolume) (job : Option Work) (kind : StepKind) → IsNextStep v job (Some kind)
    → (w : Work) × (job ≡ Some w) × IsNextOf v w kind
under_way v None kind next = absurd (let f : ⊥ = cc in f)
under_way v (Some w) kind next = (w, refl, next)

-- of three kinds of steps it's the third
last_kind : (v : PlainVolume) (w : Work) (kind : StepKind) → IsNextOf v w kind → (kind ≡ CopyRead → ⊥)
    → (kind ≡ CopyWrite → ⊥) → kind ≡ Remap
last_kind v w kind (inl writes) not_read not_write = absurd (not_write writes.1)
last_kind v w kind (inr (inl ends)) not_read not_write = ends.2
last_kind v w kind (inr (inr (none, (at, count, run, inl gap)))) not_read not_write = absurd (not_write gap.1)
last_kind v w kind (inr (inr (none, (at, count, run, inr reads)))) not_read not_write = absurd (not_read reads.1)

-- THE LAST STEP comes next
pub ends_next : (v : PlainVolume) (kind : StepKind) → IsNextStep v v.job (Some kind) → (kind ≡ CopyRead → ⊥)
    → (kind ≡ CopyWrite → ⊥) → IsNextStep v v.job (Some Remap)
ends_next v kind next not_read not_write =
    let w = under_way v v.job kind next in
    subst (λ (k : StepKind). IsNextStep v v.job (Some k)) (last_kind v w.0 kind w.2 not_read not_write) next

module _ (from to : PlainVolume) (u x : View) (kind : StepKind) (next : IsNextStep from from.job (Some kind)) where
  -- A READ FAILED
  pub read_failed : (why : Why) → kind ≡ CopyRead → (why ≡ Why.Device) × FailsCopyRead from to × HasFailed u x
      → ReadsOnce u x → OnlyReads u x → MakesNextStep from to (Err why) u x
  read_failed why read err call reads =
      let w = under_way from from.job kind next in
      record {
        work = w.0;
        under_way = w.1;
        kind = kind;
        next = w.2;
        works = subst (λ (k : StepKind). WorksOn k from to w.0 (Err why) u x) (sym read)
            (record { call = call; reads = reads; ok = tt; err = err.1 });
        ok = tt;
        err = (err.0, err.2);
      }

  -- A WRITE FAILED
  pub write_failed : (why : Why) (w : Work) → kind ≡ CopyWrite → from.job ≡ Some w
      → CopiesOn {T = Unit {0}} {E = Why} from to w (Err why) u x → (why ≡ Why.Device) × HasFailed u x
      → MakesNextStep from to (Err why) u x
  write_failed why w write job copies err =
      record {
        work = w;
        under_way = job;
        kind = kind;
        next = subst (λ (j : Option Work). IsNextStep from j (Some kind)) job next;
        works = subst (λ (k : StepKind). WorksOn k from to w (Err why) u x) (sym write)
            (record {
              zone = copies.zone;
              count = copies.count;
              bytes = copies.bytes;
              target = copies.target;
              copy = copies.copy;
              call = record { call = copies.call.call; ok = tt; err = copies.call.err; cause = copies.call.cause };
              ok = tt;
              err = copies.err;
            });
        ok = tt;
        err = err;
      }
