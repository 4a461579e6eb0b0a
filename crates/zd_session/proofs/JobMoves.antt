-- The steps of jobs, put together: no chunk is touched, no actor's piece, and nothing is entered.
use Rattle.std.proofs.Common.{◌≡◌, ◌⊎◌, inl, inr, ℕ, ◌-◌, ◌<◌, ◌≤◌, Bool, true, List, length, slice_index, find, Option, Some, None, Result, Ok, Err, refl, sym, ap, ◌∙◌, subst, arith}
use Rattle.std.proofs.lemmas.Bool.{cases_lt, false≢true}
use Rattle.std.proofs.lemmas.Option.{same_Some}
use Rattle.std.specs.List.{range_with_len}
use Rattle.std.specs.Result.{IfErr, IfOk, IsOk, OnOk}
use Rattle.zd_base.specs.declared.geometry.Kind.TheVariants.{Sequential}
use Rattle.zd_base.specs.declared.numbers.Why.{Why}
use Rattle.zd_base.specs.declared.steps.StepKind.{StepKind}
use Rattle.zd_base.specs.declared.steps.StepKind.TheVariants as kinds
use Rattle.zd_alloc.specs.Zones.{Division, IsLeastOf, is_free, use_at}
use Rattle.zd_alloc.specs.declared.uses.ZoneUse.{ZoneUse}
use Rattle.zd_alloc.specs.declared.uses.ZoneUse.TheVariants.{Free, Held, Limbo, Meta}
use Rattle.zd_disk.specs.View.{HasFailed, View}
use Rattle.zd_model.specs.Image.{Image}
use Rattle.zd_model.specs.declared.requests.Request.{Request}
use Rattle.zd_state.proofs.JobStarts.{least_one}
use Rattle.zd_state.specs.JobCalls.{HasToReset, ResetsZone}
use Rattle.zd_state.specs.Seen.{SameSession, Seen}
use Rattle.zd_volume.specs.Volumes.{IsFixed, PlainVolume}
use Rattle.zd_volume.specs.declared.work.Job.{Job}
use Rattle.zd_volume.specs.declared.work.JobKind.{JobKind}
use Rattle.zd_volume.specs.declared.work.JobKind.TheVariants.{Append, Empty, Merge, Move}
use Rattle.zd_volume.specs.declared.work.Work.{Work}
use Rattle.zd_jobs.proofs.PossibleJobs.{before_found, found_passes, unfound}
use Rattle.zd_jobs.specs.JobSteps.{BeginsJob, BeginsWithReset, FailsReset}
use Rattle.zd_jobs.specs.NextSteps.{IsNextStep}
use Rattle.zd_jobs.specs.Possible.{HasFreeSequential, IsPossible}
use Rattle.zd_reclaim.proofs.FreeZones.{free_inside}
use Rattle.zd_reclaim.specs.Picks.{IsPick}
use Rattle.zd_reclaim.specs.Works.{MakesNextStep, WorksOn}
use Rattle.zd_session.specs.Moving.{HasMoved, IsGoing, StandsSo, seen_by}
use Rattle.zd_session.specs.SessionSteps.{CallsAtMostOnce, ServesWork}
use Rattle.zd_session.specs.Standings.{has_job, kind_next}
use Rattle.zd_session.specs.declared.progress.Progress.{Progress}
use Rattle.zd_session.proofs.MakingLaws.{calls_of_call, moved_rest}
use Rattle.zd_session.proofs.MovedLaws.{calls_none, calls_read}
use Rattle.zd_session.proofs.PickLaws.{job_picked}
use Rattle.zd_session.proofs.SparedLaws.{Nowhere, Spares}
use Rattle.zd_session.proofs.SparedSteps.{begins_spares, reset_fails_spares, resets_spares, work_spares}
use Rattle.zd_session.proofs.StandingLaws.{job_next}

-- THE LEAST FREE SEQUENTIAL ZONE, where one is free
free_use : (u : ZoneUse) → is_free u ≡ true → u ≡ Free
free_use Free is = refl
free_use Meta is = absurd (false≢true is)
free_use Held is = absurd (false≢true is)
free_use Limbo is = absurd (false≢true is)

abbrev is_free_at : Division → ℕ → Bool
is_free_at d z = is_free (use_at d.zones z)

least_free : (d : Division) (z : ℕ) → d.conv ≤ z → use_at d.zones z ≡ Free → (m : ℕ) × IsLeastOf Sequential d m
least_free d z high free = by (find (is_free_at d) (range_with_len d.conv (length d.zones - d.conv))) refl
  where
    low : z < length d.zones
    low = free_inside d.zones z free

    by : (o : Option ℕ) → find (is_free_at d) (range_with_len d.conv (length d.zones - d.conv)) ≡ o
        → (m : ℕ) × IsLeastOf Sequential d m
    by None none = absurd (false≢true
        (sym (unfound (is_free_at d) d.conv (length d.zones - d.conv) z none high (let n = low in omega (arith, n, high)))
        ∙ ap is_free free))
    by (Some m) found =
        let passes = found_passes (is_free_at d) d.conv (length d.zones - d.conv) m found in (
          m,
          record {
            inside = (let n = low in let up = passes.1 in let end = passes.2 in omega (arith, n, high, up, end));
            of_kind = passes.1;
            free = free_use (use_at d.zones m) passes.0;
            least = λ other from before is. false≢true
                (sym (before_found (is_free_at d) d.conv (length d.zones - d.conv) m other found from before)
                ∙ ap is_free is);
          },
        )

-- a job has to reset a zone, or none
pub reset_or_not : (v : PlainVolume) (kind : JobKind) → (kind ≡ Move → HasFreeSequential v.division)
    → ((zone : ℕ) × HasToReset v kind zone) ⊎ ((zone : ℕ) → HasToReset v kind zone → ⊥)
reset_or_not v Empty free = inr (λ zone has. (let same = has.0 in cc))
reset_or_not v Append free = inr (λ zone has. (let same = has.0 in cc))
reset_or_not v Merge free = inr (λ zone has. (let same = has.0 in cc))
reset_or_not v Move free =
    let one = free refl in
    let least = least_free v.division one.0 one.1 one.2 in
    elim (cases_lt 0 (slice_index v.pointers least.0)) [
      | inl some ↦ inl (least.0, (refl, least.1, some))
      | inr none ↦ inr (λ zone has.
          (let same : zone ≡ least.0 = least_one v.division zone least.0 has.1 least.1 in
          let some : 0 < slice_index v.pointers least.0 =
          subst (λ (z : ℕ). 0 < slice_index v.pointers z) same has.2 in
          omega (arith, some, none)))
    ]

pub pick_possible : (v : PlainVolume) (job : Job) → IsPick v (Some job) → IsPossible v job.chunk job.kind
pick_possible v job (inl first) = first.possible
pick_possible v job (inr (inl first)) = first.1.possible
pick_possible v job (inr (inr first)) = first.2.possible

pub some_picked : (v : PlainVolume) → IsFixed v → has_job v ≡ true → (result : Option Job) → IsPick v result
    → result ≡ None → ⊥
some_picked v fixed has result pick none =
    let one = job_picked v fixed has in
    subst (IsPick v) none pick one.0 (pick_possible v one.0 one.1)

-- the call of a step of a job; the last step makes none
work_ended : (v w : PlainVolume) (result : Result StepKind Why) (u x : View) (did : MakesNextStep v w result u x)
    → did.kind ≡ kinds.Remap → result ≡ Ok kinds.Remap
work_ended v w result u x did ends =
    by result did.ok (subst (λ (k : StepKind). WorksOn k v w did.work result u x) ends did.works).0
  where
    by : (r : Result StepKind Why) → IfOk r (λ k. k ≡ did.kind) → IsOk r → r ≡ Ok kinds.Remap
    by (Ok k) same is = ap Ok (same ∙ ends)
    by (Err why) same is = absurd (false≢true is)

works_calls : (kind : StepKind) (v w : PlainVolume) (work : Work) (result : Result StepKind Why) (u x : View)
    → WorksOn kind v w work result u x → (kind ≡ kinds.Remap → CallsAtMostOnce u x) → CallsAtMostOnce u x
works_calls kinds.CopyRead v w work result u x did none = calls_read u x did.reads (inr did.call)
works_calls kinds.CopyWrite v w work result u x did none = calls_of_call u x did.call.call
works_calls kinds.Remap v w work result u x did none = none refl
works_calls kind v w work result u x did none = absurd did

-- nothing is entered
works_history : (kind : StepKind) (v w : PlainVolume) (work : Work) (result : Result StepKind Why) (u x : View)
    → WorksOn kind v w work result u x → w.history ≡ v.history
works_history kinds.CopyRead v w work (Ok k) u x did = ap (λ (y : PlainVolume). y.history) did.ok.2.rest
works_history kinds.CopyRead v w work (Err why) u x did = ap (λ (y : PlainVolume). y.history) did.err.rest
works_history kinds.CopyWrite v w work (Ok k) u x did = ap (λ (y : PlainVolume). y.history) did.ok.rest
works_history kinds.CopyWrite v w work (Err why) u x did = ap (λ (y : PlainVolume). y.history) did.err.rest
works_history kinds.Remap v w work result u x did = ap (λ (y : PlainVolume). y.history) did.1.rest
works_history kind v w work result u x did = absurd did

module _ {D : Type 0} (look : D → View) (v w : Seen D) (g : Progress) (going : IsGoing look v g)
    (running : v.plain.stopped ≡ None) (stands : StandsSo look v) (same : SameSession 0 v w) where
  rests : CallsAtMostOnce (look v.disk) (look w.disk) → Spares (look v.opening).zones Nowhere v.plain w.plain
      → w.plain.history ≡ v.plain.history → HasMoved look v w g g
  rests calls spared history =
      moved_rest look v w g going running stands 0 same calls spared (inl (omega arith)) history

  -- A JOB BEGINS
  module _ (job : Job) (pick : IsPick v.plain (Some job)) (result : Result (Unit {0}) Why)
      (still : ((zone : ℕ) → HasToReset v.plain job.kind zone → ⊥) → IsOk result × (w.disk ≡ v.disk)
      × ((k : Work) × BeginsJob v.plain w.plain job k))
      (reset : (zone : ℕ) → HasToReset v.plain job.kind zone → ResetsZone zone result (look v.disk) (look w.disk)
      × OnOk result ((k : Work) × BeginsWithReset v.plain w.plain job k zone))
      (err : IfErr result (λ why. (why ≡ Why.Device) × FailsReset v.plain w.plain
      × HasFailed (look v.disk) (look w.disk))) where
    abbrev told : Option Image
    told = (look v.opening).zones

    was_reset : (zone : ℕ) → HasToReset v.plain job.kind zone → HasMoved look v w g g
    was_reset zone has = by result (reset zone has).1 err
      where
        calls : CallsAtMostOnce (look v.disk) (look w.disk)
        calls = calls_of_call (look v.disk) (look w.disk) (reset zone has).0.call

        by : (r : Result (Unit {0}) Why) → OnOk r ((k : Work) × BeginsWithReset v.plain w.plain job k zone)
            → IfErr r (λ why. (why ≡ Why.Device) × FailsReset v.plain w.plain × HasFailed (look v.disk) (look w.disk))
            → HasMoved look v w g g
        by (Ok y) did err =
            rests calls (resets_spares told v.plain w.plain job did.0 zone did.1)
            (ap (λ (x : PlainVolume). x.history) did.1.rest)
        by (Err why) did err =
            rests calls (reset_fails_spares told v.plain w.plain err.1) (ap (λ (x : PlainVolume). x.history) err.1)

    pub begin_moved : HasMoved look v w g g
    begin_moved = elim (reset_or_not v.plain job.kind (pick_possible v.plain job pick).free) [
      | inl one ↦ was_reset one.0 one.1
      | inr none ↦
          let did = still none in
          rests (calls_none look v.disk w.disk did.1) (begins_spares told v.plain w.plain job did.2.0 did.2.1)
          (ap (λ (x : PlainVolume). x.history) did.2.1.rest)
    ]

  -- A STEP OF A JOB
  module _ (result : Result StepKind Why) (did : MakesNextStep v.plain w.plain result (look v.disk) (look w.disk))
      (disk : result ≡ Ok kinds.Remap → w.disk ≡ v.disk) where
    pub work_moved : HasMoved look v w g g
    work_moved =
        rests
        (works_calls did.kind v.plain w.plain did.work result (look v.disk) (look w.disk) did.works
        (λ ends. calls_none look v.disk w.disk
        (disk (work_ended v.plain w.plain result (look v.disk) (look w.disk) did ends))))
        (work_spares (look v.opening).zones v.plain w.plain result (look v.disk) (look w.disk) stands.fixed did)
        (works_history did.kind v.plain w.plain did.work result (look v.disk) (look w.disk) did.works)

    pub work_serves : (plan : List Request) (kind : StepKind) → kind_next v.plain v.plain.job ≡ Some kind
        → ServesWork look (seen_by v plan g) (seen_by w plan g) kind
    work_serves plan kind next = record {
      result = result;
      makes = did;
      is = is;
      disk = λ ends. disk (work_ended v.plain w.plain result (look v.disk) (look w.disk) did (is ∙ ends));
      actors = record { flights = refl; actors = refl };
    }
      where
        is : did.kind ≡ kind
        is = same_Some did.kind kind
            (job_next v.plain (Some did.kind)
            (subst (λ (o : Option Work). IsNextStep v.plain o (Some did.kind)) (sym did.under_way) did.next)
            ∙ next)
