-- A run that is alone stays so, and no more is to come before its next piece is entered.
use Rattle.std.proofs.Common.{◌≡◌, inl, inr, ℕ, ◌+◌, ◌≤◌, true, false, Some, None, refl, sym, ap, ◌∙◌, true≢false}
use Rattle.std.proofs.Common.{arith}
use Rattle.std.proofs.lemmas.Bool.{cases_eq, cases_Bool, eq-eqb, ne_eqb}
use Rattle.zd_progress.specs.LoneRuns.{IsAlone, IsBeside, IsSoundRun, JobAhead, LoneRun, calls_to_come, calls_of_commit}
use Rattle.zd_progress.specs.LoneRuns.{commits_ahead, commits_to_come, job_calls, jobs_to_come, most_calls}
use Rattle.zd_progress.specs.LoneSteps.{EntersNow, EntryCause, FliesOn, LoneStep, SpendsNoMore}
use Rattle.zd_progress.specs.LoneSteps.EntryCause.{flush, ready}
use Rattle.zd_progress.specs.LoneSteps.LoneStep.{commits, copies, finishes, starts}
use Rattle.zd_progress.specs.Paces.{IsInTime}
use Rattle.zd_progress.proofs.Bounds.{are_few}
use Rattle.zd_progress.proofs.CommitSpends.{commit_spends}
use Rattle.zd_progress.proofs.FinishSpends.{finish_spends}
use Rattle.zd_progress.proofs.JobSpends.{begin_beside, begin_spends, copy_beside, copy_spends}
use Rattle.zd_progress.proofs.OnConventional.{cases_option}

none_beside : (b : LoneRun) → b.job ≡ None → (w : JobAhead) → b.job ≡ Some w → IsBeside w b
none_beside b none w e = absurd (let f : ⊥ = cc in f)

none_calls : (j : ℕ) (b : LoneRun) → b.job ≡ None → job_calls b.job ≤ j
none_calls j b none = let e : job_calls b.job ≡ 0 = ap job_calls none in omega (arith, e)

module _ (first j c : ℕ) (a b : LoneRun) (is : IsAlone first j c a) where
  pub step_spends : LoneStep j a b → SpendsNoMore j c a b
  step_spends (commits s) = commit_spends first j c a b is s
  step_spends (starts s) = begin_spends first j c a b is s
  step_spends (copies s) = copy_spends first j c a b is s
  step_spends (finishes s) = finish_spends first j c a b is s

  pub step_alone : IsSoundRun first c b → LoneStep j a b → IsAlone first j c b
  step_alone sound (commits s) = record {
    waiting = sound.waiting;
    stocked = sound.stocked;
    beside = none_beside b s.no_job_yet;
    few_calls = none_calls j b s.no_job_yet;
    commit = elim (cases_eq a.commit 0) [
      | inl e ↦
          let l : b.commit + 1 ≡ calls_of_commit a.dirty = s.left ∙ rw (eq-eqb a.commit 0 e) refl in
          omega (arith, l, is.dirty)
      | inr ne ↦
          let l : b.commit + 1 ≡ a.commit = s.left ∙ rw (ne_eqb a.commit 0 ne) refl in
          omega (arith, l, is.commit)
    ];
    dirty = sound.dirty;
  }
  step_alone sound (starts s) = record {
    waiting = sound.waiting;
    stocked = sound.stocked;
    beside = begin_beside first j c a b is s;
    few_calls = (
        let e : job_calls b.job ≡ s.job.calls = ap job_calls s.is in
        omega (arith, e, s.calls, s.later)
        );
    commit = omega (arith, s.same_commit);
    dirty = sound.dirty;
  }
  step_alone sound (copies s) = record {
    waiting = sound.waiting;
    stocked = sound.stocked;
    beside = copy_beside first j c a b is s;
    few_calls = (
        let e : job_calls b.job ≡ s.left = ap job_calls s.is in
        let f : job_calls a.job ≡ s.job.calls = ap job_calls s.was in
        omega (arith, e, f, s.calls, s.later, is.few_calls)
        );
    commit = omega (arith, s.same_commit, is.commit);
    dirty = sound.dirty;
  }
  step_alone sound (finishes s) = record {
    waiting = sound.waiting;
    stocked = sound.stocked;
    beside = none_beside b s.is;
    few_calls = none_calls j b s.is;
    commit = omega (arith, s.same_commit, is.commit);
    dirty = sound.dirty;
  }

  -- a piece is entered or goes on only where no job is under way
  not_beside : EntryCause a b → {w : JobAhead} → IsBeside w a → ⊥
  not_beside (ready ok same) beside = true≢false (sym ok ∙ beside.not_ready)
  not_beside (flush off ok same) beside = true≢false (sym ok ∙ beside.no_flush)

  no_job : EntryCause a b → a.job ≡ None
  no_job cause = elim (cases_option a.job) [
    | inl none ↦ none
    | inr (w, e) ↦ absurd (not_beside cause (is.beside w e))
  ]

  -- a run in which no job is under way then either
  still_alone : IsSoundRun first c b → b.job ≡ None → b.commit ≤ a.commit → IsAlone first j c b
  still_alone sound none fewer = record {
    waiting = sound.waiting;
    stocked = sound.stocked;
    beside = none_beside b none;
    few_calls = none_calls j b none;
    commit = omega (arith, fewer, is.commit);
    dirty = sound.dirty;
  }

  pub enter_alone : IsSoundRun first c b → EntersNow a b → IsAlone first j c b
  enter_alone sound s = still_alone sound (s.no_job (no_job s.cause)) s.commit

  pub fly_alone : IsSoundRun first c b → FliesOn a b → IsAlone first j c b
  fly_alone sound s = still_alone sound (s.no_job (no_job (ready s.ready s.commits))) (omega (arith, s.commit))

  pub step_in_time : (x y z : ℕ) → LoneStep j a b → IsInTime j c x y z a
      → IsInTime j c x y z b
  step_in_time x y z step t =
      let s = step_spends step in
      record {
        calls_in = omega (arith, s.calls, t.calls_in);
        jobs_in = omega (arith, s.jobs, t.jobs_in);
        commits_in = omega (arith, s.commits, t.commits_in);
      }

  pub one_to_come : 1 ≤ calls_to_come j c a
  one_to_come = elim (cases_Bool a.is_ready) [
    | inl ok ↦ rw ok (omega arith)
    | inr ng ↦ rw ng (omega arith)
  ]

  pub fly_in_time : (x y z : ℕ) → FliesOn a b → IsInTime j c x y z a
      → IsInTime j c x y z b
  fly_in_time x y z s t =
      let one_call : calls_to_come j c b ≡ 1 = rw s.still_ready refl in
      let no_jobs : jobs_to_come b ≡ 0 = rw s.still_ready refl in
      let no_commits : commits_to_come b ≡ 0 = rw s.still_ready refl in
      record {
        calls_in = omega (arith, one_call, s.calls, one_to_come, t.calls_in);
        jobs_in = omega (arith, no_jobs, s.jobs, t.jobs_in);
        commits_in = omega (arith, no_commits, s.commits, t.commits_in);
      }

  entry_commits : EntryCause a b → b.commits ≤ a.commits + commits_to_come a
  entry_commits (ready ok same) = omega (arith, same)
  entry_commits (flush off ok same) =
      let e : commits_to_come a ≡ commits_ahead false true a.job a.commit a.stock = rw (off, ok) refl in
      omega (arith, same, e)

  -- entered in time
  pub record IsEnteredIn (x y z : ℕ) : Type 0 where
    pub calls_in : b.calls ≤ x + most_calls j c
    pub jobs_in : b.jobs ≤ y + 2
    pub commits_in : b.commits ≤ z + 3

  pub enter_in_time : (x y z : ℕ) → EntersNow a b → IsInTime j c x y z a
      → IsEnteredIn x y z
  enter_in_time x y z s t = record {
    calls_in = omega (arith, s.calls, one_to_come, t.calls_in);
    jobs_in = omega (arith, s.jobs, t.jobs_in);
    commits_in = omega (arith, entry_commits s.cause, t.commits_in);
  }

-- at the beginning, and behind each entered piece
pub begin_in_time : (first j c : ℕ) (r : LoneRun) → 1 ≤ c → IsAlone first j c r
    → IsInTime j c r.calls r.jobs r.commits r
begin_in_time first j c r some is =
    let few = are_few first j c r some is in
    record {
      calls_in = omega (arith, few.calls);
      jobs_in = omega (arith, few.jobs);
      commits_in = omega (arith, few.commits);
    }
