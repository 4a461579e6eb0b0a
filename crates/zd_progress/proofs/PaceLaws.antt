-- Steps keep a run on time.
use Rattle.std.proofs.Common.{◌≡◌, ◌⊎◌, inl, inr, ℕ, suc, ◌+◌, ◌-◌, ◌*◌, ◌^◌, ◌<◌, ◌≤◌, true, false, true≢false, List}
use Rattle.std.proofs.Common.{length}
use Rattle.std.proofs.Common.{None, subst, refl, sym, ap, ◌∙◌, arith}
use Rattle.std.proofs.lemmas.Bool.{cases_Bool}
use Rattle.zd_progress.specs.LoneRuns.{IsAlone, IsBeside, IsSoundRun, JobAhead, LoneRun, commits_ahead, commits_to_come}
use Rattle.zd_progress.specs.LoneRuns.{most_calls}
use Rattle.zd_progress.specs.LoneSteps.{IsCommitNeeded}
use Rattle.zd_progress.specs.LoneSteps.IsCommitNeeded.{flush, zone}
use Rattle.zd_progress.specs.Paces.{AreClose, HaltsAt, IsAtLast, IsAccounted, IsInTime, IsPaced, IsUnpaced}
use Rattle.zd_progress.specs.Paces.{Pace, PacesOn, at_before, commits_under_way}
use Rattle.zd_progress.specs.Paces.HaltsAt.{faults, silent}
use Rattle.zd_progress.specs.Paces.PacesOn.{enters, flies, steps}
use Rattle.zd_progress.proofs.CommitSpends.{now_one}
use Rattle.zd_progress.proofs.Entries.{close_more, count_of, last_of}
use Rattle.zd_progress.proofs.LoneLaws.{begin_in_time, enter_alone, enter_in_time, fly_alone, fly_in_time, one_to_come}
use Rattle.zd_progress.proofs.LoneLaws.{step_alone, step_in_time}
use Rattle.zd_progress.proofs.OnConventional.{cases_option}

pub paced_begin : (first j c : ℕ) (p : Pace) → 1 ≤ c → IsUnpaced first j c p → IsPaced first j c p
paced_begin first j c p some is =
    let t = begin_in_time first j c p.run some is.alone in
    record {
      alone = is.alone;
      close = subst (AreClose (most_calls j c)) (sym is.none) (λ i inside. absurd (omega (arith, inside)));
      jobs_before = 0;
      commits_before = 0;
      few = omega arith;
      few_at_end = λ none. omega (arith, is.no_commits);
      in_time = subst (λ (ats : List ℕ). IsInTime j c (at_before ats (length ats)) 0 0 p.run) (sym is.none) (record {
        calls_in = omega (arith, t.calls_in, is.no_calls);
        jobs_in = omega (arith, t.jobs_in, is.no_jobs);
        commits_in = omega (arith, t.commits_in, is.no_commits);
      });
    }

module _ (first j c : ℕ) (a b : Pace) (some : 1 ≤ c) (is : IsPaced first j c a) where
  abbrev last_at : ℕ
  last_at = at_before a.ats (length a.ats)

  -- nothing is entered
  still : IsAlone first j c b.run → IsInTime j c last_at is.jobs_before is.commits_before b.run → b.ats ≡ a.ats
      → 0 < b.left → IsPaced first j c b
  still alone t same more = record {
    alone = alone;
    close = subst (AreClose (most_calls j c)) (sym same) is.close;
    jobs_before = is.jobs_before;
    commits_before = is.commits_before;
    few = (let e : length b.ats ≡ length a.ats = ap length same in omega (arith, is.few, e));
    few_at_end = λ none. absurd (omega (arith, none, more));
    in_time = subst
        (λ (ats : List ℕ). IsInTime j c (at_before ats (length ats)) is.jobs_before is.commits_before b.run)
        (sym same) t;
  }

  pub paced_on : IsSoundRun first c b.run → PacesOn j a b → IsPaced first j c b
  paced_on sound (steps s same more left counts) = still
      (step_alone first j c a.run b.run is.alone sound s)
      (step_in_time first j c a.run b.run is.alone last_at is.jobs_before is.commits_before s is.in_time)
      same more
  paced_on sound (flies s same more left counts) = still
      (fly_alone first j c a.run b.run is.alone sound s)
      (fly_in_time first j c a.run b.run is.alone last_at is.jobs_before is.commits_before s is.in_time)
      same more
  paced_on sound (enters s n more left counts) =
      let alone = enter_alone first j c a.run b.run is.alone sound s in
      let got = enter_in_time first j c a.run b.run is.alone last_at is.jobs_before is.commits_before s is.in_time in
      let t = begin_in_time first j c b.run some alone in
      let last : at_before b.ats (length b.ats) ≡ b.run.calls =
      ap (λ (ats : List ℕ). at_before ats (length ats)) more ∙ last_of b.run.calls n a.ats in
      let longer : length b.ats ≡ length a.ats + suc n = ap length more ∙ count_of b.run.calls (suc n) a.ats in
      record {
        alone = alone;
        close = subst (AreClose (most_calls j c)) (sym more)
            (close_more (most_calls j c) b.run.calls (suc n) a.ats is.close got.calls_in);
        jobs_before = b.run.jobs;
        commits_before = b.run.commits;
        few = omega (arith, got.commits_in, is.few, longer);
        few_at_end = λ none. omega (arith, got.commits_in, is.few, longer);
        in_time = record {
          calls_in = omega (arith, t.calls_in, last);
          jobs_in = t.jobs_in;
          commits_in = t.commits_in;
        };
      }

  pub close_halt : HaltsAt a b → AreClose (most_calls j c) b.ats
  close_halt (silent same) = subst (AreClose (most_calls j c)) (sym same) is.close
  close_halt (faults at n near more) = subst (AreClose (most_calls j c)) (sym more)
      (close_more (most_calls j c) at (suc n) a.ats is.close
      (omega (arith, near, one_to_come first j c a.run b.run is.alone, is.in_time.calls_in)))

pub counted_on : (j opening pieces : ℕ) (a b : Pace) → IsAccounted opening pieces a → PacesOn j a b
    → IsAccounted opening pieces b
counted_on j opening pieces a b is (steps s same more left counts) = record {
  all = let e : length b.ats ≡ length a.ats = ap length same in omega (arith, is.all, e, left);
  generation = omega (arith, is.generation, counts);
}
counted_on j opening pieces a b is (flies s same more left counts) = record {
  all = let e : length b.ats ≡ length a.ats = ap length same in omega (arith, is.all, e, left);
  generation = omega (arith, is.generation, counts);
}
counted_on j opening pieces a b is (enters s n more left counts) = record {
  all = (
      let e : length b.ats ≡ length a.ats + suc n = ap length more ∙ count_of b.run.calls (suc n) a.ats in
      omega (arith, is.all, e, left)
      );
  generation = omega (arith, is.generation, counts);
}

-- a commit that is due is among those that are to come
one_commit : (first j c : ℕ) (r : LoneRun) → IsAlone first j c r → r.is_ready ≡ false → r.commit ≡ 0
    → IsCommitNeeded r → 1 ≤ commits_to_come r
one_commit first j c r is off idle due = elim (cases_option r.job) [
  | inl none ↦ by due (cases_Bool r.flush_waits) none
  | inr (w, e) ↦ absurd (beside w (is.beside w e) due)
]
  where
    beside : (w : JobAhead) → IsBeside w r → IsCommitNeeded r → ⊥
    beside w b (flush waits) = true≢false (sym waits ∙ b.no_flush)
    beside w b (zone wanted some) = omega (arith, some, b.no_limbo)

    waiting : r.flush_waits ≡ true → 1 ≤ commits_to_come r
    waiting waits = let e : commits_to_come r ≡ 1 = rw (off, waits, idle) refl in omega (arith, e)

    by : IsCommitNeeded r → (r.flush_waits ≡ true) ⊎ (r.flush_waits ≡ false) → r.job ≡ None
        → 1 ≤ commits_to_come r
    by (flush waits) cases none = waiting waits
    by (zone wanted some) (inl waits) none = waiting waits
    by (zone wanted some) (inr no_flush) none =
        let e : commits_to_come r ≡ commits_ahead false false None r.commit r.stock = rw (off, no_flush, none) refl in
        omega (arith, e, now_one r.commit r.stock idle some)

-- with room for three commits a piece none meets the last generation
pub never_last : (first j c opening pieces : ℕ) (a : Pace) → IsPaced first j c a → IsAccounted opening pieces a
    → opening + 3 * pieces + 2 ≤ 2 ^ 64 - 1 → IsAtLast a → ⊥
never_last first j c opening pieces a is counted room at =
    let one = one_commit first j c a.run is.alone at.not_ready at.idle at.due in
    omega (
      arith,
      one,
      is.in_time.commits_in,
      is.few,
      counted.all,
      counted.generation,
      at.left,
      at.last,
      room,
    )

-- and closing has room for one more
pub may_close : (first j c opening pieces : ℕ) (a : Pace) → IsPaced first j c a → IsAccounted opening pieces a
    → a.left ≡ 0 → a.generation + commits_under_way a.run ≤ opening + 3 * pieces
may_close first j c opening pieces a is counted over =
    omega (arith, is.few_at_end over, counted.all, counted.generation, over)
