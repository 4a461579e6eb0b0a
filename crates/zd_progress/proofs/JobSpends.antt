-- A job begins, and copies: no more is to come than before.
use Rattle.std.proofs.Common.{◌≡◌, inl, inr, ℕ, ◌+◌, ◌*◌, ◌<◌, ◌≤◌, Bool, false, cond, ◌&&◌, nat_lt, set, Some, None}
use Rattle.std.proofs.Common.{subst}
use Rattle.std.proofs.Common.{refl, sym, ap, ◌∙◌, arith}
use Rattle.std.proofs.Math.Nat.{mul-le-mul_left}
use Rattle.std.proofs.lemmas.Bool.{cases_Bool, lt-ltb, le-ltb, ltb-true, and_parts}
use Rattle.zd_base.specs.declared.geometry.Kind.TheVariants.{Conventional, Sequential}
use Rattle.zd_progress.specs.LoneRuns.{IsAlone, IsBeside, JobAhead, LoneRun, calls_to_come, commits_now, jobs_behind}
use Rattle.zd_progress.specs.LoneRuns.{jobs_needed}
use Rattle.zd_progress.specs.LoneSteps.{CopiesOne, SpendsNoMore, StartsJob}
use Rattle.zd_progress.specs.Stocks.{Stock, free_of, in_limbo, limbo_of, on_count}
use Rattle.zd_progress.proofs.Bounds.{few_behind, times_more}
use Rattle.zd_progress.proofs.CommitSpends.{is_now, now_none}
use Rattle.zd_progress.proofs.OnConventional.{gives_low, is_on, leaves_on}

module _ (first j c : ℕ) (a b : LoneRun) (is : IsAlone first j c a) (step : StartsJob j a b) where
  abbrev s : Stock
  s = a.stock

  none_free : free_of Conventional s ≡ 0
  none_free = is.waiting.none_free (is.waiting.some step.not_ready step.no_commit step.no_flush)

  none_in_limbo : limbo_of Conventional s ≡ 0
  none_in_limbo = let l = step.no_limbo in omega (arith, l)

  abbrev some_on : Bool
  some_on = nat_lt 0 (on_count s.division.conv s.entries)

  abbrev some_high : Bool
  some_high = nat_lt 0 (free_of Sequential s + limbo_of Sequential s)

  -- one or two jobs are needed
  needed : jobs_needed s ≡ cond (some_on && some_high) 1 2
  needed = rw (
      le-ltb 0 (free_of Conventional s + limbo_of Conventional s) (omega (arith, none_free, none_in_limbo))
      ) refl

  -- where it is one, this one gives a conventional zone back
  one_less : jobs_behind s.division.conv step.job + 1 ≤ jobs_needed s
  one_less = elim (cases_Bool (some_on && some_high)) [
    | inl ok ↦
        let both = and_parts some_on some_high ok in
        let l = step.no_limbo in
        let some : 0 < free_of Sequential s =
        omega (arith, l, ltb-true 0 (free_of Sequential s + limbo_of Sequential s) both.1) in
        let on = is_on s.division.conv s.entries (ltb-true 0 (on_count s.division.conv s.entries) both.0) in
        let low = gives_low s step.job.chunk step.job.source step.job.result step.picked on some in
        let none : jobs_behind s.division.conv step.job ≡ 0 =
        rw (lt-ltb step.job.source s.division.conv low) refl in
        let n : jobs_needed s ≡ 1 = needed ∙ rw ok refl in
        omega (arith, n, none)
    | inr ng ↦
        let n : jobs_needed s ≡ 2 = needed ∙ rw ng refl in
        omega (arith, n, few_behind s.division.conv step.job)
  ]

  pub begin_spends : SpendsNoMore j c a b
  begin_spends =
      let before = is_now j c a false false None step.not_ready step.no_flush step.no_job in
      let now = is_now j c b false false (Some step.job) step.same_ready step.same_flush step.is in
      let none_now = now_none a.commit s step.no_limbo in
      let same : jobs_behind b.stock.division.conv step.job ≡ jobs_behind s.division.conv step.job =
      ap (λ (n : ℕ). jobs_behind n step.job) step.conv in
      let jobs = mul-le-mul_left j one_less in
      let commits = mul-le-mul_left c one_less in
      let rest : jobs_needed s + commits_now a.commit s ≡ jobs_needed s = omega (arith, none_now) in
      let here : calls_to_come j c a ≡ a.commit + 0 + j * jobs_needed s + c * jobs_needed s + 1 =
      before.calls ∙ ap (λ (n : ℕ). a.commit + 0 + j * jobs_needed s + c * n + 1) rest in
      let there : calls_to_come j c b
      ≡ b.commit + step.job.calls + j * jobs_behind s.division.conv step.job
      + c * (jobs_behind s.division.conv step.job + 1) + 1 =
      now.calls ∙ ap (λ (n : ℕ). b.commit + step.job.calls + j * n + c * (n + 1) + 1) same in
      record {
        jobs = omega (arith, before.jobs, now.jobs, step.jobs, one_less, same);
        commits = omega (arith, before.commits, now.commits, step.commits, one_less, same, none_now);
        calls = omega (
          arith,
          here,
          there,
          step.no_commit,
          step.same_commit,
          step.calls,
          jobs,
          commits,
          times_more j (jobs_behind s.division.conv step.job),
        );
      }

  -- and nothing else can be done beside it
  pub begin_beside : (w : JobAhead) → b.job ≡ Some w → IsBeside w b
  begin_beside w e =
      let same : step.job ≡ w = (let f : Some step.job ≡ Some w = sym step.is ∙ e in cc) in
      let leaves = leaves_on first s (is.stocked step.no_job) none_free none_in_limbo step.job.chunk
      step.job.source step.job.result step.inside step.picked in
      subst (λ (x : JobAhead). IsBeside x b) same (record {
        not_ready = step.same_ready;
        no_flush = step.same_flush;
        no_commit = step.same_commit;
        no_free = step.same_free ∙ none_free;
        no_limbo = step.same_limbo ∙ step.no_limbo;
        on = λ high. rw (step.conv, step.entries) (leaves (rw step.conv at high));
      })

module _ (first j c : ℕ) (a b : LoneRun) (is : IsAlone first j c a) (step : CopiesOne a b) where
  pub copy_spends : SpendsNoMore j c a b
  copy_spends =
      let beside = is.beside step.job step.was in
      let before = is_now j c a false false (Some step.job) beside.not_ready beside.no_flush step.was in
      let now = is_now j c b false false (Some (record step.job { calls = step.left }))
      (step.same_ready ∙ beside.not_ready) (step.same_flush ∙ beside.no_flush) step.is in
      let same : jobs_behind b.stock.division.conv step.job ≡ jobs_behind a.stock.division.conv step.job =
      ap (λ (s : Stock). jobs_behind s.division.conv step.job) step.stock in
      let there : calls_to_come j c b
      ≡ b.commit + step.left + j * jobs_behind a.stock.division.conv step.job
      + c * (jobs_behind a.stock.division.conv step.job + 1) + 1 =
      now.calls ∙ ap (λ (n : ℕ). b.commit + step.left + j * n + c * (n + 1) + 1) same in
      record {
        jobs = omega (arith, before.jobs, now.jobs, step.jobs, same);
        commits = omega (arith, before.commits, now.commits, step.commits, same);
        calls = omega (arith, before.calls, there, step.same_commit, step.calls);
      }

  pub copy_beside : (w : JobAhead) → b.job ≡ Some w → IsBeside w b
  copy_beside w e =
      let beside = is.beside step.job step.was in
      let same : record step.job { calls = step.left } ≡ w = (
      let f : Some (record step.job { calls = step.left }) ≡ Some w = sym step.is ∙ e in cc
      ) in
      subst (λ (x : JobAhead). IsBeside x b) same (record {
        not_ready = step.same_ready ∙ beside.not_ready;
        no_flush = step.same_flush ∙ beside.no_flush;
        no_commit = step.same_commit ∙ beside.no_commit;
        no_free = ap (free_of Conventional) step.stock ∙ beside.no_free;
        no_limbo = ap in_limbo step.stock ∙ beside.no_limbo;
        on = subst (λ (s : Stock). s.division.conv ≤ step.job.source
            → 0 < on_count s.division.conv (set s.entries step.job.chunk step.job.result)) (sym step.stock) beside.on;
      })
