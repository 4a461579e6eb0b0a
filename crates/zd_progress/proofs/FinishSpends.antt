-- A job ends: no more is to come than before, since what it gave back is free or in limbo.
use Rattle.std.proofs.Common.{◌≡◌, inl, inr, ℕ, ◌+◌, ◌*◌, ◌<◌, ◌≤◌, Bool, true, false, cond, ◌&&◌, nat_lt, length, Some}
use Rattle.std.proofs.Common.{None}
use Rattle.std.proofs.Common.{subst, refl, sym, ap, ◌∙◌, arith, get_or-set_same, length-set}
use Rattle.std.proofs.Math.Nat.{mul-le-mul_left}
use Rattle.std.proofs.lemmas.Bool.{cases_lt, lt-ltb, le-ltb}
use Rattle.zd_base.specs.declared.geometry.Kind.{Kind}
use Rattle.zd_base.specs.declared.geometry.Kind.TheVariants.{Conventional, Sequential}
use Rattle.zd_alloc.specs.Zones.{use_at, use_after_release, IsOf}
use Rattle.zd_alloc.specs.declared.uses.ZoneUse.TheVariants.{Meta}
use Rattle.zd_progress.specs.LoneRuns.{IsAlone, LoneRun, calls_ahead, commits_ahead, commits_now, jobs_behind}
use Rattle.zd_progress.specs.LoneRuns.{jobs_ahead}
use Rattle.zd_progress.specs.LoneRuns.{jobs_needed}
use Rattle.zd_progress.specs.LoneSteps.{FinishesJob, SpendsNoMore}
use Rattle.zd_progress.specs.Stocks.{Stock, free_of, limbo_of, on_count}
use Rattle.zd_progress.proofs.Bounds.{few_now}
use Rattle.zd_progress.proofs.Counts.{release_counts}
use Rattle.zd_progress.proofs.CommitSpends.{is_now}

if_true : (b : Bool) (n : ℕ) → b ≡ true → cond b 0 n ≤ 0
if_true true n e = omega arith
if_true false n e = absurd (let f : ⊥ = cc in f)

if_most : (b : Bool) (m n : ℕ) → n ≤ m → cond b 0 n ≤ m
if_most true m n e = omega arith
if_most false m n e = e

if_both : (b c : Bool) → b ≡ true → c ≡ true → cond (b && c) 1 2 ≤ 1
if_both true true e f = omega arith
if_both true false e f = absurd (let g : ⊥ = cc in g)
if_both false c e f = absurd (let g : ⊥ = cc in g)

module _ (first j c : ℕ) (a b : LoneRun) (is : IsAlone first j c a) (step : FinishesJob a b) where
  abbrev old : Stock
  old = a.stock

  abbrev new : Stock
  new = b.stock

  same_count : length new.division.zones ≡ length old.division.zones
  same_count = ap length step.zones
      ∙ length-set old.division.zones step.job.source (use_after_release step.by_commit)

  -- the zone that is given back counts
  given : (kind : Kind) → IsOf kind old.division.conv step.job.source → 0 < free_of kind new + limbo_of kind new
  given kind of = release_counts kind new.division step.job.source step.by_commit
      (omega (arith, step.conv, step.kinds, same_count))
      (omega (arith, step.inside, same_count))
      (subst (λ (n : ℕ). IsOf kind n step.job.source) (sym step.conv) of)
      (ap (λ us. use_at us step.job.source) step.zones
      ∙ get_or-set_same old.division.zones step.job.source (use_after_release step.by_commit) Meta step.inside)

  -- no more jobs than were still needed behind this one
  no_more : jobs_needed new ≤ jobs_behind old.division.conv step.job
  no_more = elim (cases_lt step.job.source old.division.conv) [
    | inl low ↦
        let none : jobs_needed new ≤ 0 = if_true
        (nat_lt 0 (free_of Conventional new + limbo_of Conventional new))
        _
        (lt-ltb 0 (free_of Conventional new + limbo_of Conventional new) (given Conventional low)) in
        omega (arith, none)
    | inr high ↦
        let one : jobs_behind old.division.conv step.job ≡ 1 =
        rw (le-ltb step.job.source old.division.conv high) refl in
        let on : 0 < on_count new.division.conv new.entries =
        rw (step.conv, step.entries) ((is.beside step.job step.was).on high) in
        let most : jobs_needed new ≤ 1 = if_most
        (nat_lt 0 (free_of Conventional new + limbo_of Conventional new)) 1
        _
        (if_both
        (nat_lt 0 (on_count new.division.conv new.entries))
        (nat_lt 0 (free_of Sequential new + limbo_of Sequential new))
        (lt-ltb 0 (on_count new.division.conv new.entries) on)
        (lt-ltb 0 (free_of Sequential new + limbo_of Sequential new) (given Sequential high))) in
        omega (arith, one, most)
  ]

  abbrev behind : ℕ
  behind = jobs_behind old.division.conv step.job

  -- by what is ready then
  record IsSpent (ready : Bool) : Type 0 where
    jobs : jobs_ahead ready false None new ≤ behind
    commits : commits_ahead ready false None b.commit new ≤ behind + 1
    calls : calls_ahead j c ready false None b.commit new
        ≤ a.commit + step.job.calls + j * behind + c * (behind + 1) + 1

  spent : (ready : Bool) → IsSpent ready
  spent true = record { jobs = omega arith; commits = omega arith; calls = omega arith }
  spent false =
      let now = few_now b.commit new in
      let commits : jobs_needed new + commits_now b.commit new ≤ behind + 1 = omega (arith, no_more, now) in
      record {
        jobs = no_more;
        commits = commits;
        calls = omega (arith, step.same_commit, mul-le-mul_left j no_more, mul-le-mul_left c commits);
      }

  pub finish_spends : SpendsNoMore j c a b
  finish_spends =
      let beside = is.beside step.job step.was in
      let before = is_now j c a false false (Some step.job) beside.not_ready beside.no_flush step.was in
      let now = is_now j c b b.is_ready false None refl (step.same_flush ∙ beside.no_flush) step.is in
      let all = spent b.is_ready in
      record {
        jobs = omega (arith, before.jobs, now.jobs, step.jobs, all.jobs);
        commits = omega (arith, before.commits, now.commits, step.commits, all.commits);
        calls = omega (arith, before.calls, now.calls, step.calls, all.calls);
      }
