-- The loop of a run: its measure, what is true before each step, and what is promised of its end.
use Rattle.std.proofs.Common.{◌≡◌, ℕ, zero, suc, ◌+◌, ◌<◌, ◌≤◌, true, Option, Some, None, subst, refl, sym, ap, ap₂}
use Rattle.std.proofs.Common.{◌∙◌, arith}
use Rattle.zd_base.specs.declared.numbers.Why.{Why}
use Rattle.zd_base.specs.declared.numbers.Why.TheVariants.{Generation}
use Rattle.zd_base.specs.declared.steps.Stepped.{Stepped}
use Rattle.zd_base.specs.declared.steps.Stepped.TheVariants.{Did, Idle, Over, Stopped}
use Rattle.zd_progress.specs.LoneRuns.{most_calls}
use Rattle.zd_progress.specs.Measures.{measure}
use Rattle.zd_progress.specs.Paces.{AreClose, HaltsAt, IsAloneNow, IsAtLast, IsFreshLoop, IsLastAnswer, IsMadeStep}
use Rattle.zd_progress.specs.Paces.{IsPacedLoop, IsPromised, IsWholeRun, KeepsLimits, LoopAnswers, LoopState}
use Rattle.zd_progress.specs.Paces.{MakesSteps}
use Rattle.zd_progress.proofs.MeasureLaws.{lessens}
use Rattle.zd_progress.proofs.PaceLaws.{close_halt, counted_on, may_close, never_last, paced_begin, paced_on}

pub same_limits : (s : LoopState) → KeepsLimits s s
same_limits s = record {
  most = refl;
  first = refl;
  job_calls = refl;
  commit_calls = refl;
  opening = refl;
  pieces = refl;
  others = refl;
}

pub later_limits : (a b c : LoopState) → KeepsLimits a b → KeepsLimits b c → KeepsLimits a c
later_limits a b c s t = record {
  most = t.most ∙ s.most;
  first = t.first ∙ s.first;
  job_calls = t.job_calls ∙ s.job_calls;
  commit_calls = t.commit_calls ∙ s.commit_calls;
  opening = t.opening ∙ s.opening;
  pieces = t.pieces ∙ s.pieces;
  others = t.others ∙ s.others;
}

pub less : (a b : LoopState) → IsMadeStep a b → measure b.most b.rest < measure a.most a.rest
less a b is = rw is.limits.most (lessens a.most a.rest b.rest is.within is.lessens)

pub paced_start : (s : LoopState) → IsFreshLoop s → IsPacedLoop s
paced_start s fresh = record {
  is = paced_begin s.first s.job_calls s.commit_calls s.pace fresh.some fresh.is;
  some = fresh.some;
  counted = fresh.counted;
  going = fresh.going;
  nobody = fresh.nobody;
}

pub made_paced : (a b : LoopState) → IsMadeStep a b → IsPacedLoop a → IsPacedLoop b
made_paced a b is paced =
    let alone : IsAloneNow a = record { nobody = paced.nobody; is = paced.is.alone } in
    record {
      is = rw (is.limits.first, is.limits.job_calls, is.limits.commit_calls)
          (paced_on a.first a.job_calls a.commit_calls a.pace b.pace paced.some paced.is (is.sound alone)
          (is.paces alone));
      some = rw is.limits.commit_calls paced.some;
      counted = rw (is.limits.opening, is.limits.pieces)
          (counted_on a.job_calls a.opening a.pieces a.pace b.pace paced.counted (is.paces alone));
      going = is.going;
      nobody = is.limits.others ∙ paced.nobody;
    }

-- the end b of a run that began as s, seen from a, before its last step
module _ (s a : LoopState) (limits : KeepsLimits s a) (paced : IsPacedLoop a) where
  same_most : most_calls a.job_calls a.commit_calls ≡ most_calls s.job_calls s.commit_calls
  same_most = ap₂ most_calls limits.job_calls limits.commit_calls

  not_some : (o : Option Why) → o ≡ None → o ≡ Some Generation → ⊥
  not_some o none some = cc

  over : a.has_ended ≡ true → a.pace.left ≡ 0 → IsPromised s a
  over ended none = record {
    ended = ended;
    close = subst (λ (n : ℕ). AreClose n a.pace.ats) same_most paced.is.close;
    room = λ enough. not_some a.stopped paced.going;
    closing = λ going. omega (
      arith,
      limits.opening,
      limits.pieces,
      may_close a.first a.job_calls a.commit_calls a.opening a.pieces a.pace paced.is paced.counted none,
    );
  }

  stopped : (b : LoopState) (why : Why) → HaltsAt a.pace b.pace → b.has_ended ≡ true → b.stopped ≡ Some why
      → (a.stopped ≡ None → why ≡ Generation → IsAtLast a.pace) → IsPromised s b
  stopped b why halt ended is last = record {
    ended = ended;
    close = subst (λ (n : ℕ). AreClose n b.pace.ats) same_most
        (close_halt a.first a.job_calls a.commit_calls a.pace b.pace paced.some paced.is halt);
    room = λ enough e. (
        let same : why ≡ Generation = (let f : Some why ≡ Some Generation = sym is ∙ e in cc) in
        never_last a.first a.job_calls a.commit_calls a.opening a.pieces a.pace paced.is paced.counted
        (omega (arith, enough, limits.opening, limits.pieces)) (last paced.going same));
    closing = λ going. absurd (let f : Some why ≡ None = sym is ∙ going in let g : ⊥ = cc in g);
  }

  pub promised : (answer : Stepped) (b : LoopState) → IsLastAnswer answer → LoopAnswers answer a b → IsPromised s b
  promised (Did kind) b last is = absurd last
  promised Idle b last is = absurd (is.1 (record { nobody = paced.nobody; is = paced.is.alone }))
  promised Over b last is = subst (IsPromised s) (sym is.0)
      (over (ap (λ (x : LoopState). x.has_ended) (sym is.0) ∙ is.1) is.2)
  promised (Stopped why) b last is = stopped b why is.0 is.2 is.3 is.4

-- so many steps
pub some_steps : (n : ℕ) (a b : LoopState) → MakesSteps n a b → n + measure b.most b.rest ≤ measure a.most a.rest
some_steps zero a b same =
    let e : measure b.most b.rest ≡ measure a.most a.rest = ap (λ (x : LoopState). measure x.most x.rest) same in
    omega (arith, e)
some_steps (suc n) a b is = omega (arith, less a is.0 is.1, some_steps n is.0 b is.2)

pub steps_limits : (n : ℕ) (a b : LoopState) → MakesSteps n a b → KeepsLimits a b
steps_limits zero a b same = subst (KeepsLimits a) (sym same) (same_limits a)
steps_limits (suc n) a b is = later_limits a is.0 b is.1.limits (steps_limits n is.0 b is.2)

steps_paced : (n : ℕ) (a b : LoopState) → MakesSteps n a b → IsPacedLoop a → IsPacedLoop b
steps_paced zero a b same paced = subst IsPacedLoop (sym same) paced
steps_paced (suc n) a b is paced = steps_paced n is.0 b is.2 (made_paced a is.0 is.1 paced)

-- a whole run
pub whole_run : (s b : LoopState) → IsFreshLoop s → IsWholeRun s b → IsPromised s b
whole_run s b fresh run = promised s run.before (steps_limits run.count s run.before run.steps)
    (steps_paced run.count s run.before run.steps (paced_start s fresh)) run.answer b run.is_last run.ends
