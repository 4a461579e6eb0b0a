use Rattle.bench_tools.proofs.PlanLaws.{HasRequests}
use Rattle.bench_callers.proofs.plan_of.Given as goal

abbrev pub invariant-loop-number : goal.invariant-loop-number
invariant-loop-number l = HasRequests l.number l.plan
