use Rattle.bench_tools.proofs.PlanLaws.{HasRequests}
use Rattle.bench_tools.proofs.runs.plan_of.Given as goal

abbrev pub invariant-loop-i : goal.invariant-loop-i
invariant-loop-i l = HasRequests l.i l.plan
