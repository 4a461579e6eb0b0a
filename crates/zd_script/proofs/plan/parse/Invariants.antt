use Rattle.std.proofs.Common.{◌≡◌, length}
use Rattle.zd_script.proofs.PlanLaws.{IsPlanSoFar}
use Rattle.zd_script.proofs.plan.parse.Given as goal

abbrev pub invariant-loop-rest : goal.invariant-loop-rest
invariant-loop-rest l = record {
  so_far : IsPlanSoFar l.bytes l.plan l.rest l.limits;
  lines : l.line ≡ length l.plan;
}

abbrev pub decreases-loop-rest : goal.decreases-loop-rest
decreases-loop-rest l = length l.rest
