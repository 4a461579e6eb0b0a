use Rattle.std.proofs.Common.{◌≡◌, length}
use Rattle.bench_callers.proofs.make_steps.Given as goal

abbrev pub invariant-loop-number : goal.invariant-loop-number
invariant-loop-number g l = length l.session.flights ≡ 64
