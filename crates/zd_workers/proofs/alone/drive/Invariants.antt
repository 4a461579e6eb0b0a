use Rattle.std.proofs.Common.{◌≡◌, ◌<◌}
use Rattle.zd_workers.proofs.alone.drive.Given as goal

abbrev pub invariant-loop : goal.invariant-loop
invariant-loop g l = (g.T.Stepper.constant l.stepper ≡ g.T.Stepper.constant l.fn.stepper) × (l.actor < l.actors)
