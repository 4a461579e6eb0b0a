use Rattle.zd_replay.proofs.TurnLaws.{step_says}
use Rattle.zd_replay.proofs.caused.CausedStepper.step.Goals as goal

-- a step says why it stopped the volume
pub invariant_of-self : goal.invariant_of-self
invariant_of-self g c =
    record {
      caused = step_says g.D.ZonedDisk.view c.args.self.now.session c.step.new.self c.args.actor c.args.prefer
          c.step.result c.step.ensures.step c.args.self.now.caused;
    }
