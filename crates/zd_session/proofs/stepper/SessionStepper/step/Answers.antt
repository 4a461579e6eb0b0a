use Rattle.zd_session.proofs.WaitsLaws.{last_ends, no_idle}
use Rattle.zd_session.proofs.stepper.SessionStepper.step.Goals as goal

pub returns-clause-ended : goal.returns-clause-ended
returns-clause-ended g c =
    last_ends g.D.ZonedDisk.view c.args.self.now c.step.new.self c.args.actor c.args.prefer c.step.result c.step.ensures

pub returns-clause-idle : goal.returns-clause-idle
returns-clause-idle g c =
    no_idle g.D.ZonedDisk.view c.args.self.now c.step.new.self c.args.actor c.args.prefer c.step.result c.step.ensures
    c.waits.ensures
