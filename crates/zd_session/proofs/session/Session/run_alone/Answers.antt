use Rattle.zd_session.proofs.LoneLaws.{is_last, lone_begins, lone_ends, lone_goes, lone_lessens}
use Rattle.zd_session.proofs.session.Session.run_alone.Goals as goal

pub loop-self-init : goal.loop-self-init
loop-self-init g c = lone_begins g.D.ZonedDisk.view c.args.self.now c.requires c.stands.ensures

pub step-requires : goal.step-requires
step-requires g c = c.loop-self.invariant.some

pub loop-self-smaller : goal.loop-self-smaller
loop-self-smaller g c =
    lone_lessens g.D.ZonedDisk.view c.args.self.now c.loop-self.self c.step.new.self c.loop-self.invariant _
    c.stands-in-Did.ensures c.in-Did.ensures

pub loop-self-preserved : goal.loop-self-preserved
loop-self-preserved g c =
    lone_goes g.D.ZonedDisk.view c.args.self.now c.loop-self.self c.step.new.self c.loop-self.invariant _
    c.stands-in-Did.ensures c.in-Did.ensures

pub returns-in-Idle : goal.returns-in-Idle
returns-in-Idle g c =
    lone_ends g.D.ZonedDisk.view c.args.self.now c.loop-self.self c.step.new.self c.loop-self.invariant c.step.result
    (is_last c.step.result c.in-Idle.is) c.step.ensures
