use Rattle.std.proofs.Common.{Some, sym}
use Rattle.zd_base.specs.declared.steps.StepKind.TheVariants.{Remap}
use Rattle.zd_session.proofs.JobMoves.{work_moved, work_serves}
use Rattle.zd_session.proofs.StandingLaws.{job_next}
use Rattle.zd_session.proofs.making.work.Goals as goal

pub step-requires-clause-idle : goal.step-requires-clause-idle
step-requires-clause-idle g c ends =
    c.requires.idle (sym (job_next c.args.volume.now.plain (Some Remap) ends))

pub returns-clause-moved : goal.returns-clause-moved
returns-clause-moved g c =
    work_moved g.D.ZonedDisk.view c.args.volume.now c.step.new.v c.args.progress.now c.requires.going c.requires.running
    c.known.ensures.volume c.step.ensures.same c.step.result c.step.ensures.step c.step.ensures.disk

pub returns-clause-serves : goal.returns-clause-serves
returns-clause-serves g c =
    work_serves g.D.ZonedDisk.view c.args.volume.now c.step.new.v c.args.progress.now c.requires.going c.requires.running
    c.known.ensures.volume c.step.ensures.same c.step.result c.step.ensures.step c.step.ensures.disk
