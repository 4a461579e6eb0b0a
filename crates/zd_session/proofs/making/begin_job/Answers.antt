use Rattle.zd_session.proofs.JobMoves.{begin_moved, some_picked}
use Rattle.zd_session.proofs.making.begin_job.Goals as goal

pub unreachable-requires : goal.unreachable-requires
unreachable-requires g c =
    some_picked c.args.volume.now.plain c.known.ensures.volume.fixed c.requires.picks c.pick.result c.pick.ensures
    c.in-None.is

pub returns-clause-moved : goal.returns-clause-moved
returns-clause-moved g c =
    begin_moved g.D.ZonedDisk.view c.args.volume.now c.take_zone.new.self c.args.progress.now c.requires.going
    c.requires.running c.known.ensures.volume c.take_zone.ensures.same c.in-Some.job
    c.in-Some.ensures c.take_zone.result c.take_zone.ensures.still c.take_zone.ensures.reset
    c.take_zone.ensures.err
