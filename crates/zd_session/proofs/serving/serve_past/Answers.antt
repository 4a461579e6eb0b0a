use Rattle.zd_session.proofs.ServeLaws.{fits, past_ends, past_moved, past_serves}
use Rattle.zd_session.proofs.serving.serve_past.Goals as goal

pub enter-requires-clause-range : goal.enter-requires-clause-range
enter-requires-clause-range g c =
    past_ends g.D.ZonedDisk.view c.args.volume.now c.args.volume.now c.args.progress.now c.args.actor c.args.piece.now
    c.requires.moves c.requires.range

pub enter-requires-clause-spare : goal.enter-requires-clause-spare
enter-requires-clause-spare g c =
    fits g.D.ZonedDisk.view c.args.volume.now c.args.volume.now c.args.progress.now c.args.actor c.args.piece.now
    c.requires.moves c.known.ensures.queue

pub returns-clause-moved : goal.returns-clause-moved
returns-clause-moved g c =
    past_moved g.D.ZonedDisk.view c.args.volume.now c.enter.new.self c.args.progress.now c.args.actor c.args.piece.now
    c.requires.moves c.enter-2.new.self c.enter-2.ensures c.known.ensures.volume c.known.ensures.queue c.enter.ensures.same
    c.enter.ensures.disk c.requires.range c.enter.ensures.entry

pub returns-clause-serves : goal.returns-clause-serves
returns-clause-serves g c =
    past_serves g.D.ZonedDisk.view c.args.volume.now c.enter.new.self c.args.progress.now c.args.actor c.args.piece.now
    c.requires.moves c.enter-2.new.self c.enter-2.ensures c.requires.range c.enter.ensures.entry c.enter.ensures.disk
