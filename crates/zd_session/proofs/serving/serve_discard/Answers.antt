use Rattle.zd_session.proofs.ServeLaws.{discard_can, discard_moved, discard_serves, fits}
use Rattle.zd_session.proofs.serving.serve_discard.Goals as goal

pub discard-requires-clause-piece : goal.discard-requires-clause-piece
discard-requires-clause-piece g c =
    discard_can g.D.ZonedDisk.view c.args.volume.now c.args.volume.now c.args.progress.now c.args.actor c.args.piece.now
    c.requires.moves c.requires.range c.requires.discards

pub discard-requires-clause-spare : goal.discard-requires-clause-spare
discard-requires-clause-spare g c =
    fits g.D.ZonedDisk.view c.args.volume.now c.args.volume.now c.args.progress.now c.args.actor c.args.piece.now
    c.requires.moves c.known.ensures.queue

pub returns-clause-moved : goal.returns-clause-moved
returns-clause-moved g c =
    discard_moved g.D.ZonedDisk.view c.args.volume.now c.discard.new.v c.args.progress.now c.args.actor c.args.piece.now
    c.requires.moves c.enter.new.self c.enter.ensures c.known.ensures.volume c.known.ensures.queue
    c.discard.ensures.same c.discard.ensures.disk c.requires.range c.requires.discards c.discard.ensures.discards

pub returns-clause-serves : goal.returns-clause-serves
returns-clause-serves g c =
    discard_serves g.D.ZonedDisk.view c.args.volume.now c.discard.new.v c.args.progress.now c.args.actor
    c.args.piece.now c.requires.moves c.enter.new.self c.enter.ensures c.requires.discards c.discard.ensures.discards
    c.discard.ensures.disk
