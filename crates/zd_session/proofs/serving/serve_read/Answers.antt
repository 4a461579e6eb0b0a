use Rattle.std.proofs.Common.{Some, refl}
use Rattle.std.specs.Vec.{with_item}
use Rattle.zd_steps.specs.Queues.{head_of}
use Rattle.zd_session.proofs.ServeLaws.{fits}
use Rattle.zd_session.proofs.ServeReadLaws.{done_moved, done_serves, more_moved, more_serves, reply_space, taken_flight}
use Rattle.zd_session.proofs.serving.serve_read.Goals as goal

pub take_read-flight-requires-clause-known : goal.take_read-flight-requires-clause-known
take_read-flight-requires-clause-known g c =
    c.known.ensures.queue.script.callers (head_of c.args.progress.now.queue.callers c.args.piece.now.caller)
    c.args.piece.now c.requires.moves.serve.first

pub take_read-flight-requires-clause-space : goal.take_read-flight-requires-clause-space
take_read-flight-requires-clause-space g c =
    reply_space g.D.ZonedDisk.view c.args.volume.now c.args.progress.now c.args.actor c.args.piece.now c.requires.moves
    c.requires.range c.requires.reads

pub step-requires-clause-flight : goal.step-requires-clause-flight
step-requires-clause-flight g c =
    taken_flight g.D.ZonedDisk.view c.args.volume.now c.args.progress.now c.args.actor c.args.piece.now c.requires.moves
    c.requires.range c.requires.reads c.known.ensures.volume c.take_read-flight.new.self c.take_read-flight.result
    c.take_read-flight.ensures

pub step-requires-clause-spare : goal.step-requires-clause-spare
step-requires-clause-spare g c =
    fits g.D.ZonedDisk.view c.args.volume.now c.args.volume.now c.args.progress.now c.args.actor c.args.piece.now
    c.requires.moves c.known.ensures.queue

pub returns-in-More-clause-moved : goal.returns-in-More-clause-moved
returns-in-More-clause-moved g c =
    more_moved g.D.ZonedDisk.view c.args.volume.now c.args.progress.now c.args.actor c.args.piece.now c.requires.moves
    c.requires.range c.requires.reads c.known.ensures.volume c.take_read-flight.new.self c.take_read-flight.result
    c.take_read-flight.ensures c.step.new.v c.step.new.flight c.in-More.ensures.step c.index_mut.result.now
    c.index_mut.ensures.value _ c.fly.ensures refl c.in-More.ensures.reads c.in-More.ensures.same c.known.ensures.queue
    refl

pub returns-in-More-clause-serves : goal.returns-in-More-clause-serves
returns-in-More-clause-serves g c =
    more_serves g.D.ZonedDisk.view c.args.volume.now c.args.progress.now c.args.actor c.args.piece.now c.requires.moves
    c.requires.range c.requires.reads c.known.ensures.volume c.take_read-flight.new.self c.take_read-flight.result
    c.take_read-flight.ensures c.step.new.v c.step.new.flight c.in-More.ensures.step c.index_mut.result.now
    c.index_mut.ensures.value
    (record {
      queue = c.fly.new.self;
      actors = with_item c.take_read-flight.new.self.actors c.args.actor
          (record { read = Some c.step.new.flight; edges = c.index_mut.result.now.edges });
      replies = c.take_read-flight.new.self.replies;
    }) c.fly.ensures refl

pub returns-in-Entered-clause-moved : goal.returns-in-Entered-clause-moved
returns-in-Entered-clause-moved g c =
    done_moved g.D.ZonedDisk.view c.args.volume.now c.args.progress.now c.args.actor c.args.piece.now c.requires.moves
    c.requires.range c.requires.reads c.known.ensures.volume c.take_read-flight.new.self c.take_read-flight.result
    c.take_read-flight.ensures c.step.new.v c.step.new.flight c.in-Entered.ensures.step _ c.enter.ensures refl
    c.in-Entered.ensures.reads c.in-Entered.ensures.same c.known.ensures.queue refl

pub returns-in-Entered-clause-serves : goal.returns-in-Entered-clause-serves
returns-in-Entered-clause-serves g c =
    done_serves g.D.ZonedDisk.view c.args.volume.now c.args.progress.now c.args.actor c.args.piece.now c.requires.moves
    c.requires.range c.requires.reads c.known.ensures.volume c.take_read-flight.new.self c.take_read-flight.result
    c.take_read-flight.ensures c.step.new.v c.step.new.flight c.in-Entered.ensures.step
    (record {
      queue = c.enter.new.self;
      actors = c.take_read-flight.new.self.actors;
      replies = c.take_read-flight.new.self.replies;
    }) c.enter.ensures refl
