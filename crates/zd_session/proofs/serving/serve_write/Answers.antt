use Rattle.std.proofs.Common.{refl, arith}
use Rattle.std.specs.Vec.{with_item}
use Rattle.zd_session.proofs.ServeWriteLaws.{all_there, now_room, write_fits, write_moved, write_serves, writes_blocks}
use Rattle.zd_session.proofs.serving.serve_write.Goals as goal

pub step-requires-clause-piece : goal.step-requires-clause-piece
step-requires-clause-piece g c =
    writes_blocks g.D.ZonedDisk.view c.args.volume.now c.args.progress.now c.args.actor c.args.piece.now
    c.requires.moves c.requires.range c.requires.writes

pub step-requires-clause-edges : goal.step-requires-clause-edges
step-requires-clause-edges g c =
    all_there g.D.ZonedDisk.view c.args.volume.now c.args.progress.now c.args.actor c.args.piece.now c.requires.moves
    c.requires.range c.requires.writes c.index_mut.result.now c.index_mut.ensures.value c.known.ensures.volume
    c.requires.none

pub step-requires-clause-spare : goal.step-requires-clause-spare
step-requires-clause-spare g c =
    write_fits g.D.ZonedDisk.view c.args.volume.now c.args.progress.now c.args.actor c.args.piece.now c.requires.moves
    c.requires.range c.requires.writes c.index_mut.result.now c.index_mut.ensures.value c.known.ensures.queue

pub returns : goal.returns
returns g c = record {
  moved =
      write_moved g.D.ZonedDisk.view c.args.volume.now c.args.progress.now c.args.actor c.args.piece.now c.requires.moves
      c.requires.range c.requires.writes c.index_mut.result.now c.index_mut.ensures.value c.known.ensures.volume
      c.known.ensures.queue c.step.new.v _ refl c.step.result c.step.ensures.tries c.requires.zone c.step.ensures.call
      (record { first = c.clear.new.self; last = c.clear-2.new.self }) c.clear.ensures.empty c.clear-2.ensures.empty refl
      c.enter.ensures c.step.ensures.same
      (let room = now_room g.D.ZonedDisk.view c.args.volume.now c.args.progress.now c.args.actor c.args.piece.now
      c.requires.moves c.requires.range c.requires.writes c.index_mut.result.now c.index_mut.ensures.value in
      let first = room.first in
      let last = room.last in
      let was_first = c.clear.ensures.room in
      let was_last = c.clear-2.ensures.room in
      record { first = omega (arith, first, was_first); last = omega (arith, last, was_last) });
  serves =
      write_serves g.D.ZonedDisk.view c.args.volume.now c.args.progress.now c.args.actor c.args.piece.now
      c.requires.moves c.requires.range c.requires.writes c.index_mut.result.now c.index_mut.ensures.value
      c.known.ensures.volume c.known.ensures.queue c.step.new.v
      (record {
        queue = c.enter.new.self;
        actors = with_item c.args.progress.now.actors c.args.actor
            (record { read = c.index_mut.result.now.read; edges = record { first = c.clear.new.self; last = c.clear-2.new.self } });
        replies = c.args.progress.now.replies;
      }) refl c.step.result c.step.ensures.tries
      c.requires.zone c.step.ensures.call (record { first = c.clear.new.self; last = c.clear-2.new.self })
      c.clear.ensures.empty c.clear-2.ensures.empty refl c.enter.ensures;
}
