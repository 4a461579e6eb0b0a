use Rattle.std.proofs.Common.{refl, sym, ◌∙◌}
use Rattle.std.specs.Vec.{with_item}
use Rattle.zd_disk.proofs.ToldLaws.{OnOk-at}
use Rattle.zd_session.proofs.ServeWriteLaws.{due_there, edge_moved, edge_serves, failed_moved, failed_serves, may_be, told_err}
use Rattle.zd_session.proofs.serving.serve_edge.Goals as goal

pub merge_read-requires-clause-edges : goal.merge_read-requires-clause-edges
merge_read-requires-clause-edges g c =
    may_be g.D.ZonedDisk.view c.args.volume.now c.args.progress.now c.args.actor c.args.piece.now c.requires.moves
    c.requires.range c.requires.writes c.index_mut.result.now c.index_mut.ensures.value c.known.ensures.volume

pub merge_read-requires-clause-due : goal.merge_read-requires-clause-due
merge_read-requires-clause-due g c =
    due_there g.D.ZonedDisk.view c.args.volume.now c.args.progress.now c.args.actor c.args.piece.now c.requires.moves
    c.requires.range c.requires.writes c.index_mut.result.now c.index_mut.ensures.value c.requires.due

pub returns-then-is_ok-clause-moved : goal.returns-then-is_ok-clause-moved
returns-then-is_ok-clause-moved g c =
    edge_moved g.D.ZonedDisk.view c.args.volume.now c.args.progress.now c.args.actor c.args.piece.now c.requires.moves
    c.requires.range c.requires.writes c.index_mut.result.now c.index_mut.ensures.value c.known.ensures.volume
    c.known.ensures.queue c.merge_read.new.self _ refl c.merge_read.new.edges c.merge_read.ensures.read_calls
    c.merge_read.ensures.reads refl
    (OnOk-at c.merge_read.result _ (sym c.is_ok.ensures.value ∙ c.if-is_ok.true) c.merge_read.ensures.ok)
    c.fly.ensures c.merge_read.ensures.same c.merge_read.ensures.edges

pub returns-then-is_ok-clause-serves : goal.returns-then-is_ok-clause-serves
returns-then-is_ok-clause-serves g c =
    edge_serves g.D.ZonedDisk.view c.args.volume.now c.args.progress.now c.args.actor c.args.piece.now c.requires.moves
    c.requires.range c.requires.writes c.index_mut.result.now c.index_mut.ensures.value c.known.ensures.volume
    c.known.ensures.queue c.merge_read.new.self
    (record {
      queue = c.fly.new.self;
      actors = with_item c.args.progress.now.actors c.args.actor
          (record { read = c.index_mut.result.now.read; edges = c.merge_read.new.edges });
      replies = c.args.progress.now.replies;
    }) refl c.merge_read.new.edges c.merge_read.ensures.read_calls
    c.merge_read.ensures.reads refl
    (OnOk-at c.merge_read.result _ (sym c.is_ok.ensures.value ∙ c.if-is_ok.true) c.merge_read.ensures.ok)
    c.fly.ensures

pub returns-else-is_ok-clause-moved : goal.returns-else-is_ok-clause-moved
returns-else-is_ok-clause-moved g c =
    let err = told_err c.merge_read.result _ (sym c.is_ok.ensures.value ∙ c.if-is_ok.false) c.merge_read.ensures.err in
    failed_moved g.D.ZonedDisk.view c.args.volume.now c.args.progress.now c.args.actor c.args.piece.now c.requires.moves
    c.requires.range c.requires.writes c.index_mut.result.now c.index_mut.ensures.value c.known.ensures.volume
    c.known.ensures.queue c.merge_read.new.self _ refl c.merge_read.new.edges c.merge_read.ensures.read_calls
    c.merge_read.ensures.reads refl
    err.1.1 err.1.2 err.1.3 refl c.merge_read.ensures.same c.merge_read.ensures.edges

pub returns-else-is_ok-clause-serves : goal.returns-else-is_ok-clause-serves
returns-else-is_ok-clause-serves g c =
    let err = told_err c.merge_read.result _ (sym c.is_ok.ensures.value ∙ c.if-is_ok.false) c.merge_read.ensures.err in
    failed_serves g.D.ZonedDisk.view c.args.volume.now c.args.progress.now c.args.actor c.args.piece.now c.requires.moves
    c.requires.range c.requires.writes c.index_mut.result.now c.index_mut.ensures.value c.known.ensures.volume
    c.known.ensures.queue c.merge_read.new.self
    (record {
      queue = c.args.progress.now.queue;
      actors = with_item c.args.progress.now.actors c.args.actor
          (record { read = c.index_mut.result.now.read; edges = c.merge_read.new.edges });
      replies = c.args.progress.now.replies;
    }) refl c.merge_read.new.edges c.merge_read.ensures.read_calls
    c.merge_read.ensures.reads refl
    err.1.1 err.1.2 err.1.3 refl
    (told_err c.merge_read.result _ (sym c.is_ok.ensures.value ∙ c.if-is_ok.false) c.merge_read.ensures.cause).1
