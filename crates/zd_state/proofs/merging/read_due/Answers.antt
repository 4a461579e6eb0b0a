use Rattle.std.proofs.Common.{Some, ap, ◌∙◌}
use Rattle.zd_disk.proofs.ToldLaws.{IfSome-at}
use Rattle.zd_routes.specs.declared.edges.Edge.{Edge}
use Rattle.zd_routes.specs.declared.edges.Edge.TheVariants.{First, Last}
use Rattle.zd_state.proofs.EdgeSteps.{first_may_be, first_read, last_may_be, last_read}
use Rattle.zd_state.proofs.merging.read_due.Goals as goal

pub returns-in-First-clause-ok : goal.returns-in-First-clause-ok
returns-in-First-clause-ok g c =
    first_read c.args.state.now.plain (g.D.ZonedDisk.view c.args.disk.now).zones c.args.piece.now.what
    c.args.edges.now c.read_edge.result c.read_edge.new.into
    (record {
      next = IfSome-at c.next_edge.result First _ (c.unwrap.ensures ∙ ap (λ (e : Edge). Some e) c.in-First.is)
          c.next_edge.ensures.some;
      size = c.read_edge.ensures.size;
      value = rw c.cover-block.ensures.first at c.read_edge.ensures.value;
      err = c.read_edge.ensures.err;
      room = c.read_edge.ensures.room;
    })

pub returns-in-First-clause-edges : goal.returns-in-First-clause-edges
returns-in-First-clause-edges g c =
    first_may_be c.args.state.now.plain (g.D.ZonedDisk.view c.args.disk.now).zones c.args.piece.now.what
    c.args.edges.now c.read_edge.result c.read_edge.new.into
    (record {
      next = IfSome-at c.next_edge.result First _ (c.unwrap.ensures ∙ ap (λ (e : Edge). Some e) c.in-First.is)
          c.next_edge.ensures.some;
      size = c.read_edge.ensures.size;
      value = rw c.cover-block.ensures.first at c.read_edge.ensures.value;
      err = c.read_edge.ensures.err;
      room = c.read_edge.ensures.room;
    })
    c.requires.edges

pub returns-in-Last-clause-ok : goal.returns-in-Last-clause-ok
returns-in-Last-clause-ok g c =
    last_read c.args.state.now.plain (g.D.ZonedDisk.view c.args.disk.now).zones c.args.piece.now.what
    c.args.edges.now c.read_edge-in-Last.result c.read_edge-in-Last.new.into
    (record {
      next = IfSome-at c.next_edge.result Last _ (c.unwrap.ensures ∙ ap (λ (e : Edge). Some e) c.in-Last.is)
          c.next_edge.ensures.some;
      size = c.read_edge-in-Last.ensures.size;
      value = rw (c.from.ensures, c.cover-block.ensures.first, c.cover-block.ensures.count)
          at c.read_edge-in-Last.ensures.value;
      err = c.read_edge-in-Last.ensures.err;
      room = c.read_edge-in-Last.ensures.room;
    })

pub returns-in-Last-clause-edges : goal.returns-in-Last-clause-edges
returns-in-Last-clause-edges g c =
    last_may_be c.args.state.now.plain (g.D.ZonedDisk.view c.args.disk.now).zones c.args.piece.now.what
    c.args.edges.now c.read_edge-in-Last.result c.read_edge-in-Last.new.into
    (record {
      next = IfSome-at c.next_edge.result Last _ (c.unwrap.ensures ∙ ap (λ (e : Edge). Some e) c.in-Last.is)
          c.next_edge.ensures.some;
      size = c.read_edge-in-Last.ensures.size;
      value = rw (c.from.ensures, c.cover-block.ensures.first, c.cover-block.ensures.count)
          at c.read_edge-in-Last.ensures.value;
      err = c.read_edge-in-Last.ensures.err;
      room = c.read_edge-in-Last.ensures.room;
    })
    c.requires.edges
