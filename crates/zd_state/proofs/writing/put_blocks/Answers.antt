use Rattle.zd_routes.specs.declared.edges.Edge.TheVariants.{First, Last}
use Rattle.zd_state.proofs.FilledBlocks.{whole_edge}
use Rattle.zd_state.proofs.writing.put_blocks.Goals as goal

pub put_filled-requires-clause-first : goal.put_filled-requires-clause-first
put_filled-requires-clause-first g c =
    whole_edge c.args.state.now.plain (g.D.ZonedDisk.view c.args.disk.now).zones c.args.piece.now.what c.args.edges.now
    c.requires.edges First

pub put_filled-requires-clause-last : goal.put_filled-requires-clause-last
put_filled-requires-clause-last g c =
    whole_edge c.args.state.now.plain (g.D.ZonedDisk.view c.args.disk.now).zones c.args.piece.now.what c.args.edges.now
    c.requires.edges Last
