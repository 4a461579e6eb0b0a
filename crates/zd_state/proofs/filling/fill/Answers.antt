use Rattle.std.proofs.Common.{arith}
use Rattle.zd_state.proofs.FilledBlocks.{fills_blocks}
use Rattle.zd_state.proofs.filling.fill.Goals as goal

pub returns : goal.returns
returns c =
    fills_blocks c.args.what c.args.edges.now.first.items c.args.edges.now.last.items c.put_edges.new.out
    c.put_patterns.new.out c.seed_of.result
    (omega (arith, c.put_patterns.ensures.size, c.put_edges.ensures.size, c.requires.size)) c.seed_of.ensures
    c.put_edges.ensures.first c.put_edges.ensures.last
    (rw (c.first_sector-first.ensures, c.sector_count.ensures) at c.put_patterns.ensures.put)
    (rw (c.first_sector-first.ensures, c.sector_count.ensures) at c.put_patterns.ensures.others)
