use Rattle.std.proofs.Common.{ℕ, ◌+◌, ◌-◌, ◌*◌, ◌∙◌, arith}
use Rattle.zd_state.proofs.FilledBlocks.{puts_sectors}
use Rattle.zd_state.proofs.filling.put_edge_at.Goals as goal

pub returns-clause-sectors : goal.returns-clause-sectors
returns-clause-sectors c j few =
    let at : ℕ = c.args.at in
    (puts_sectors c.args.out.now c.put_edge.new.out (8 * at) 8 (4096 * at) (4096 * at + 4096 - 4096 * at) (omega arith)
    (omega arith) c.put_edge.ensures.size (omega (arith, c.requires.fits))).put j few
    ∙ c.put_edge.ensures.sectors j few

pub returns-clause-others : goal.returns-clause-others
returns-clause-others c =
    let at : ℕ = c.args.at in
    (puts_sectors c.args.out.now c.put_edge.new.out (8 * at) 8 (4096 * at) (4096 * at + 4096 - 4096 * at) (omega arith)
    (omega arith) c.put_edge.ensures.size (omega (arith, c.requires.fits))).others
