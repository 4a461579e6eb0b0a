use Rattle.std.proofs.Common.{arith}
use Rattle.zd_open.proofs.BlockPointers.{next_in_blocks}
use Rattle.zd_open.proofs.opening.in_blocks.Goals as goal

pub loop-i-preserved : goal.loop-i-preserved
loop-i-preserved c =
    let low = c.loop-i-test.true in
    let end = c.len-i-end.ensures in
    next_in_blocks _ _ _ _ _ (omega (arith, low, end)) c.loop-i.invariant c.index.ensures c.div_ceil.ensures
