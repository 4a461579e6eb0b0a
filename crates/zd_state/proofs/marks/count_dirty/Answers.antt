use Rattle.std.proofs.Common.{arith}
use Rattle.zd_volume.proofs.CallsLeft.{dirty_more, dirty_less}
use Rattle.zd_state.proofs.marks.count_dirty.Goals as goal
use Rattle.zd_state.proofs.marks.count_dirty.Goals.{then-dirty-i, else-dirty-i}

pub loop-i-preserved : goal.loop-i-preserved
loop-i-preserved c =
    let few = c.loop-i.invariant.0 in
    let all = c.loop-i.invariant.1 in
    elim c.if-dirty-i.branch [
      | then-dirty-i w ↦ (
          let one = w.count-is in
          let more = dirty_more c.args.dirty.now c.loop-i.i c.loop-i-test.true w.if-dirty-i.true in
          (omega (arith, few, one), omega (arith, all, one, more)))
      | else-dirty-i w ↦ (
          let same = w.count-is in
          let less = dirty_less c.args.dirty.now c.loop-i.i c.loop-i-test.true w.if-dirty-i.false in
          (omega (arith, few, same), omega (arith, all, same, less)))
    ]
