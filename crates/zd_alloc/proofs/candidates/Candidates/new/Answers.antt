-- No chunk has a class, and the numbers are those of the chunks.
use Rattle.std.proofs.Common.{arith}
use Rattle.zd_alloc.proofs.FollowLaws.{started_in_order, started_listed}
use Rattle.zd_alloc.proofs.candidates.Candidates.new.Goals as goal

pub invariant_of-result : goal.invariant_of-result
invariant_of-result c =
    let n = c.args.chunks in
    rw (c.in-Ok.ensures, c.in-Ok-rising.ensures, c.from.ensures)
    (started_listed n c.in-Ok-new.trees (omega arith) c.in-Ok-new.ensures)

pub returns-clause-order : goal.returns-clause-order
returns-clause-order c = rw c.in-Ok-rising.ensures (started_in_order c.args.chunks)
