-- The chunk has the greatest number.
use Rattle.std.proofs.Common.{ap, length, arith}
use Rattle.zd_alloc.proofs.FollowLaws.{follows}
use Rattle.zd_alloc.proofs.candidates.Candidates.touch.Goals as goal

pub returns-clause-order : goal.returns-clause-order
returns-clause-order c =
    let old = c.args.self.now in
    let s = c.self.inside in
    let keeps = rw (← c.self.view_is) at c.make_room.ensures.order in
    let classes = rw (← c.self.view_is) at c.make_room.ensures.classes in
    let is = c.self.invariant in
    rw (c.give_number.ensures, c.chunk.view_is)
    (follows c.args.chunk s.next old.numbers s.numbers.items keeps (λ k less. is.below k (omega (arith, less, is.same)))
    (omega (arith, c.requires, is.same, ap length classes)))
