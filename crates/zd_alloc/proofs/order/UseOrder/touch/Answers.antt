-- The ring without the chunk, and then with it at its end.
use Rattle.std.proofs.Common.{arith}
use Rattle.zd_alloc.proofs.UseOrderLaws.{touched}
use Rattle.zd_alloc.proofs.order.UseOrder.touch.Goals as goal

pub invariant_of-self : goal.invariant_of-self
invariant_of-self c =
    let inside = rw (← c.self.view_is) at c.requires in
    (touched c.self.inside.links c.remove.new.self c.append.new.self _ c.args.chunk c.self.invariant c.remove.ensures.ring c.append.ensures.ring c.remove.ensures.end c.append.ensures.end
    (omega (arith, inside, c.self.invariant.count))).whole

pub returns : goal.returns
returns c =
    let inside = rw (← c.self.view_is) at c.requires in
    rw (← c.self.view_is)
    (touched c.self.inside.links c.remove.new.self c.append.new.self _ c.args.chunk c.self.invariant c.remove.ensures.ring c.append.ensures.ring c.remove.ensures.end c.append.ensures.end
    (omega (arith, inside, c.self.invariant.count))).puts
