-- After the last chunk comes the end.
use Rattle.std.proofs.Common.{sym, ◌∙◌, arith}
use Rattle.zd_alloc.proofs.UseOrderLaws.{after_none, after_some}
use Rattle.zd_alloc.proofs.order.UseOrder.after.Goals as goal

pub returns-then-next-end-clause-value : goal.returns-then-next-end-clause-value
returns-then-next-end-clause-value c =
    let inside = rw (← c.self.view_is) at c.requires in
    rw (← c.self.view_is)
    (after_none c.self.inside.links _ c.args.chunk c.self.invariant (omega (arith, inside, c.self.invariant.count))
    (sym c.next-next.ensures.value ∙ c.if-next-end.true ∙ c.end.ensures.value))

pub returns-else-next-end-clause-value : goal.returns-else-next-end-clause-value
returns-else-next-end-clause-value c =
    let inside = rw (← c.self.view_is) at c.requires in
    rw (← c.self.view_is)
    (after_some c.self.inside.links _ c.args.chunk c.next-next.result c.self.invariant (omega (arith, inside, c.self.invariant.count))
    c.next-next.ensures.value (λ same. c.if-next-end.false (same ∙ sym c.end.ensures.value)))
