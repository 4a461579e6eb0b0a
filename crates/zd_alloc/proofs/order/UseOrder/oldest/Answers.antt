-- The end leads to the first chunk.
use Rattle.std.proofs.Common.{ap, sym, ◌∙◌, ℕ, Some}
use Rattle.zd_alloc.specs.Links.{next_of}
use Rattle.zd_alloc.proofs.UseOrderLaws.{first_whole}
use Rattle.zd_alloc.proofs.order.UseOrder.oldest.Goals as goal

pub returns-clause-value : goal.returns-clause-value
returns-clause-value c =
    let t = c.self.inside.links in
    rw (← c.self.view_is)
    (first_whole t _ c.self.invariant
    ∙ ap (λ (x : ℕ). Some x) (ap (λ (x : ℕ). next_of t x) (sym c.end.ensures.value) ∙ sym c.next.ensures.value))
