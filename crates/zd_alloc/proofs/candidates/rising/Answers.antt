-- One more number.
use Rattle.std.proofs.Common.{◌∷◌, [], ◌++◌, ap, sym, ◌∙◌, ℕ, List}
use Rattle.zd_alloc.proofs.OrderLaws.{range_more}
use Rattle.zd_alloc.proofs.candidates.rising.Goals as goal

pub loop-number-preserved : goal.loop-number-preserved
loop-number-preserved c =
    let n = c.loop-number.number in
    c.in_ok-push.ensures.items ∙ ap (λ (xs : List ℕ). xs ++ n ∷ []) c.loop-number.invariant ∙ sym (range_more n)
