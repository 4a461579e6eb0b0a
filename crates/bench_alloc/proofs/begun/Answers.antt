-- The layout fits, so there is a chunk, and the use order and the candidates have all of them.
use Rattle.std.proofs.Common.{Option, None, length, sym, ap, subst, ◌∙◌, arith}
use Rattle.std.proofs.lemmas.List.{length-replicate}
use Rattle.std.proofs.lemmas.List.FromFn.{length-range_with_len}
use Rattle.zd_base.specs.Layout.{Fits}
use Rattle.zd_alloc.specs.declared.job_class.JobClass.{JobClass}
use Rattle.bench_alloc.proofs.begun.Goals as goal

pub invariant_of-result-clause-some : goal.invariant_of-result-clause-some
invariant_of-result-clause-some c =
    let fits = subst (Fits c.args.g.now) (sym c.in_ok-layout.ensures.some.0) c.in_ok-layout.ensures.some.1 in
    omega (arith, fits.some_chunk)

pub invariant_of-result-clause-counted : goal.invariant_of-result-clause-counted
invariant_of-result-clause-counted c =
    ap length c.in-Ok-new.ensures.order ∙ length-range_with_len 0 c.in_ok-layout.layout.chunks

pub invariant_of-result-clause-classed : goal.invariant_of-result-clause-classed
invariant_of-result-clause-classed c =
    let none : Option JobClass = None in
    ap length c.in-Ok-new-2.ensures.classes ∙ length-replicate c.in_ok-layout.layout.chunks none
