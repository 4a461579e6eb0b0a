-- One number fewer is above the bound.
use Rattle.std.proofs.Common.{arith}
use Rattle.std.proofs.lemmas.Bool.{leb-true}
use Rattle.zd_alloc.proofs.FollowLaws.{count_lowered, count_none}
use Rattle.zd_alloc.proofs.candidates.Candidates.lower.Goals as goal

pub returns-in-Some-clause-fewer : goal.returns-in-Some-clause-fewer
returns-in-Some-clause-fewer c =
    let numbers = c.self.inside.numbers.items in
    let first = rw c.deref.ensures.value at c.in-Some.ensures.some in
    let fewer = count_lowered c.args.rank numbers c.in-Some.chunk first.inside (leb-true _ _ first.passes) in
    rw c.give_number.ensures (rw (← c.self.view_is) (omega (arith, fewer)))

pub returns-in_default-clause-fewer : goal.returns-in_default-clause-fewer
returns-in_default-clause-fewer c =
    let none = rw c.deref.ensures.value at c.in_default.ensures.none in
    rw (← c.self.view_is) (omega (arith, count_none c.args.rank c.self.inside.numbers.items none))
