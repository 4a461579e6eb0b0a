use Rattle.std.proofs.Common.{refl, lit≤}
use Rattle.zd_examples.proofs.cuts.cut_examples.Goals as goal

pub returns-clause-one : goal.returns-clause-one
returns-clause-one c = (refl, lit≤ tt, refl, refl)

pub returns-clause-two : goal.returns-clause-two
returns-clause-two c = (refl, lit≤ tt, refl, (refl, lit≤ tt, refl, refl))

pub returns-clause-finer : goal.returns-clause-finer
returns-clause-finer c = (refl, lit≤ tt, refl, (refl, lit≤ tt, refl, refl))

pub returns-clause-sectors : goal.returns-clause-sectors
returns-clause-sectors c = (refl, lit≤ tt, refl, (refl, lit≤ tt, refl, refl))
