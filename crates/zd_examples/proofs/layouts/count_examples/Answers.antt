use Rattle.std.proofs.Common.{◌≤◌, arith, lit≤}
use Rattle.zd_examples.proofs.layouts.count_examples.Goals as goal

pub returns-clause-one : goal.returns-clause-one
returns-clause-one c = lit≤ tt

pub returns-clause-more : goal.returns-clause-more
returns-clause-more c = lit≤ tt

pub returns-clause-same : goal.returns-clause-same
returns-clause-same c h = let rose : 4 ≤ 3 = h in omega arith

pub returns-clause-at_the_end : goal.returns-clause-at_the_end
returns-clause-at_the_end c = lit≤ tt

pub returns-clause-near_the_end : goal.returns-clause-near_the_end
returns-clause-near_the_end c h = let rose : 18446744073709551615 ≤ 18446744073709551614 = h in omega arith
