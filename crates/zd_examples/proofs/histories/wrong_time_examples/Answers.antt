use Rattle.std.proofs.Common.{◌≤◌, arith}
use Rattle.zd_examples.proofs.histories.wrong_time_examples.Goals as goal

pub returns-clause-falls : goal.returns-clause-falls
returns-clause-falls c h = let late : 4 ≤ 3 = h.in_time.0 in omega arith

pub returns-clause-stands : goal.returns-clause-stands
returns-clause-stands c h = let late : 2 ≤ 1 = h.in_time.0 in omega arith

pub returns-clause-stands_at_a_fault : goal.returns-clause-stands_at_a_fault
returns-clause-stands_at_a_fault c h = let late : 2 ≤ 1 = h.in_time.0 in omega arith
