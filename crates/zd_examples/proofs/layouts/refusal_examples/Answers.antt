use Rattle.std.proofs.Common.{◌≡◌, ◌<◌, ◌≤◌, Bool, true, false, refl, arith, lit≤, lit<}
use Rattle.zd_examples.proofs.layouts.refusal_examples.Goals as goal

pub returns-clause-size : goal.returns-clause-size
returns-clause-size c h = let wrong : ◌≡◌ {A = Bool} false true = h.power in cc

pub returns-clause-size_first : goal.returns-clause-size_first
returns-clause-size_first c h = let wrong : 8 ≤ 4 = h.least in omega arith

pub returns-clause-count : goal.returns-clause-count
returns-clause-count c = (
  record { least = lit≤ tt; most = lit≤ tt; power = refl },
  (λ h. (let wrong : 0 < 0 = h.some_conventional in omega arith)),
)

pub returns-clause-both : goal.returns-clause-both
returns-clause-both c h = let size = h.0 in let wrong : 8 ≤ 4 = size.least in omega arith

pub returns-clause-right : goal.returns-clause-right
returns-clause-right c h = h.1 (record { some_conventional = lit< tt; most = lit≤ tt })
