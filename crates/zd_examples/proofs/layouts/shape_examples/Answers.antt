use Rattle.std.proofs.Common.{◌≡◌, ◌<◌, ◌≤◌, Bool, true, false, arith, lit≤, lit<, refl}
use Rattle.zd_examples.proofs.layouts.shape_examples.Goals as goal

pub returns-clause-small : goal.returns-clause-small
returns-clause-small c = record {
  size = record { least = lit≤ tt; most = lit≤ tt; power = refl };
  count = record { some_conventional = lit< tt; most = lit≤ tt };
}

pub returns-clause-large : goal.returns-clause-large
returns-clause-large c = record {
  size = record { least = lit≤ tt; most = lit≤ tt; power = refl };
  count = record { some_conventional = lit< tt; most = lit≤ tt };
}

pub returns-clause-least : goal.returns-clause-least
returns-clause-least c = record { least = lit≤ tt; most = lit≤ tt; power = refl }

pub returns-clause-less : goal.returns-clause-less
returns-clause-less c h = let wrong : 8 ≤ 4 = h.least in omega arith

pub returns-clause-between : goal.returns-clause-between
returns-clause-between c h = let wrong : ◌≡◌ {A = Bool} false true = h.power in cc

pub returns-clause-more : goal.returns-clause-more
returns-clause-more c h = let wrong : 131072 ≤ 65536 = h.most in omega arith

pub returns-clause-most_zones : goal.returns-clause-most_zones
returns-clause-most_zones c = record { some_conventional = lit< tt; most = lit≤ tt }

pub returns-clause-one_zone_more : goal.returns-clause-one_zone_more
returns-clause-one_zone_more c h = let wrong : 65537 ≤ 65536 = h.most in omega arith

pub returns-clause-no_conventional : goal.returns-clause-no_conventional
returns-clause-no_conventional c h = let wrong : 0 < 0 = h.some_conventional in omega arith
