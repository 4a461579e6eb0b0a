use Rattle.std.proofs.Common.{◌<◌, ◌≤◌, ◌^◌, arith, lit≤, lit<}
use Rattle.zd_examples.proofs.scripts.bound_examples.Goals as goal

pub returns-clause-greatest : goal.returns-clause-greatest
returns-clause-greatest c =
    (record { place_most = lit< tt; some = lit≤ tt; count_most = lit< tt }, lit< tt)

pub returns-clause-least : goal.returns-clause-least
returns-clause-least c = record { place_most = lit< tt; some = lit≤ tt; count_most = lit< tt }

pub returns-clause-block : goal.returns-clause-block
returns-clause-block c h = let below : 2 ^ 64 < 2 ^ 64 = h.place_most in omega arith

pub returns-clause-no_block : goal.returns-clause-no_block
returns-clause-no_block c h = let some : 1 ≤ 0 = h.0.some in omega arith

pub returns-clause-count : goal.returns-clause-count
returns-clause-count c h = let below : 2 ^ 32 < 2 ^ 32 = h.count_most in omega arith

pub returns-clause-seed : goal.returns-clause-seed
returns-clause-seed c h = let below : 2 ^ 32 < 2 ^ 32 = h.1 in omega arith

pub returns-clause-last_sector : goal.returns-clause-last_sector
returns-clause-last_sector c =
    record { place_most = lit< tt; some = lit≤ tt; count_most = lit< tt }

pub returns-clause-sector : goal.returns-clause-sector
returns-clause-sector c h = let below : 2 ^ 64 < 2 ^ 64 = h.place_most in omega arith

pub returns-clause-no_sector : goal.returns-clause-no_sector
returns-clause-no_sector c h = let some : 1 ≤ 0 = h.0.some in omega arith
