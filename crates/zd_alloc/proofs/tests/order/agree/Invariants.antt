-- The chunks stay four.
use Rattle.std.proofs.Common.{◌≡◌, length}
use Rattle.zd_alloc.proofs.tests.order.agree.Given as goal

abbrev pub invariant-loop : goal.invariant-loop
invariant-loop l = length l.zones.order ≡ 4
