-- No call on zones changes the use order.
use Rattle.std.proofs.Common.{◌≡◌}
use Rattle.bench_alloc.proofs.fill.Given as goal

abbrev pub invariant-loop : goal.invariant-loop
invariant-loop l = l.zones.order ≡ l.fn.zones.order
