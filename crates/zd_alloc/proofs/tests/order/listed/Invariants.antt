-- The next chunk is one of the list.
use Rattle.std.proofs.Common.{◌<◌, length, IfSome}
use Rattle.zd_alloc.proofs.tests.order.listed.Given as goal

abbrev pub invariant-loop : goal.invariant-loop
invariant-loop l = IfSome l.next (λ chunk. chunk < length l.zones.order)
