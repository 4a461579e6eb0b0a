-- The next chunk is one of the list.
use Rattle.std.proofs.Common.{◌<◌, IfSome}
use Rattle.zd_alloc.proofs.tests.candidates.Paired.walked.Given as goal

abbrev pub invariant-loop : goal.invariant-loop
invariant-loop l = IfSome l.next (λ chunk. chunk < 4)
