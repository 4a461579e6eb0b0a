-- No block before word i has the bit.
use Rattle.std.proofs.Common.{◌*◌, not}
use Rattle.zd_bits.specs.Bits.{AllAre}
use Rattle.zd_bits.proofs.first_with.Given as goal

abbrev pub invariant-loop-i : goal.invariant-loop-i
invariant-loop-i l = AllAre (not l.bit) l.bits l.fn.from (64 * l.i)
