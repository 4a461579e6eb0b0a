-- The weight is that of the blocks before word i.
use Rattle.std.proofs.Common.{◌≡◌, ◌*◌, ◌≤◌}
use Rattle.zd_bits.specs.Bits.{weight_of}
use Rattle.zd_bits.proofs.weight.Given as goal

abbrev pub invariant-loop-i : goal.invariant-loop-i
invariant-loop-i l = (l.weight ≡ weight_of l.bits (64 * l.i)) × (l.weight ≤ 64 * l.i)
