-- The bits from a byte on weigh what the range does, and what stands before it in the byte.
use Rattle.std.proofs.Common.{arith}
use Rattle.zd_bits.proofs.BetweenLaws.{weight_rest_of}
use Rattle.zd_bits.proofs.weight_in.Goals as goal

pub overflow_sub-result : goal.overflow_sub-result
overflow_sub-result c = omega (arith, weight_rest_of c.args.bits.now c.args.from c.args.end c.requires.order, c.weight.ensures, c.weight-2.ensures)

pub returns : goal.returns
returns c = omega (arith, weight_rest_of c.args.bits.now c.args.from c.args.end c.requires.order, c.weight.ensures, c.weight-2.ensures)
