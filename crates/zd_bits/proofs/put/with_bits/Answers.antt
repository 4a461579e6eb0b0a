-- The mask's bits are given the bit, the others stay.
use Rattle.std.proofs.Common.{arith}
use Rattle.zd_bits.proofs.MaskLaws.{or_inside, or_below, or_above, and_inside, and_below, and_above}
use Rattle.zd_bits.proofs.put.with_bits.Goals as goal

pub returns-then-bit-clause-inside : goal.returns-then-bit-clause-inside
returns-then-bit-clause-inside c = λ k low high. rw c.if-bit.true (or_inside c.args.byte c.mask-mask.result c.args.low c.args.high k c.mask-mask.ensures low high)

pub returns-then-bit-clause-below : goal.returns-then-bit-clause-below
returns-then-bit-clause-below c = λ k low. or_below c.args.byte c.mask-mask.result c.args.low c.args.high k c.mask-mask.ensures low

pub returns-then-bit-clause-above : goal.returns-then-bit-clause-above
returns-then-bit-clause-above c = λ k high small. or_above c.args.byte c.mask-mask.result c.args.low c.args.high k c.mask-mask.ensures high

pub returns-else-bit-clause-inside : goal.returns-else-bit-clause-inside
returns-else-bit-clause-inside c = λ k low high. rw c.if-bit.false (and_inside c.args.byte c.mask-mask.result c.args.low c.args.high k c.mask-mask.ensures (omega arith) low high (omega (arith, c.requires)))

pub returns-else-bit-clause-below : goal.returns-else-bit-clause-below
returns-else-bit-clause-below c = λ k low. and_below c.args.byte c.mask-mask.result c.args.low c.args.high k c.mask-mask.ensures (omega arith) low (omega (arith, c.requires))

pub returns-else-bit-clause-above : goal.returns-else-bit-clause-above
returns-else-bit-clause-above c = λ k high small. and_above c.args.byte c.mask-mask.result c.args.low c.args.high k c.mask-mask.ensures (omega arith) high small
