-- 255 has eight ones.
use Rattle.std.proofs.lemmas.Nat.Bits.{bit_at_ones}
use Rattle.zd_bits.proofs.put.whole.Goals as goal

pub returns-then-bit : goal.returns-then-bit
returns-then-bit c = λ k small. rw c.if-bit.true (bit_at_ones 8 k small)
