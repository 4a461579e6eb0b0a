-- A word turned has a 1 for each block that isn't valid.
use Rattle.zd_bits.proofs.WordLaws.{word_turned}
use Rattle.zd_bits.proofs.word.word_with.Goals as goal

pub returns-else-bit : goal.returns-else-bit
returns-else-bit c = rw c.if-bit.false (word_turned c.args.bits.now c.args.i c.word_at-word.result c.word_at-word.type_inv c.word_at-word.ensures)
