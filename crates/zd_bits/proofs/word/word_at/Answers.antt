-- The bytes of the word stand where its blocks are.
use Rattle.zd_bits.proofs.WordLaws.{word_is}
use Rattle.zd_bits.proofs.word.word_at.Goals as goal

pub returns : goal.returns
returns c = word_is c.args.bits.now c.bytes_at.result c.args.i c.from_le_bytes.result (λ j. (c.type_inv.bits j).fits) c.bytes_at.ensures c.from_le_bytes.ensures
