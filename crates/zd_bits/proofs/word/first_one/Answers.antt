-- What was shifted in front are the bits from `low` on.
use Rattle.std.proofs.Common.{arith}
use Rattle.std.proofs.lemmas.Nat.Bits.{ones_shl}
use Rattle.zd_bits.proofs.WordLaws.{first_one_is}
use Rattle.zd_bits.proofs.word.first_one.Goals as goal

pub returns : goal.returns
returns c = rw (ones_shl 64 c.args.low (omega arith)) (first_one_is c.args.word c.args.low c.requires c.ranges.word.fits)
