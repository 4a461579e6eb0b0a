-- A mask of `count` ones takes the rest of a division.
use Rattle.std.proofs.lemmas.Nat.{one_shl, and_mask}
use Rattle.zd_bits.proofs.word.low_bits.Goals as goal

pub returns : goal.returns
returns c = rw (one_shl c.args.count 64 c.requires) (and_mask c.args.word c.args.count)
