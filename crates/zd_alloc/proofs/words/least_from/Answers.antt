-- It is the least flag of the first word that isn't 0.
use Rattle.std.proofs.Common.{refl, slice_index}
use Rattle.zd_alloc.proofs.FlagLaws.{least_is}
use Rattle.zd_alloc.proofs.words.least_from.Goals as goal

pub returns : goal.returns
returns c =
    least_is c.args.words.now c.args.i (slice_index c.args.words.now c.args.i) refl c.requires.some
    (c.type_inv.words c.args.i).fits c.requires.before
