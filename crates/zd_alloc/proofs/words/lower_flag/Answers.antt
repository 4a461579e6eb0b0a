-- One bit of one word is cleared.
use Rattle.std.proofs.Common.{◌/◌}
use Rattle.zd_alloc.proofs.FlagLaws.{word_is, lowered}
use Rattle.zd_alloc.proofs.words.lower_flag.Goals as goal

pub returns-clause-flag : goal.returns-clause-flag
returns-clause-flag c =
    rw (word_is c.args.words.now.items (c.args.n / 64) c.index_mut.result.now c.requires c.index_mut.ensures.value)
    (lowered c.args.words.now.items c.args.n c.requires)
