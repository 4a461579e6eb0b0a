-- One bit of one word is set.
use Rattle.std.proofs.Common.{◌/◌}
use Rattle.zd_alloc.proofs.FlagLaws.{word_is, raised, raised_there}
use Rattle.zd_alloc.proofs.words.raise_flag.Goals as goal

pub returns-clause-flag : goal.returns-clause-flag
returns-clause-flag c =
    rw (word_is c.args.words.now.items (c.args.n / 64) c.index_mut.result.now c.requires c.index_mut.ensures.value)
    (raised c.args.words.now.items c.args.n c.requires)

pub returns-clause-some : goal.returns-clause-some
returns-clause-some c = raised_there c.args.words.now.items c.args.n c.index_mut.result.now c.requires
