-- The word has a number now, and the summary says so.
use Rattle.std.proofs.Common.{◌/◌}
use Rattle.zd_alloc.proofs.FlagLaws.{summed_raised}
use Rattle.zd_alloc.proofs.flags.FlagSet.insert.Goals as goal

pub invariant_of-self : goal.invariant_of-self
invariant_of-self c =
    summed_raised c.self.inside.words.items c.self.inside.summary.items _ _ (c.args.n / 64) c.self.invariant
    c.raise_flag.ensures.length c.raise_flag-2.ensures.length c.raise_flag.ensures.words c.raise_flag-2.ensures.flag c.raise_flag.ensures.some
