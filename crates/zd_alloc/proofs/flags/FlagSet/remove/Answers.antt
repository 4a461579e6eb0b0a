-- The summary says whether the word has a number left.
use Rattle.std.proofs.Common.{sym, ◌∙◌, ◌/◌, arith}
use Rattle.zd_alloc.proofs.FlagLaws.{word_is, summed_zeroed, summed_lowered}
use Rattle.zd_alloc.proofs.flags.FlagSet.remove.Goals as goal

pub invariant_of-self : goal.invariant_of-self
invariant_of-self c =
    let inside = rw (← c.self.view_is) at c.requires in
    let now = word_is c.lower_flag.new.words.items (c.args.n / 64) c.index.result.now (omega (arith, c.lower_flag.ensures.length, inside)) c.index.ensures in
    summed_zeroed c.self.inside.words.items c.self.inside.summary.items _ _ (c.args.n / 64) c.self.invariant
    c.lower_flag.ensures.length c.lower_flag-then-index-eq0.ensures.length c.lower_flag.ensures.words c.lower_flag-then-index-eq0.ensures.flag
    (sym now ∙ c.if-index-eq0.true)

pub invariant_of-self-else-index-eq0 : goal.invariant_of-self-else-index-eq0
invariant_of-self-else-index-eq0 c =
    let inside = rw (← c.self.view_is) at c.requires in
    let now = word_is c.lower_flag.new.words.items (c.args.n / 64) c.index.result.now (omega (arith, c.lower_flag.ensures.length, inside)) c.index.ensures in
    summed_lowered c.self.inside.words.items c.self.inside.summary.items _ (c.args.n / 64) c.self.invariant
    c.lower_flag.ensures.length c.lower_flag.ensures.words c.lower_flag.ensures.less (omega (arith, now, c.if-index-eq0.false))
