-- No chunk of the class has a number in its tree.
use Rattle.zd_alloc.proofs.OldestLaws.{no_such, IfNone-then}
use Rattle.zd_alloc.proofs.candidates.Candidates.first_of.Goals as goal

pub returns-clause-none : goal.returns-clause-none
returns-clause-none c =
    rw (← c.self.view_is)
    (IfNone-then c.least.result (no_such _ c.self.inside.trees c.args.class c.self.invariant) c.least.ensures.none)
