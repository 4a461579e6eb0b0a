use Rattle.zd_state.proofs.HeldZones.{held_there}
use Rattle.zd_state.proofs.jobs.give_back.Goals as goal

pub release-requires-clause-inside : goal.release-requires-clause-inside
release-requires-clause-inside c =
    held_there _ _ (c.requires.held _ ((c.taken_by.ensures _).0 c.in-Some.is))

pub returns-in-Some-clause-others : goal.returns-in-Some-clause-others
returns-in-Some-clause-others c = λ none. absurd (none c.in-Some.zone ((c.taken_by.ensures _).0 c.in-Some.is))
