use Rattle.zd_session.proofs.LoneLaws.{LoneSoFar, left_of}
use Rattle.zd_session.proofs.session.Session.run_alone.Given as goal

abbrev pub invariant-loop-self : goal.invariant-loop-self
invariant-loop-self g l = LoneSoFar g.D.ZonedDisk.view l.initial.self l.self

abbrev pub decreases-loop-self : goal.decreases-loop-self
decreases-loop-self g l = left_of l.self
