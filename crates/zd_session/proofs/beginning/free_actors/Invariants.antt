use Rattle.zd_session.specs.Beginnings.{AreNewActors}
use Rattle.zd_session.proofs.beginning.free_actors.Given as goal

abbrev pub invariant-loop : goal.invariant-loop
invariant-loop l = AreNewActors l.counter l.actors.items
