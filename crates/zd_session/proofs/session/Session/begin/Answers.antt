use Rattle.zd_session.proofs.BeginLaws.{at_place}
use Rattle.zd_session.specs.Beginnings.{IsNewActor}
use Rattle.zd_session.proofs.session.Session.begin.Goals as goal

pub returns-in-Ok-clause-begins : goal.returns-in-Ok-clause-begins
returns-in-Ok-clause-begins g c = record {
  over = c.in-Ok.ensures.over;
  plan_is = c.from.ensures;
  flights = c.in-Ok.ensures.flights;
  free = λ i a at. (at_place IsNewActor c.in-Ok.progress.actors.items i a c.in-Ok.ensures.free.each at).free;
}
