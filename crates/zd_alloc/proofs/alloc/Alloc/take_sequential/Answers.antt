-- Sequential zones come after the conventional ones.
use Rattle.zd_alloc.proofs.DivisionLaws.{right_takes}
use Rattle.zd_alloc.proofs.alloc.Alloc.take_sequential.Goals as goal

pub returns-clause-some : goal.returns-clause-some
returns-clause-some c =
    rw (← c.self.view_is, c.count-conv.ensures.value)
    (right_takes c.self.inside.conventional c.self.inside.sequential c.take.new.self c.self.inside.order c.in_ok-zone.zone c.in_ok-zone.ensures.some.0
    c.in_ok-zone.ensures.inside c.in_ok-zone.ensures.some.1)
