-- Sequential zones come after the conventional ones.
use Rattle.zd_alloc.proofs.DivisionLaws.{right_least}
use Rattle.zd_alloc.proofs.alloc.Alloc.least_free.Goals as goal

pub returns-in_ok-zone-in-Sequential-clause-some : goal.returns-in_ok-zone-in-Sequential-clause-some
returns-in_ok-zone-in-Sequential-clause-some c =
    rw (← c.self.view_is, c.count-conv.ensures.value, c.in-Sequential.is)
    (right_least c.self.inside.conventional c.self.inside.sequential c.self.inside.order c.in_ok-zone-in-Sequential.zone c.in_ok-zone-in-Sequential.ensures.some
    c.in_ok-zone-in-Sequential.ensures.inside)
