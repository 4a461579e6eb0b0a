-- Conventional zones come first.
use Rattle.zd_alloc.proofs.DivisionLaws.{left_takes}
use Rattle.zd_alloc.proofs.alloc.Alloc.take_conventional.Goals as goal

pub returns-clause-some : goal.returns-clause-some
returns-clause-some c =
    rw (← c.self.view_is)
    (left_takes c.self.inside.conventional c.take.new.self c.self.inside.sequential c.self.inside.order c.in_ok-zone.zone c.in_ok-zone.ensures.some.0
    c.in_ok-zone.ensures.inside c.in_ok-zone.ensures.some.1)
