-- Sequential zones come after the conventional ones.
use Rattle.std.proofs.Common.{arith}
use Rattle.zd_alloc.specs.Zones.{use_after_release}
use Rattle.zd_alloc.proofs.DivisionLaws.{left_set, right_set}
use Rattle.zd_alloc.proofs.alloc.Alloc.release.Goals as goal

pub returns-then-zone-conv-clause-zones : goal.returns-then-zone-conv-clause-zones
returns-then-zone-conv-clause-zones c =
    rw (← c.self.view_is, c.release.ensures, ← c.zone.view_is)
    (left_set c.self.inside.conventional c.self.inside.sequential c.zone.inside.0 (use_after_release c.args.named_by_commit)
    (omega (arith, c.if-zone-conv.true, c.count-conv.ensures.value)))

pub returns-else-zone-conv-clause-zones : goal.returns-else-zone-conv-clause-zones
returns-else-zone-conv-clause-zones c =
    rw (← c.self.view_is, c.release-else-zone-conv.ensures, c.count-conv.ensures.value, ← c.zone.view_is)
    (right_set c.self.inside.conventional c.self.inside.sequential c.zone.inside.0 (use_after_release c.args.named_by_commit)
    (omega (arith, c.if-zone-conv.false, c.count-conv.ensures.value)))
