-- The zone was free.
use Rattle.zd_alloc.proofs.TallyLaws.{kept_taken}
use Rattle.zd_alloc.proofs.zones.KindZones.take.Goals as goal

pub invariant_of-self : goal.invariant_of-self
invariant_of-self c =
    let inside = rw (← c.self.view_is) at c.in_ok-zone.ensures.inside in
    let was = rw (← c.self.view_is) at c.in_ok-zone.ensures.some.free in
    kept_taken c.self.inside.uses.items c.self.inside.free c.remove.new.self c.self.inside.limbo c.self.inside.free_count c.self.inside.limbo_count c.in_ok-zone.zone c.self.invariant inside was c.remove.ensures.length c.remove.ensures.flag
