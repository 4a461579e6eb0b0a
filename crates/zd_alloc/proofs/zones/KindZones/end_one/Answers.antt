-- The zone was in limbo.
use Rattle.zd_alloc.proofs.TallyLaws.{kept_ended, limbo_there, limbo_inside, ended_none, ended_one}
use Rattle.zd_alloc.proofs.zones.KindZones.end_one.Goals as goal

pub returns-in_default-clause-none : goal.returns-in_default-clause-none
returns-in_default-clause-none c =
    rw (← c.self.view_is)
    (λ _. ended_none c.self.inside.uses.items c.self.inside.limbo c.self.inside.limbo_count c.self.invariant.of_limbo c.in_default.ensures.none)

pub invariant_of-self : goal.invariant_of-self
invariant_of-self c =
    let was = limbo_there c.self.inside.uses.items c.self.inside.limbo c.self.inside.limbo_count c.in-Some.zone c.self.invariant.of_limbo c.in-Some.ensures.some.there in
    kept_ended c.self.inside.uses.items c.self.inside.free c.insert.new.self c.self.inside.limbo c.remove.new.self c.self.inside.free_count c.self.inside.limbo_count c.in-Some.zone c.self.invariant
    (limbo_inside c.self.inside.uses.items c.in-Some.zone was) was c.insert.ensures.length c.insert.ensures.flag c.remove.ensures.length c.remove.ensures.flag

pub returns-clause-frees : goal.returns-clause-frees
returns-clause-frees c =
    let was = limbo_there c.self.inside.uses.items c.self.inside.limbo c.self.inside.limbo_count c.in-Some.zone c.self.invariant.of_limbo c.in-Some.ensures.some.there in
    rw (← c.self.view_is) (ended_one c.self.inside.uses.items c.in-Some.zone was)
