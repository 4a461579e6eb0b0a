-- The zone was held.
use Rattle.zd_alloc.proofs.TallyLaws.{kept_freed, kept_limbo}
use Rattle.zd_alloc.proofs.zones.KindZones.release.Goals as goal

pub invariant_of-self : goal.invariant_of-self
invariant_of-self c =
    let inside = rw (← c.self.view_is) at c.requires.inside in
    let was = rw (← c.self.view_is) at c.requires.held in
    kept_limbo c.self.inside.uses.items c.self.inside.free c.self.inside.limbo c.insert.new.self c.self.inside.free_count c.self.inside.limbo_count c.args.zone c.self.invariant inside was c.insert.ensures.length c.insert.ensures.flag

pub invariant_of-self-else-named_by_commit : goal.invariant_of-self-else-named_by_commit
invariant_of-self-else-named_by_commit c =
    let inside = rw (← c.self.view_is) at c.requires.inside in
    let was = rw (← c.self.view_is) at c.requires.held in
    kept_freed c.self.inside.uses.items c.self.inside.free c.insert-else-named_by_commit.new.self c.self.inside.limbo c.self.inside.free_count c.self.inside.limbo_count c.args.zone c.self.invariant inside was c.insert-else-named_by_commit.ensures.length c.insert-else-named_by_commit.ensures.flag
