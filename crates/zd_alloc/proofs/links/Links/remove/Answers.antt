-- The places at both sides are joined.
use Rattle.zd_alloc.proofs.LinkLaws.{removed}
use Rattle.zd_alloc.proofs.links.Links.remove.Goals as goal

pub returns-clause-ring : goal.returns-clause-ring
returns-clause-ring c =
    removed c.args.self.now c.join.new.self c.args.place c.prev-before.result c.next-after.result c.join.ensures c.prev-before.ensures.value c.next-after.ensures.value
    c.prev-before.ensures.inside c.next-after.ensures.inside c.requires
