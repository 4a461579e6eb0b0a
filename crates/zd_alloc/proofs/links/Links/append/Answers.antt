-- The place follows the last one, and the end follows it.
use Rattle.zd_alloc.proofs.LinkLaws.{appended}
use Rattle.zd_alloc.proofs.links.Links.append.Goals as goal

pub returns-clause-ring : goal.returns-clause-ring
returns-clause-ring c =
    appended c.args.self.now c.join.new.self c.join-2.new.self c.args.place c.prev-last.result c.end-end.result c.join.ensures c.join-2.ensures c.end-end.ensures.value c.prev-last.ensures.value
    c.prev-last.ensures.inside c.requires
