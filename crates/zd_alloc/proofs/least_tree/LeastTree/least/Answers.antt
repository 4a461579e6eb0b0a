-- The root has the least number, and a place below which every node has it too.
use Rattle.std.proofs.Common.{arith}
use Rattle.std.proofs.lemmas.List.{get_or_read}
use Rattle.zd_alloc.proofs.LeastTreeLaws.{no_place, least_place}
use Rattle.zd_alloc.proofs.least_tree.LeastTree.least.Goals as goal

pub returns-then-least-clause-none : goal.returns-then-least-clause-none
returns-then-least-clause-none c =
    let nodes = c.self.inside.nodes.items in
    let root = get_or_read nodes 1 c.index-least.result.now (omega arith) c.index-least.ensures 0 in
    rw (← c.self.view_is) (no_place c.self.inside.count nodes c.self.invariant (omega (arith, root)))

pub returns-clause-some : goal.returns-clause-some
returns-clause-some c =
    let nodes = c.self.inside.nodes.items in
    let root = get_or_read nodes 1 c.index-least.result.now (omega arith) c.index-least.ensures 0 in
    rw (← c.self.view_is)
    (least_place c.self.inside.count nodes c.loop-i.i c.self.invariant (omega (arith, root)) (omega arith) (omega arith) (omega (arith, root)))
