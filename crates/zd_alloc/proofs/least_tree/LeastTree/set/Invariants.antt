-- The places have their numbers. Each node is the least of its two, but the one above node i.
use Rattle.std.proofs.Common.{◌≡◌, ◌*◌, ◌<◌, ◌/◌, ◌-◌, length, drop, set}
use Rattle.zd_alloc.proofs.LeastTreeLaws.{AreLeastBut}
use Rattle.zd_alloc.proofs.least_tree.LeastTree.set.Given as goal

abbrev pub invariant-loop-i : goal.invariant-loop-i
invariant-loop-i l =
    let nodes = l.self-inside.nodes.items in
    let count = l.self-inside.count in
    record {
      some : 0 < l.i;
      inside : l.i < 2 * count;
      same : count ≡ l.initial.self-inside.count;
      size : length nodes ≡ 2 * count;
      least : AreLeastBut (l.i / 2) count nodes;
      places : drop count nodes ≡ set l.fn.self l.place l.number;
    }

abbrev pub decreases-loop-i : goal.decreases-loop-i
decreases-loop-i l = l.i - 1
