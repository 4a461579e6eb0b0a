-- Node i has the number of the root.
use Rattle.std.proofs.Common.{◌≡◌, ◌*◌, ◌<◌, ◌-◌, slice_index}
use Rattle.zd_alloc.proofs.least_tree.LeastTree.least.Given as goal

abbrev pub invariant-loop-i : goal.invariant-loop-i
invariant-loop-i l = record {
  some : 0 < l.i;
  inside : l.i < 2 * l.count;
  has : slice_index l.self-inside.nodes.items l.i ≡ l.least;
}

abbrev pub decreases-loop-i : goal.decreases-loop-i
decreases-loop-i l = 2 * l.count - l.i
