use Rattle.std.proofs.Common.{◌≤◌, length}
use Rattle.zd_steps.specs.Queues.{AreLinkedFrom}
use Rattle.zd_steps.proofs.heads.link_all.Given as goal

abbrev pub invariant-loop-i : goal.invariant-loop-i
invariant-loop-i l = record {
  inside : l.i ≤ length l.pieces;
  linked : AreLinkedFrom l.pieces l.links.items l.heads l.i;
}
