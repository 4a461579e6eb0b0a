use Rattle.std.proofs.Common.{◌≡◌, ◌≤◌, ◌+◌}
use Rattle.zd_volume.specs.Uses.{dirty_from}
use Rattle.zd_state.proofs.marks.count_dirty.Given as goal

abbrev pub invariant-loop-i : goal.invariant-loop-i
invariant-loop-i l = (l.count + 1 ≤ l.i) × (l.count + dirty_from l.dirty l.i ≡ dirty_from l.dirty 1)
