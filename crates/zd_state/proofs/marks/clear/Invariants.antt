use Rattle.std.proofs.Common.{◌≡◌, false, length, take, replicate}
use Rattle.zd_state.proofs.marks.clear.Given as goal

abbrev pub invariant-loop-i : goal.invariant-loop-i
invariant-loop-i l = (length l.flags ≡ length l.fn.flags) × (take l.i l.flags ≡ replicate l.i false)
