use Rattle.std.proofs.Common.{◌≡◌, ◌≤◌, ◌-◌, ◌<◌, ℕ, true, false, get_or, length}
use Rattle.zd_state.proofs.marks.next_dirty.Given as goal

abbrev pub invariant-loop-i : goal.invariant-loop-i
invariant-loop-i l = (l.from ≤ l.i) × ((j : ℕ) → l.from ≤ j → j < l.i → get_or l.dirty j true ≡ false)

abbrev pub decreases-loop-i : goal.decreases-loop-i
decreases-loop-i l = length l.dirty - l.i
