use Rattle.std.proofs.Common.{◌≡◌, ◌≤◌, ◌+◌, ◌++◌, take, if◌then◌else◌}
use Rattle.zd_model.specs.Plain.{Answer as answers}
use Rattle.zd_volume.specs.Commits.{flush_entries}
use Rattle.zd_state.proofs.marks.enter_flushes.Given as goal

abbrev pub invariant-loop-i : goal.invariant-loop-i
invariant-loop-i l =
    (l.history.items ≡ l.fn.history.items
    ++ flush_entries (if l.done then answers.Done else answers.Fault) l.at (take l.i l.flushes))
    × (l.fn.history.room ≤ l.history.room + l.i)
