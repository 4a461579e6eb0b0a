use Rattle.std.proofs.Common.{◌≡◌, None}
use Rattle.zd_commit.specs.Closed.{IsInCommit}
use Rattle.zd_state.specs.Seen.{SameSession}
use Rattle.zd_volume.specs.Commits.{calls_left}
use Rattle.zd_commit.proofs.run.run_commit.Given as goal

abbrev pub invariant-loop-why : goal.invariant-loop-why
invariant-loop-why g l =
    (l.v.plain.stopped ≡ None)
    × IsInCommit l.fn.v.plain l.v.plain (g.D.ZonedDisk.view l.fn.v.disk) (g.D.ZonedDisk.view l.v.disk)
    × SameSession 0 l.fn.v l.v

abbrev pub decreases-loop-why : goal.decreases-loop-why
decreases-loop-why g l = calls_left l.v.plain.dirty l.v.plain.phase
