-- The entries before entry i were counted.
use Rattle.std.proofs.Common.{take}
use Rattle.zd_report.specs.Counting.{AreCounts}
use Rattle.zd_report.proofs.summaries.counts_of.Given as goal

abbrev pub invariant-loop-i : goal.invariant-loop-i
invariant-loop-i l = AreCounts (take l.i l.history.items) l.counts
