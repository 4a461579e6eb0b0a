-- So many chunks have their new numbers, and no more than the others have greater ones.
use Rattle.std.proofs.Common.{◌≡◌, ◌+◌, ◌≤◌}
use Rattle.zd_alloc.specs.Candidates.{KeepsRising, count_from}
use Rattle.zd_alloc.proofs.candidates.Candidates.renumber.Given as goal

abbrev pub invariant-loop-rank : goal.invariant-loop-rank
invariant-loop-rank l = record {
  rises : KeepsRising l.fn.self.numbers l.self.numbers;
  classes : l.self.classes ≡ l.fn.self.classes;
  left : count_from l.rank l.self.numbers + l.rank ≤ l.chunks;
}
