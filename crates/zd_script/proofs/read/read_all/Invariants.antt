use Rattle.std.proofs.Common.{◌≡◌, ◌+◌, ◌-◌, ◌≤◌, vec_len}
use Rattle.zd_script.proofs.ReadLaws.{Splits}
use Rattle.zd_script.proofs.read.read_all.Given as goal

abbrev pub invariant-loop-all : goal.invariant-loop-all
invariant-loop-all g l = record {
  room : vec_len l.piece ≡ 65_536;
  size : vec_len l.all ≤ 67_108_864 + 1;
  later : g.S.Source.faults l.fn.from ≤ g.S.Source.faults l.from;
  read : Splits (g.S.Source.left l.fn.from) (g.S.Source.left l.from) l.all.items;
}

abbrev pub decreases-loop-all : goal.decreases-loop-all
decreases-loop-all g l = 67_108_864 + 1 - vec_len l.all
