use Rattle.std.proofs.Common.{◌-◌, ◌≤◌, length}
use Rattle.zd_ports.proofs.SinkLaws.{HoldsMore}
use Rattle.zd_ports.proofs.writing.write_all.Given as goal

-- the sink took the bytes so far
abbrev pub invariant-loop-at : goal.invariant-loop-at
invariant-loop-at g l = record {
  within : l.at ≤ length l.bytes;
  later : g.K.Sink.faults l.fn.out ≤ g.K.Sink.faults l.out;
  held : HoldsMore (g.K.Sink.held l.fn.out) (g.K.Sink.held l.out) l.bytes l.at;
}

abbrev pub decreases-loop-at : goal.decreases-loop-at
decreases-loop-at g l = length l.bytes - l.at
