use Rattle.std.proofs.Common.{vec_len}
use Rattle.std.specs.List.{All}
use Rattle.zd_workers.specs.Turns.{IsWaiting, constant_at}
use Rattle.zd_workers.proofs.run.join_all.Given as goal

abbrev pub invariant-loop-other : goal.invariant-loop-other
invariant-loop-other g l = IsWaiting l.turn.table.shared.table_id (constant_at l.initial.seat) l.seat × All (IsWaiting l.turn.table.shared.table_id (constant_at l.initial.seat)) l.others.items

abbrev pub decreases-loop-other : goal.decreases-loop-other
decreases-loop-other g l = vec_len l.others
