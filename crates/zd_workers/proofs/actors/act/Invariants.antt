use Rattle.zd_workers.specs.Turns.{IsWaiting, constant_at}
use Rattle.zd_workers.proofs.actors.act.Given as goal

abbrev pub invariant-loop : goal.invariant-loop
invariant-loop g l = IsWaiting l.turn.table.shared.table_id (constant_at l.initial.seat) l.seat
