use Rattle.std.proofs.Common.{◌<◌}
use Rattle.std.specs.List.{All}
use Rattle.zd_workers.specs.Turns.{IsWaiting, constant_at}
use Rattle.zd_workers.proofs.run.actors_at.Given as goal

abbrev pub invariant-loop-number : goal.invariant-loop-number
invariant-loop-number g l = IsWaiting l.turn.table.shared.table_id (constant_at l.initial.seat) l.seat
    × All (λ a. IsWaiting l.turn.table.shared.table_id (constant_at l.initial.seat) a.seat × (a.number < l.actors)) l.all.items
