use Rattle.std.proofs.Common.{rules}
use Rattle.zd_workers.proofs.Kept.{splits}
use Rattle.zd_workers.proofs.turn.Turn.seat.Goals as goal

pub split_seat-requires : goal.split_seat-requires
split_seat-requires g c = (search rules, search rules, splits g.T.Stepper.constant _ _ (search rules))
