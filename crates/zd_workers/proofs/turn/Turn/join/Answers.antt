use Rattle.std.proofs.Common.{rules}
use Rattle.zd_workers.proofs.Kept.{joins}
use Rattle.zd_workers.proofs.turn.Turn.join.Goals as goal

pub join_seat-requires : goal.join_seat-requires
join_seat-requires g c = (search rules, search rules, search rules, search rules, joins g.T.Stepper.constant _ _ _ _ (search rules))
