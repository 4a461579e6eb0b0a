use Rattle.std.proofs.Common.{rules}
use Rattle.zd_workers.proofs.Kept.{releases}
use Rattle.zd_workers.proofs.turn.Turn.put_back.Goals as goal

pub swap-requires : goal.swap-requires
swap-requires g c = (search rules, search rules, releases g.T.Stepper.constant _ _ _ c.args.stepper (search rules) (search rules) (search rules))
