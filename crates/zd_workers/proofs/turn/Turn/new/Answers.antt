use Rattle.std.proofs.Common.{rules}
use Rattle.zd_workers.proofs.Kept.{starts, opens, releases}
use Rattle.zd_workers.proofs.turn.Turn.new.Goals as goal

pub vacant-requires : goal.vacant-requires
vacant-requires g c = starts g.T.Stepper.constant (g.T.Stepper.constant c.of-about.result.value)

pub swap-requires : goal.swap-requires
swap-requires g c = (search rules, search rules, opens g.T.Stepper.constant _ _ _ (search rules))

pub swap-requires-2 : goal.swap-requires-2
swap-requires-2 g c = (search rules, search rules, releases g.T.Stepper.constant _ _ _ c.args.stepper (search rules) (search rules) (search rules))
