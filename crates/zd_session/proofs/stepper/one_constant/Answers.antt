use Rattle.zd_session.proofs.ConstantLaws.{one_session}
use Rattle.zd_session.proofs.stepper.one_constant.Goals as goal

pub returns : goal.returns
returns g c = λ from to is. one_session g.D.ZonedDisk.view from to is
