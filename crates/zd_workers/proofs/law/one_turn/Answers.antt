use Rattle.zd_workers.proofs.Said.{said}
use Rattle.zd_workers.proofs.law.one_turn.Goals as goal

pub returns : goal.returns
returns g c = λ s r. said g.T.Stepper.constant s r
