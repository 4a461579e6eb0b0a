use Rattle.zd_progress.proofs.AloneLaws.{none_else, tells, waiting}
use Rattle.zd_progress.proofs.laws.steps_tell.Goals as goal

pub returns-clause-waiting : goal.returns-clause-waiting
returns-clause-waiting c q entered v actor l is before alone seen = waiting q is entered before v actor alone l seen

pub returns-clause-next : goal.returns-clause-next
returns-clause-next c q entered v actor l is before alone seen runs left =
    tells q is entered before v actor alone l seen runs left

pub returns-clause-others : goal.returns-clause-others
returns-clause-others c = none_else
