use Rattle.zd_steps.proofs.EnterLaws.{ordered}
use Rattle.zd_steps.proofs.laws.heads_keep_order.Goals as goal

pub returns : goal.returns
returns c z blocks plan h history same entered = ordered z blocks plan h history same entered
