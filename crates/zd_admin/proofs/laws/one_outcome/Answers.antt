use Rattle.zd_admin.proofs.CauseLaws.{one_outcome}
use Rattle.zd_admin.proofs.laws.one_outcome.Goals as goal

pub returns : goal.returns
returns c = one_outcome
