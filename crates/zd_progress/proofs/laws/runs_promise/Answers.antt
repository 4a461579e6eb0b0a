use Rattle.zd_progress.proofs.Loops.{whole_run}
use Rattle.zd_progress.proofs.laws.runs_promise.Goals as goal

pub returns : goal.returns
returns c = whole_run
