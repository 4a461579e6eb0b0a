use Rattle.zd_progress.proofs.Loops.{whole_run}
use Rattle.zd_examples.specs.Loops.{move_begun, move_over}
use Rattle.zd_examples.proofs.LoopRuns.{move_fresh, move_whole}
use Rattle.zd_examples.proofs.runs.move_run_examples.Goals as goal

pub returns-clause-fresh : goal.returns-clause-fresh
returns-clause-fresh c = move_fresh

pub returns-clause-whole : goal.returns-clause-whole
returns-clause-whole c = move_whole

pub returns-clause-promised : goal.returns-clause-promised
returns-clause-promised c = whole_run move_begun move_over move_fresh move_whole
