use Rattle.zd_progress.proofs.Loops.{whole_run}
use Rattle.zd_examples.specs.Loops.{flush_begun, flush_over}
use Rattle.zd_examples.proofs.LoopRuns.{flush_fresh, flush_whole}
use Rattle.zd_examples.proofs.runs.flush_run_examples.Goals as goal

pub returns-clause-fresh : goal.returns-clause-fresh
returns-clause-fresh c = flush_fresh

pub returns-clause-whole : goal.returns-clause-whole
returns-clause-whole c = flush_whole

pub returns-clause-promised : goal.returns-clause-promised
returns-clause-promised c = whole_run flush_begun flush_over flush_fresh flush_whole
