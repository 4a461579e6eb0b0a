use Rattle.std.proofs.Common.{arith}
use Rattle.zd_progress.proofs.JobEnds.{fewer_jobs}
use Rattle.zd_progress.proofs.Loops.{less, some_steps, steps_limits}
use Rattle.zd_progress.proofs.laws.runs_end.Goals as goal

pub returns-clause-step : goal.returns-clause-step
returns-clause-step c = less

pub returns-clause-job : goal.returns-clause-job
returns-clause-job c = fewer_jobs

pub returns-clause-run : goal.returns-clause-run
returns-clause-run c n a b steps = omega (arith, some_steps n a b steps)

pub returns-clause-limits : goal.returns-clause-limits
returns-clause-limits c = steps_limits
