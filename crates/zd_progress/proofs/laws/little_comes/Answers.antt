use Rattle.zd_progress.proofs.Bounds.{are_few, commit_few}
use Rattle.zd_progress.proofs.LoneLaws.{step_spends}
use Rattle.zd_progress.proofs.laws.little_comes.Goals as goal

pub returns-clause-few : goal.returns-clause-few
returns-clause-few c first j k r some is =
    let few = are_few first j k r some is in
    (few.jobs, few.commits, few.calls)

pub returns-clause-no_more : goal.returns-clause-no_more
returns-clause-no_more c = step_spends

pub returns-clause-commit : goal.returns-clause-commit
returns-clause-commit c = commit_few
