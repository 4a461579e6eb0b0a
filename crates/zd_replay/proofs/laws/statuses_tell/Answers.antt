use Rattle.zd_replay.proofs.EndLaws.{statuses_tell}
use Rattle.zd_replay.proofs.laws.statuses_tell.Goals as goal

pub returns : goal.returns
returns c = statuses_tell
