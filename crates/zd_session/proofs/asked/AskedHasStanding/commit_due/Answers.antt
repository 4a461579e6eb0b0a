use Rattle.zd_session.proofs.StandingLaws.{commit_due}
use Rattle.zd_session.proofs.asked.AskedHasStanding.commit_due.Goals as goal

pub returns : goal.returns
returns g c = commit_due c.args.self.now.volume.now.plain c.args.flush_waits c.args.wanted c.due.result c.due.ensures
