use Rattle.zd_session.proofs.StandingLaws.{job_due}
use Rattle.zd_session.proofs.asked.AskedHasStanding.job_due.Goals as goal

pub returns : goal.returns
returns g c = job_due c.args.self.now.volume.now.plain c.sound.ensures c.args.wanted c.due.result c.due.ensures
