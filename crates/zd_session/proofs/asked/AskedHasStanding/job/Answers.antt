use Rattle.zd_session.proofs.StandingLaws.{job_next}
use Rattle.zd_session.proofs.asked.AskedHasStanding.job.Goals as goal

pub returns : goal.returns
returns g c = job_next c.args.self.now.volume.now.plain c.next_of_job.result c.next_of_job.ensures
