use Rattle.zd_session.proofs.StandLaws.{stands}
use Rattle.zd_session.proofs.serving.known.Goals as goal

pub returns-clause-volume : goal.returns-clause-volume
returns-clause-volume g c =
    stands g.D.ZonedDisk.view c.args.volume.now c.sound.ensures c.shows.ensures c.serves.ensures.served
