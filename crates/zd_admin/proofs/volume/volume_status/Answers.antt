use Rattle.zd_admin.proofs.ShownLaws.{shown_of}
use Rattle.zd_admin.proofs.volume.volume_status.Goals as goal

pub returns-clause-ok : goal.returns-clause-ok
returns-clause-ok g c image told =
    shown_of c.in_ok-image.image.geometry c.in_ok-image.image.chosen c.in_ok-image.image.blocks c.in_ok-image.image.pointers.items image
    (c.in_ok-image.ensures.ok image told) c.status_of.result c.status_of.ensures.head c.status_of.ensures.counts
