use Rattle.std.proofs.Common.{subst, vec_capacity}
use Rattle.zd_session.specs.Constants.{WaitsForOthers}
use Rattle.zd_session.specs.Moving.{seen_by}
use Rattle.zd_session.specs.Sessions.{SessionView}
use Rattle.zd_session.proofs.LoneStands.{stands_so}
use Rattle.zd_session.proofs.WaitsLaws.{waits_so}
use Rattle.zd_session.proofs.session.Session.waits.Goals as goal

pub returns : goal.returns
returns g c =
    subst (λ (s : SessionView g.row.D.Denot). WaitsForOthers s) c.self.view_is
    (waits_so g.D.ZonedDisk.view (seen_by c.self.inside.volume c.self.inside.plan.items c.self.inside.progress)
    (stands_so g.D.ZonedDisk.view c.self.inside.volume c.self.inside.plan.items c.self.inside.progress
    (vec_capacity c.self.inside.list) c.self.invariant c.known.ensures.volume.fixed c.known.ensures.queue))
