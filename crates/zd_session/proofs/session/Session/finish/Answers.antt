use Rattle.std.proofs.Common.{◌≡◌, subst, sym, true, vec_capacity}
use Rattle.zd_session.specs.SessionEnds.{FinishesSession}
use Rattle.zd_session.specs.Sessions.{SessionView, ended_of}
use Rattle.zd_session.proofs.FinishLaws.{finishes}
use Rattle.zd_session.proofs.session.Session.finish.Goals as goal

pub returns : goal.returns
returns g c =
    let look = g.D.ZonedDisk.view in
    let inside = c.self.inside in
    let history = c.into_parts-history.result.0.items in
    let disk = c.into_parts-history.result.1 in
    let ending = c.end-ending.result in
    subst (λ (s : SessionView _). FinishesSession look s history disk ending) c.self.view_is
    (finishes look inside.volume inside.plan.items inside.progress (vec_capacity inside.list) c.self.invariant
    c.known.ensures.queue (subst (λ (s : SessionView _). ended_of s ≡ true) (sym c.self.view_is) c.requires)
    c.end-ending.new.volume ending c.end-ending.ensures.ends c.end-ending.ensures.opening c.end-ending.ensures.closed
    c.shown.ensures history disk c.into_parts-history.ensures.history c.into_parts-history.ensures.disk)
