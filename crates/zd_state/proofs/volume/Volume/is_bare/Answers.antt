use Rattle.zd_state.proofs.PromotionSteps.{bare_or_not}
use Rattle.zd_state.proofs.volume.Volume.is_bare.Goals as goal

pub returns : goal.returns
returns g c =
    rw (← c.self.view_is, c.is_some.ensures)
    (bare_or_not c.self.inside.state.plain c.args.chunk c.bare_zones.result c.bare_zones.ensures.some
    c.bare_zones.ensures.none)
