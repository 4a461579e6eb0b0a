use Rattle.zd_routes.proofs.KeptPromotions.{kept_promoted}
use Rattle.zd_state.proofs.PromotionSteps.{bare_found, found_bare}
use Rattle.zd_state.proofs.volume.Volume.promote.Goals as goal

pub unwrap-zone-requires : goal.unwrap-zone-requires
unwrap-zone-requires g c =
    let bare = rw (← c.self.view_is) at c.requires.bare in
    found_bare c.self.inside.state.plain c.args.chunk c.bare_zones.result c.bare_zones.ensures.none bare.0 bare.1 bare.2

pub invariant_of-self : goal.invariant_of-self
invariant_of-self g c =
    let v = c.self.inside.state.plain in
    kept_promoted v c.raise_buffer.new.self.plain c.args.chunk c.unwrap-zone.result.0 c.unwrap-zone.result.1
    (g.D.ZonedDisk.view c.self.inside.opening.value) (g.D.ZonedDisk.view c.self.inside.disk)
    (rw (← c.self.view_is) at c.requires.running) c.self.invariant (rw (← c.self.view_is) at c.requires.idle)
    (rw (← c.self.view_is) at c.requires.job)
    (bare_found v c.args.chunk c.bare_zones.result c.unwrap-zone.result c.unwrap-zone.ensures c.bare_zones.ensures.some)
    c.raise_buffer.ensures.promoted
