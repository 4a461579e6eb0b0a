use Rattle.zd_volume.proofs.EntryKeeps.{kept_range}
use Rattle.zd_volume.proofs.Still.{only_nothing}
use Rattle.zd_volume.specs.Volumes.{IsKeptVolume, PlainVolume}
use Rattle.std.proofs.Common.{sym, subst}
use Rattle.zd_state.proofs.volume.Volume.enter.Goals as goal

pub invariant_of-self : goal.invariant_of-self
invariant_of-self g c =
    let running = rw (← c.self.view_is) at c.requires.running in
    let past = rw (← c.self.view_is) at c.requires.range in
    let now = g.D.ZonedDisk.view c.self.inside.disk in
    subst (λ (w : PlainVolume). IsKeptVolume w (g.D.ZonedDisk.view c.self.inside.opening.value)
    (g.D.ZonedDisk.view c.self.inside.disk)) (sym c.enter.ensures.plain)
    (kept_range c.self.inside.state.plain (g.D.ZonedDisk.view c.self.inside.opening.value) now now running
    (only_nothing now) c.self.invariant c.args.piece.now past)
