use Rattle.std.proofs.Common.{◌∙◌}
use Rattle.zd_volume.proofs.ServesLaws.{pointer_held}
use Rattle.zd_state.proofs.volume.Volume.pointer.Goals as goal

pub returns-clause-disk : goal.returns-clause-disk
returns-clause-disk g c =
    let runs = rw (← c.self.view_is) at c.requires.running in
    let zone = rw (← c.self.view_is) at c.requires.zone in
    rw (← c.self.view_is) (λ seq image there.
    c.pointer.ensures
    ∙ pointer_held c.self.inside.state.plain (g.D.ZonedDisk.view c.self.inside.opening.value)
    (g.D.ZonedDisk.view c.self.inside.disk) c.self.invariant runs c.args.zone seq zone image there)
