use Rattle.zd_volume.proofs.DropLaws.{kept_drop}
use Rattle.zd_state.proofs.volume.Volume.unmap_range.Goals as goal

pub invariant_of-self : goal.invariant_of-self
invariant_of-self g c =
    let v = c.self.inside.state.plain in
    kept_drop v c.drop_range.new.self.plain c.args.piece.now (g.D.ZonedDisk.view c.self.inside.opening.value)
    (g.D.ZonedDisk.view c.self.inside.disk) (rw (← c.self.view_is) at c.requires.running) c.self.invariant
    (rw (← c.self.view_is) at c.requires.idle) (rw (← c.self.view_is) at c.requires.piece)
    (rw (← c.self.view_is) at c.requires.job) c.drop_range.ensures.dropped
