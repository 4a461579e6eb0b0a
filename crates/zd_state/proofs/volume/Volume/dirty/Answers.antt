use Rattle.zd_state.proofs.volume.Volume.dirty.Goals as goal

pub returns : goal.returns
returns g c = rw (← c.self.view_is) c.count_dirty.ensures
