use Rattle.zd_state.proofs.volume.Volume.shows.Goals as goal

pub returns : goal.returns
returns g c = rw (← c.self.view_is) c.self.invariant.shows
