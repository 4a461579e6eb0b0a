use Rattle.zd_state.proofs.volume.Volume.safe.Goals as goal

pub returns-clause-safe : goal.returns-clause-safe
returns-clause-safe g c = rw (← c.self.view_is) c.self.invariant.safe

pub returns-clause-earlier : goal.returns-clause-earlier
returns-clause-earlier g c = rw (← c.self.view_is) c.self.invariant.earlier
