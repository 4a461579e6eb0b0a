use Rattle.zd_volume.proofs.AbandonLaws.{kept_abandon}
use Rattle.zd_state.proofs.volume.Volume.abandon.Goals as goal

pub invariant_of-self : goal.invariant_of-self
invariant_of-self g c =
    kept_abandon c.self.inside.state.plain c.give_up.new.self.plain (g.D.ZonedDisk.view c.self.inside.opening.value)
    (g.D.ZonedDisk.view c.self.inside.disk) c.self.invariant c.give_up.ensures.given_up
