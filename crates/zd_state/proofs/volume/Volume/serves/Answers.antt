use Rattle.zd_volume.proofs.ServesLaws.{serves_last}
use Rattle.zd_state.proofs.volume.Volume.serves.Goals as goal

pub returns-clause-served : goal.returns-clause-served
returns-clause-served g c =
    rw (← c.self.view_is) (λ runs image there.
    serves_last c.self.inside.state.plain (g.D.ZonedDisk.view c.self.inside.opening.value)
    (g.D.ZonedDisk.view c.self.inside.disk) c.self.invariant runs image there)
