use Rattle.zd_state.proofs.ClosedLaws.{closed_left}
use Rattle.zd_state.proofs.volume.Volume.closed.Goals as goal

pub returns : goal.returns
returns g c =
    let runs = rw (← c.self.view_is) at c.requires.running in
    let idle = rw (← c.self.view_is) at c.requires.idle in
    let committed = rw (← c.self.view_is) at c.requires.committed in
    let durable = rw (← c.self.view_is) at c.requires.durable in
    rw (← c.self.view_is) (λ small r there.
    closed_left c.self.inside.state.plain (g.D.ZonedDisk.view c.self.inside.opening.value)
    (g.D.ZonedDisk.view c.self.inside.disk) c.self.invariant runs idle committed durable small r there)
