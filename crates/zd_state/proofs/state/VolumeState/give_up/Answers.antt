use Rattle.std.proofs.Common.{refl}
use Rattle.zd_state.proofs.state.VolumeState.give_up.Goals as goal

pub returns-clause-given_up : goal.returns-clause-given_up
returns-clause-given_up c =
    let gave = c.give_back.ensures in
    rw (← c.self.view_is)
    (record { taken = gave.taken; others = gave.others; conv = gave.conv; order = gave.order; rest = refl })
