use Rattle.std.proofs.Common.{◌<◌, length, arith}
use Rattle.zd_jobs.proofs.WorkLaws.{target_low}
use Rattle.zd_state.proofs.state.VolumeState.note_copy.Goals as goal

pub move_pointer-requires : goal.move_pointer-requires
move_pointer-requires c =
    let low = target_low c.args.self.now.plain c.args.work.now c.requires.fixed c.requires.job c.args.zone
    c.requires.target in
    let size = c.requires.fixed.pointers in
    let inside : c.args.zone < length c.args.self.now.plain.pointers = omega (arith, low, size) in
    record { zone = rw (← c.self.view_is) at inside }
