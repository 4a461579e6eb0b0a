use Rattle.std.proofs.Common.{◌/◌, ◌%◌, ◌∙◌, arith}
use Rattle.zd_read.proofs.RunLaws.{names_place}
use Rattle.zd_read.proofs.run.run_of.Goals as goal

pub place_of-place-requires : goal.place_of-place-requires
place_of-place-requires g c z is =
    let some = c.run_at-zone.ensures.some in
    rw c.entry.ensures (names_place c.args.v.now.plain (c.args.block / c.from-zone_blocks.result)
    (c.args.block % c.from-zone_blocks.result) z
    (c.run_at-zone.ensures.same (c.args.block % c.from-zone_blocks.result) (omega arith) (omega (arith, some)) ∙ is))
