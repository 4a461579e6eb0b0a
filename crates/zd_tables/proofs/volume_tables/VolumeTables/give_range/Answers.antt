-- A range is given its bit in the first part, then in the second.
use Rattle.std.proofs.Common.{◌+◌, arith}
use Rattle.zd_tables.proofs.TableSteps.{range_given}
use Rattle.zd_tables.proofs.volume_tables.VolumeTables.give_range.Goals as goal

pub returns : goal.returns
returns c =
    let at = c.part-part.ensures in
    let one = c.give_part-first.ensures in
    let two = c.give_part-second.ensures in
    let given = range_given c.args.bit c.args.zone c.args.from (c.args.from + c.args.count) c.part-part.result
    c.min.result c.min-2.result c.max.result c.max-2.result
    c.args.self.now c.give_part-first.new.self c.give_part-second.new.self c.give_part-first.result
    c.give_part-second.result
    at.shape at.fits c.requires.zone (omega arith) c.requires.inside at.value
    c.min.ensures c.min-2.ensures c.max.ensures c.max-2.ensures one.blocks one.same two.blocks two.same in
    record { blocks = given.0; tables = given.1; parts = given.2; same = given.3 }
