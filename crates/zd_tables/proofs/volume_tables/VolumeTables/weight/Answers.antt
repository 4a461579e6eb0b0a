-- The weight of both parts together.
use Rattle.std.proofs.Common.{arith}
use Rattle.zd_tables.specs.Held.{tables_held}
use Rattle.zd_tables.proofs.ZoneCounts.{weight_few, weight_is}
use Rattle.zd_tables.proofs.volume_tables.VolumeTables.weight.Goals as goal

pub overflow_add-result : goal.overflow_add-result
overflow_add-result c =
    let is = c.counts_of.ensures in
    let few = weight_few c.args.self.now.geometry.zone_blocks
    (tables_held c.args.self.now) c.args.zone c.counts_of.result.0 c.counts_of.result.1 is.first is.second in
    record { fits = omega (arith, few, is.shape.size.most) }

pub returns : goal.returns
returns c =
    let is = c.counts_of.ensures in
    weight_is c.args.self.now.geometry.zone_blocks
    (tables_held c.args.self.now) c.args.zone c.counts_of.result.0 c.counts_of.result.1 is.first is.second
