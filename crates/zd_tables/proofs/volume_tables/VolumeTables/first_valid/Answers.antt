-- The first of the first part, else that of the second.
use Rattle.std.proofs.Common.{◌∙◌, arith}
use Rattle.zd_tables.specs.Held.{tables_held}
use Rattle.zd_tables.proofs.ZoneCounts.{first_part, second_low, second_part}
use Rattle.zd_tables.proofs.volume_tables.VolumeTables.first_valid.Goals as goal

pub after_first-requires : goal.after_first-requires
after_first-requires c n is =
    let counts = c.counts_of.ensures in
    let low = second_low c.args.self.now.geometry.zone_blocks
    (tables_held c.args.self.now) c.args.zone c.counts_of.result.0 c.counts_of.result.1 counts.first
    counts.second n is in
    omega (arith, low, counts.shape.size.most)

pub returns-in-Some : goal.returns-in-Some
returns-in-Some c =
    let counts = c.counts_of.ensures in
    first_part c.args.self.now.geometry.zone_blocks
    (tables_held c.args.self.now) c.args.zone c.counts_of.result.0 c.counts_of.result.1 counts.first counts.second
    c.in-Some.block c.in-Some.is

pub returns-in-None : goal.returns-in-None
returns-in-None c =
    let counts = c.counts_of.ensures in
    c.after_first.ensures
    ∙ second_part c.args.self.now.geometry.zone_blocks
    (tables_held c.args.self.now) c.args.zone c.counts_of.result.0 c.counts_of.result.1 counts.first counts.second
    c.in-None.is
