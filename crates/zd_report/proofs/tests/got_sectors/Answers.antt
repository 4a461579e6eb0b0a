use Rattle.std.proofs.Common.{◌∙◌, arith}
use Rattle.zd_report.proofs.Slices.{each_byte}
use Rattle.zd_report.proofs.tests.got_sectors.Goals as goal

-- the bytes of a slice are bytes
pub entry-requires : goal.entry-requires
entry-requires c =
    let same = c.from.ensures ∙ c.in-Ok-from_slice.ensures.items in
    (rw same (omega arith), rw same (each_byte c.args.bytes.now c.type_inv.bytes))
