use Rattle.std.proofs.Common.{ap, get_or, ◌∙◌}
use Rattle.zd_super.specs.declared.table.TheConstants.{TABLE}
use Rattle.zd_super.proofs.StepLaws.{get_or-table}
use Rattle.zd_super.proofs.crc.eight_bits.Goals as goal

pub returns : goal.returns
returns c = ap (λ k. get_or TABLE k 0) c.from.ensures ∙ get_or-table c.args.byte c.ranges.byte.fits
