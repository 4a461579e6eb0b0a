-- The data zones begin among the conventional ones.
use Rattle.std.proofs.Common.{arith}
use Rattle.zd_alloc.proofs.DivisionLaws.{both_start}
use Rattle.zd_alloc.proofs.alloc.Alloc.new.Goals as goal

pub overflow_mul-first_data : goal.overflow_mul-first_data
overflow_mul-first_data c = record { fits = omega (arith, c.requires.fits.conventional_data, c.conv-conv.ensures.shape.count.most, c.set_zones-first_data.ensures) }

pub returns : goal.returns
returns c =
    both_start c.args.g.now c.args.layout.now c.args.named.now c.in-Ok.conventional c.in-Ok-started.sequential c.in-Ok-new.order
    c.set_zones-first_data.result c.conv-conv.result c.seq.result
    c.set_zones-first_data.ensures c.conv-conv.ensures.value c.seq.ensures.value
    c.in-Ok.ensures.count c.in-Ok-started.ensures.count c.in-Ok.ensures.uses c.in-Ok-started.ensures.uses c.in-Ok-new.ensures
