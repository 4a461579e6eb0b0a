use Rattle.std.proofs.Common.{◌∙◌}
use Rattle.zd_sets.specs.Choice.{chosen_of}
use Rattle.zd_check.proofs.CompareLaws.{both_sets}
use Rattle.zd_check.proofs.checking.check.Goals as goal

pub returns-in-Ok-clause-ok : goal.returns-in-Ok-clause-ok
returns-in-Ok-clause-ok g c image z =
    let examined = c.in_ok-image.ensures.ok image z in
    let others = c.in-Ok.ensures.value image (c.examine.ensures.reads.zones ∙ z) in
    record {
      set = chosen_of c.in_ok-image.image.chosen;
      well_formed = examined.well_formed;
      compares = c.compare.ensures image
          (both_sets _ _ _ _ _ image examined (rw c.used_blocks-used.ensures at others));
    }
