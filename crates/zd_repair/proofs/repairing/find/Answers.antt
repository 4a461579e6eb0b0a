use Rattle.std.proofs.Common.{◌∙◌, subst}
use Rattle.zd_sets.specs.Choice.{ExplainsChoice}
use Rattle.zd_sets.specs.declared.choice.SetFault.{SetFault}
use Rattle.zd_repair.proofs.repairing.find.Goals as goal

pub returns-in-Err-NoSuperBlock-clause-err : goal.returns-in-Err-NoSuperBlock-clause-err
returns-in-Err-NoSuperBlock-clause-err g c image z =
    subst (λ (fault : SetFault). ExplainsChoice fault image) c.in-Err-NoSuperBlock.field-0-is (c.in-Err-NoSuperBlock.ensures.err image z)

pub returns-in-Err-Layout-clause-err : goal.returns-in-Err-Layout-clause-err
returns-in-Err-Layout-clause-err g c image z =
    subst (λ (fault : SetFault). ExplainsChoice fault image) c.in-Err-Layout.field-0-is (c.in-Err-Layout.ensures.err image z)

pub returns-in-Ok-read_pointers-clause-value : goal.returns-in-Ok-read_pointers-clause-value
returns-in-Ok-read_pointers-clause-value g c image z =
    let here = c.choose.ensures.reads.zones ∙ z in (
      c.in-Ok.ensures.ok image z,
      c.in-Ok-read_set.ensures.value image here,
      c.in-Ok-read_pointers.ensures.value image (c.read_set.ensures.reads.zones ∙ here),
    )
