use Rattle.std.proofs.Common.{◌∙◌, ℕ, ◌+◌, ◌*◌, List, ap, ap₂, arith, Option}
use Rattle.zd_model.specs.Tables.{entry_at}
use Rattle.zd_map.proofs.EntryLaws.{none_named}
use Rattle.zd_map.proofs.blank.Goals as goal

pub returns-clause-entries : goal.returns-clause-entries
returns-clause-entries c i inside =
    ap (λ (l : List ℕ). entry_at l i) c.copy_from_slice.ensures.after
    ∙ ap₂ (λ (zone buffer : Option ℕ). record { zone = zone; buffer = buffer })
    (none_named (8 * i) (omega arith)) (none_named (8 * i + 4) (omega arith))
