use Rattle.std.proofs.Common.{◌∙◌, ℕ, Bool, List, ap, false, replicate, subst}
use Rattle.zd_alloc.specs.Zones.{IsStart}
use Rattle.zd_state.specs.Started.{ClassesBelow}
use Rattle.zd_state.proofs.StartValues.{started_of}
use Rattle.zd_state.proofs.start.start_values.Goals as goal

pub returns : goal.returns
returns c =
    started_of _ _ _ _ _ _ _ _ _ _ _ _ c.in_ok-tables.ensures (c.of-committed.ensures ∙ c.blocks-2.ensures.value)
    (c.in_ok-dirty.ensures ∙ ap (λ (n : ℕ). replicate n false) c.used_blocks.ensures) c.new-3.ensures
    c.in_ok-named.ensures
    (subst (λ (flags : List Bool). IsStart c.args.geometry c.args.head.layout flags c.in_ok-division.division)
    c.deref.ensures.value c.in_ok-division.ensures)
    (subst (λ (ps : List ℕ). ClassesBelow c.in_ok-tables.tables ps c.in_ok-tables.tables.layout.chunks
    c.in_ok-candidates.candidates) c.deref-2.ensures.value c.in_ok-candidates.ensures)
    c.in_ok-buffer.ensures
