use Rattle.std.proofs.Common.{ℕ, List, replicate, sym, ap, ◌∙◌}
use Rattle.zd_disk.specs.Steps.{piece}
use Rattle.zd_routes.specs.Edges.{edge_sector}
use Rattle.zd_state.proofs.FilledBlocks.{full_edge, zero_pieces}
use Rattle.zd_state.proofs.filling.put_edge.Goals as goal

pub returns-then-is_empty-clause-sectors : goal.returns-then-is_empty-clause-sectors
returns-then-is_empty-clause-sectors c j few =
    let none = c.is_empty.ensures.0 c.if-is_empty.true in
    let zeros = c.fill.ensures.after (λ y e. e) ∙ ap (λ (n : ℕ). replicate n 0) c.requires.size in
    ap (λ (xs : List ℕ). piece xs j) zeros
    ∙ zero_pieces j few
    ∙ sym (ap (λ (xs : List ℕ). edge_sector xs j) none)

pub returns-else-is_empty-clause-sectors : goal.returns-else-is_empty-clause-sectors
returns-else-is_empty-clause-sectors c j few =
    ap (λ (xs : List ℕ). piece xs j) (c.copy_from_slice.ensures.after ∙ c.bytes.ensures)
    ∙ sym (full_edge c.args.edge.now.items j
    (λ none. let yes = c.is_empty.ensures.1 none in let no = c.if-is_empty.false in cc))
