use Rattle.std.proofs.Common.{ℕ, refl, sym, ap, ◌∙◌}
use Rattle.zd_model.specs.Report.{row_of}
use Rattle.zd_model.specs.Report.Row.{Pattern}
use Rattle.zd_report.proofs.rows.kind_of.Goals as goal

pub returns-then-is_zeros : goal.returns-then-is_zeros
unfolding row_of
returns-then-is_zeros c = rw (sym c.is_zeros.ensures ∙ c.if-is_zeros.true) refl

pub returns-then-is_pattern : goal.returns-then-is_pattern
unfolding row_of
returns-then-is_pattern c =
    let zeros = sym c.is_zeros.ensures ∙ c.if-is_zeros.false in
    let same = rw c.seed_of-seed.ensures at (sym c.is_pattern.ensures ∙ c.if-is_pattern.true) in
    rw (zeros, same) (ap (λ (seed : ℕ). Pattern seed 1) c.seed_of-seed.ensures)

pub returns : goal.returns
unfolding row_of
returns c =
    let zeros = sym c.is_zeros.ensures ∙ c.if-is_zeros.false in
    let same = rw c.seed_of-seed.ensures at (sym c.is_pattern.ensures ∙ c.if-is_pattern.false) in
    rw (zeros, same) refl
