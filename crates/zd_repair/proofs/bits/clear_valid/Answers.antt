use Rattle.std.proofs.Common.{◌≡◌, ◌+◌, ◌-◌, ℕ, ap, subst, arith, false, ◌∙◌}
use Rattle.zd_base.specs.Geometry.{Shape}
use Rattle.zd_tables.specs.Changes.{ChangesBits}
use Rattle.zd_tables.specs.Held.{tables_held, valid_count}
use Rattle.zd_repair.proofs.FewerBits.{count_low, range_invalid, total_less}
use Rattle.zd_repair.proofs.bits.clear_valid.Goals as goal

pub returns-clause-bits : goal.returns-clause-bits
returns-clause-bits c =
    let t = c.args.tables.now in
    let new = c.clear_range-parts.new.self in
    let end : c.args.from + (c.args.end - c.args.from) ≡ c.args.end = omega (arith, c.requires.order) in
    let changes = subst (λ (n : ℕ). ChangesBits false c.args.zone c.args.from n (tables_held t) (tables_held new)) end c.clear_range-parts.ensures.tables in
    range_invalid t.geometry (tables_held t) (tables_held new) c.args.zone c.args.from c.args.end c.requires.order changes

pub overflow_sub-result : goal.overflow_sub-result
overflow_sub-result c =
    let t = c.args.tables.now in
    let new = c.clear_range-parts.new.self in
    let end : c.args.from + (c.args.end - c.args.from) ≡ c.args.end = omega (arith, c.requires.order) in
    let changes = subst (λ (n : ℕ). ChangesBits false c.args.zone c.args.from n (tables_held t) (tables_held new)) end c.clear_range-parts.ensures.tables in
    let low = count_low t.geometry (tables_held t) (tables_held new) c.args.zone c.args.from c.args.end c.requires.order changes in
    let now = c.weight.ensures ∙ ap (λ (g : Shape). valid_count g.zone_blocks (tables_held new) c.args.zone) c.clear_range-parts.ensures.same.geometry in
    omega (arith, low, now, c.weight-before.ensures)

pub returns-clause-count : goal.returns-clause-count
returns-clause-count c =
    let t = c.args.tables.now in
    let new = c.clear_range-parts.new.self in
    let end : c.args.from + (c.args.end - c.args.from) ≡ c.args.end = omega (arith, c.requires.order) in
    let changes = subst (λ (n : ℕ). ChangesBits false c.args.zone c.args.from n (tables_held t) (tables_held new)) end c.clear_range-parts.ensures.tables in
    let low = count_low t.geometry (tables_held t) (tables_held new) c.args.zone c.args.from c.args.end c.requires.order changes in
    let now = c.weight.ensures ∙ ap (λ (g : Shape). valid_count g.zone_blocks (tables_held new) c.args.zone) c.clear_range-parts.ensures.same.geometry in
    total_less t.geometry (tables_held t) (tables_held new) c.args.zone c.args.from c.args.end c.requires.order changes
    (c.weight-before.result - c.weight.result) c.requires.zone (omega (arith, low, now, c.weight-before.ensures))
