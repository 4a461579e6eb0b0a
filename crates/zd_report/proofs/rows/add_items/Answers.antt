use Rattle.std.proofs.Common.{◌<◌, ◌-◌, ◌+◌, ◌/◌, ℕ, List, ◌++◌, length, ◌∙◌, sym, ap, arith}
use Rattle.std.specs.Prelude.{string_bytes}
use Rattle.zd_model.specs.Report.{Row, with_first}
use Rattle.zd_report.specs.Rows.{row_told, rows_text}
use Rattle.zd_report.proofs.Items.{rest_rows, first_rows, one_less}
use Rattle.zd_report.proofs.rows.add_items.Goals as goal

pub loop-i-init : goal.loop-i-init
loop-i-init c =
    let sectors = length c.args.bytes.now / 512 in
    let rest = rest_rows c.args.first c.args.bytes.now 1 (sectors - 1) in
    let some : 0 < sectors = omega arith in
    record {
      owed = ap (λ (xs : List ℕ). string_bytes c.args.text.now ++ xs) (first_rows c.args.first c.args.bytes.now some ∙ ap (λ (r : Row). rows_text (with_first r rest)) (sym c.kind_at.ensures));
      count = omega arith;
    }

pub loop-i-preserved : goal.loop-i-preserved
loop-i-preserved c =
    let sectors = length c.args.bytes.now / 512 in
    let rest = rest_rows c.args.first c.args.bytes.now (c.loop-i.i + 1) (sectors - (c.loop-i.i + 1)) in
    let more : c.loop-i.i < sectors = omega arith in
    record {
      owed = c.loop-i.invariant.owed
          ∙ ap (λ (rows : List Row). string_bytes c.loop-i.text ++ rows_text (with_first (row_told c.loop-i.row) rows)) (one_less c.args.first c.args.bytes.now c.loop-i.i sectors more ∙ ap (λ (r : Row). with_first r rest) (sym c.kind_at-in-loop-i.ensures))
          ∙ c.in_ok-row.ensures.owed rest;
      count = omega (arith, c.in_ok-row.ensures.count, c.loop-i.invariant.count);
    }
