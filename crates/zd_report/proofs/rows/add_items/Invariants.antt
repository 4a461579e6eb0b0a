-- the row so far and the sectors that are left give what is owed
use Rattle.std.proofs.Common.{◌≡◌, ◌≤◌, ◌-◌, ◌++◌}
use Rattle.std.specs.Prelude.{string_bytes}
use Rattle.zd_model.specs.Report.{with_first, items_text}
use Rattle.zd_report.specs.Rows.{row_told, rows_text}
use Rattle.zd_report.proofs.Items.{rest_rows}
use Rattle.zd_report.proofs.rows.add_items.Given as goal

abbrev pub invariant-loop-i : goal.invariant-loop-i
invariant-loop-i l = record {
  owed : string_bytes l.initial.text ++ items_text l.first l.bytes ≡ string_bytes l.text ++ rows_text (with_first (row_told l.row) (rest_rows l.first l.bytes l.i (l.sectors - l.i)));
  count : l.row.count ≤ l.i;
}
