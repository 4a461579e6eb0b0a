use Rattle.zd_reclaim.proofs.PickRows.{full_row, later_row, none_row, older_row, turn_row}
use Rattle.zd_reclaim.proofs.rows.pick_rows.Goals as goal

pub returns : goal.returns
returns c = record {
  older = older_row;
  turn = turn_row;
  full = full_row;
  later = later_row;
  none = none_row;
}
