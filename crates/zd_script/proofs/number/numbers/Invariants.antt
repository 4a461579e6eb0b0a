use Rattle.std.proofs.Common.{◌≡◌, length, take}
use Rattle.zd_script.proofs.FieldLaws.{HasFields}
use Rattle.zd_script.proofs.number.numbers.Given as goal

abbrev pub invariant-loop-value : goal.invariant-loop-value
invariant-loop-value g l = record {
  size : length l.value-items ≡ g.row.N;
  fields : HasFields g.row.N l.text l.rest l.value-index (take l.value-index l.value-items);
}
