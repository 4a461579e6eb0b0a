use Rattle.std.proofs.Common.{◌≡◌, ◌+◌, ◌-◌, ◌≤◌}
use Rattle.zd_tables.specs.Held.{SamePlace, tables_held}
use Rattle.zd_repair.specs.Repaired.{IsTwice, MakesInvalid, valid_total}
use Rattle.zd_repair.proofs.bits.clear_twice.Given as goal

abbrev pub invariant-loop-at : goal.invariant-loop-at
invariant-loop-at l =
    let t = l.initial.tables in
    record {
      inside : l.at ≤ l.end;
      bits : MakesInvalid (IsTwice (tables_held t) l.buffer l.main 0 l.at) (tables_held t) (tables_held l.tables);
      count : valid_total t.geometry (tables_held l.tables) + l.cleared ≡ valid_total t.geometry (tables_held t);
      same : SamePlace t l.tables;
    }

abbrev pub decreases-loop-at : goal.decreases-loop-at
decreases-loop-at l = l.end - l.at
