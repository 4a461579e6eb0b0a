use Rattle.std.proofs.Common.{◌≡◌, ◌+◌, slice_index}
use Rattle.zd_tables.specs.Held.{SamePlace, tables_held}
use Rattle.zd_repair.specs.Repaired.{IsWrongPlace, MakesInvalid, valid_total}
use Rattle.zd_repair.proofs.bits.repair_bits.Given as goal

abbrev pub invariant-loop-zone : goal.invariant-loop-zone
invariant-loop-zone l =
    let t = l.initial.tables in
    record {
      bits : MakesInvalid (IsWrongPlace t.geometry (tables_held t) l.roles (slice_index l.pointers) l.zone)
          (tables_held t) (tables_held l.tables);
      count : valid_total t.geometry (tables_held l.tables) + l.cleared ≡ valid_total t.geometry (tables_held t);
      same : SamePlace t l.tables;
    }
