use Rattle.std.proofs.Common.{◌≡◌, ℕ, ◌≤◌}
use Rattle.zd_examine.specs.Roles.{AreRoles}
use Rattle.zd_model.specs.Tables.{is_valid}
use Rattle.zd_tables.specs.Held.{SamePlace, tables_held}
use Rattle.zd_tables.specs.Tables.{entry_in_blocks}
use Rattle.zd_repair.specs.Repaired.{IsMapLeft, wrong_entries}
use Rattle.zd_repair.proofs.map.repair_map.Given as goal

-- the entries so far are what is left of the old ones, and the later ones are as they were
abbrev pub invariant-loop-chunk : goal.invariant-loop-chunk
invariant-loop-chunk l =
    let t = l.initial.tables in
    let old = entry_in_blocks t.bytes in
    let new = entry_in_blocks l.tables.bytes in
    record {
      map : IsMapLeft t.geometry t.layout old new l.chunk;
      later : (c : ℕ) → l.chunk ≤ c → new c ≡ old c;
      count : l.wrong ≡ wrong_entries t.geometry t.layout old new l.chunk;
      few : l.wrong ≤ l.chunk;
      roles : AreRoles t.geometry new l.chunk l.roles;
      bits : (z x : ℕ) → is_valid (tables_held l.tables) z x ≡ is_valid (tables_held t) z x;
      same : SamePlace t l.tables;
    }
