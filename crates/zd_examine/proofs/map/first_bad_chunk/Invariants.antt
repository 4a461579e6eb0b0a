use Rattle.std.proofs.Common.{◌≡◌, ◌-◌, [], map}
use Rattle.std.specs.List.{flat_map, range_with_len}
use Rattle.zd_model.specs.Faults.{bad_chunk}
use Rattle.zd_model.specs.Tables.{zones_of}
use Rattle.zd_examine.specs.Roles.{AreRoles}
use Rattle.zd_tables.specs.Tables.{entry_in_blocks, entries_in}
use Rattle.zd_examine.proofs.map.first_bad_chunk.Given as goal

-- the chunks so far follow the rules, and the roles are those that they give
abbrev pub invariant-loop-chunk : goal.invariant-loop-chunk
invariant-loop-chunk l =
    let entry = entry_in_blocks l.blocks in
    record {
      roles : AreRoles l.geometry entry l.chunk l.roles;
      rest : bad_chunk l.geometry l.layout [] 0 (entries_in l.layout l.blocks)
          ≡ bad_chunk l.geometry l.layout (flat_map zones_of (map entry (range_with_len 0 l.chunk))) l.chunk
          (map entry (range_with_len l.chunk (l.layout.chunks - l.chunk)));
    }
