use Rattle.std.proofs.Common.{◌≡◌, ◌-◌}
use Rattle.std.specs.Prelude.{find, slice_index}
use Rattle.std.specs.List.{flat_map, range_with_len}
use Rattle.zd_base.specs.Geometry.{zone_count}
use Rattle.zd_model.specs.Faults.{bad_bit}
use Rattle.zd_examine.proofs.Pairs.{is_bad_pair, pairs_of}
use Rattle.zd_tables.specs.Tables.{tables_in}
use Rattle.zd_examine.proofs.bitmap.first_bad_bit.Given as goal

-- no bit of the zones so far is bad
abbrev pub invariant-loop-zone : goal.invariant-loop-zone
invariant-loop-zone l =
    let t = tables_in l.geometry l.layout l.blocks in
    bad_bit l.geometry (slice_index l.pointers) t
    ≡ find (is_bad_pair l.geometry (slice_index l.pointers) t) (flat_map (pairs_of l.geometry) (range_with_len l.zone (zone_count l.geometry - l.zone)))
