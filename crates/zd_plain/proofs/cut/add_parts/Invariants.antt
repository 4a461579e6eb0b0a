-- The pieces before piece i were appended.
use Rattle.std.proofs.Common.{◌≡◌, ◌++◌, map}
use Rattle.std.specs.List.{range_with_len}
use Rattle.zd_plain.specs.Cuts.{piece_at}
use Rattle.zd_plain.proofs.cut.add_parts.Given as goal

abbrev pub invariant-loop-i : goal.invariant-loop-i
invariant-loop-i l = l.pieces.items ≡ l.fn.pieces.items ++ map (piece_at l.fn.zone_blocks l.fn.number l.fn.request) (range_with_len 0 l.i)
