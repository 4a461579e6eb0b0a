-- Piece i joins those before it.
use Rattle.std.proofs.Common.{arith}
use Rattle.std.proofs.lemmas.Grind.{common_steps}
use Rattle.std.proofs.lemmas.List.FromFn.{map-range_with_len_more}
use Rattle.zd_plain.specs.Cuts.{piece_at}
use Rattle.zd_plain.proofs.cut.add_parts.Goals as goal

pub loop-i-preserved : goal.loop-i-preserved
loop-i-preserved c = grind (arith, common_steps, map-range_with_len_more (piece_at c.args.zone_blocks c.args.number c.args.request) 0 c.loop-i.i c.loop-i.i)
