-- The pieces of the requests before request i are there.
use Rattle.std.proofs.Common.{◌≡◌, take}
use Rattle.zd_model.specs.Pieces.{pieces_of}
use Rattle.zd_plain.proofs.cut.pieces.Given as goal

abbrev pub invariant-loop-i : goal.invariant-loop-i
invariant-loop-i l = l.pieces.items ≡ pieces_of l.fn.zone_blocks l.fn.blocks (take l.i l.plan)
