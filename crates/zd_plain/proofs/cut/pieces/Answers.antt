-- The next request's pieces join those of the requests before it.
use Rattle.std.proofs.Common.{◌+◌, List, ◌++◌, ap, ◌∙◌}
use Rattle.zd_model.specs.Pieces.{pieces_of_request}
use Rattle.zd_model.specs.declared.requests.Piece.{Piece}
use Rattle.zd_plain.proofs.PieceLaws.{pieces_more}
use Rattle.zd_plain.proofs.cut.pieces.Goals as goal

pub loop-i-preserved : goal.loop-i-preserved
loop-i-preserved c =
    c.in_ok-add_pieces.ensures
    ∙ ap (λ (ps : List Piece). ps ++ pieces_of_request c.args.zone_blocks c.args.blocks (c.loop-i.i + 1, c.get.result.now)) c.loop-i.invariant
    ∙ pieces_more c.args.zone_blocks c.args.blocks c.args.plan.now c.loop-i.i c.get.result.now c.get.ensures
