-- What was appended is the request's pieces, since it lies inside the device.
use Rattle.std.proofs.Common.{◌≡◌, List, ◌++◌, OnOk, subst}
use Rattle.zd_model.specs.declared.requests.Piece.{Piece}
use Rattle.zd_plain.proofs.PieceLaws.{pieces_within}
use Rattle.zd_plain.proofs.cut.add_pieces.Goals as goal

pub returns : goal.returns
returns c =
    subst (λ (ps : List Piece). OnOk c.add_parts.result (c.add_parts.new.pieces.items ≡ c.args.pieces.now.items ++ ps))
    (pieces_within c.args.zone_blocks c.args.blocks c.args.number c.args.request cc)
    c.add_parts.ensures
