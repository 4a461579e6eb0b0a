use Rattle.std.proofs.Common.{subst, sym, ◌∙◌}
use Rattle.std.proofs.lemmas.Bool.{cond-true}
use Rattle.std.proofs.lemmas.Option.{slice_get-get_or}
use Rattle.zd_session.specs.Beginnings.{AreReadyFor}
use Rattle.zd_session.proofs.BeginLaws.{ready_then}
use Rattle.zd_session.proofs.beginning.reply_rooms.Goals as goal

pub loop-piece-preserved : goal.loop-piece-preserved
loop-piece-preserved c =
    let pieces = c.args.pieces.now in
    let i = c.loop-piece.piece-index in
    subst (AreReadyFor _)
    (sym (c.push.ensures.items ∙ cond-true _ _ _ (sym c.in_ok-map_err.ensures.variant)))
    (ready_then pieces i _ c.loop-piece.replies.items c.in_ok-reply.reply
    (slice_get-get_or pieces i _ c.loop-piece-test.true) c.loop-piece.invariant c.in_ok-reply.ensures)
