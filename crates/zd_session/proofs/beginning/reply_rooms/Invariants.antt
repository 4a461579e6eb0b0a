use Rattle.std.proofs.Common.{take}
use Rattle.zd_session.specs.Beginnings.{AreReadyFor}
use Rattle.zd_session.proofs.beginning.reply_rooms.Given as goal

abbrev pub invariant-loop-piece : goal.invariant-loop-piece
invariant-loop-piece l = AreReadyFor (take l.piece-index l.pieces) l.replies.items
