use Rattle.zd_session.proofs.BeginLaws.{IsLongestSoFar}
use Rattle.zd_session.proofs.beginning.longest_write.Given as goal

abbrev pub invariant-loop-piece : goal.invariant-loop-piece
invariant-loop-piece l = IsLongestSoFar l.pieces l.piece-index l.longest
