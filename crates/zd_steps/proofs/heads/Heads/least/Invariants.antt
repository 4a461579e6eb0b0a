use Rattle.zd_steps.proofs.LeastLaws.{IsLeastBelow}
use Rattle.zd_steps.proofs.heads.Heads.least.Given as goal

abbrev pub invariant-loop-head : goal.invariant-loop-head
invariant-loop-head g l = IsLeastBelow l.self (g.T.PieceTest.test l.test) l.from l.head-index l.least
