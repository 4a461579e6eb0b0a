-- What the entries before entry i say.
use Rattle.std.proofs.Common.{take}
use Rattle.zd_model.specs.Bytes.{sectors_of}
use Rattle.zd_hold.specs.Held.{IsHeld}
use Rattle.zd_hold.proofs.held.may_hold.Given as goal

abbrev pub invariant-loop-i : goal.invariant-loop-i
invariant-loop-i l = IsHeld (sectors_of l.base) (take l.i l.history.items) l.asked l.held
