-- Neither power wraps.
use Rattle.std.proofs.Common.{◌≤◌, ◌^◌, arith}
use Rattle.std.proofs.lemmas.Nat.{one_shl}
use Rattle.std.proofs.Math.Pow.{pow_mono}
use Rattle.zd_bits.proofs.put.mask.Goals as goal

pub overflow_sub-result : goal.overflow_sub-result
overflow_sub-result c =
    let less : 2 ^ c.args.low ≤ 2 ^ c.args.high = pow_mono c.requires.order in
    rw (one_shl c.args.low 16 (omega arith), one_shl c.args.high 16 (omega arith)) less
