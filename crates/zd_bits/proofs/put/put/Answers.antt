-- The three parts meet.
use Rattle.std.proofs.Common.{◌≡◌, ◌*◌, ◌/◌, arith}
use Rattle.zd_bits.proofs.RangeLaws.{given_both, tells_both}
use Rattle.zd_bits.proofs.put.put.Goals as goal

pub returns-clause-value : goal.returns-clause-value
returns-clause-value c =
    let start : 8 * (c.div_ceil-head.result * 8 / 8) ≡ c.div_ceil-head.result * 8 = omega arith in
    let stop : 8 * (c.args.end / 8 * 8 / 8) ≡ c.args.end / 8 * 8 = omega arith in
    let told = rw (start, stop) at c.put_bytes-in_middle.ensures.value in
    let done = rw (start, stop) at c.put_bytes-in_middle.ensures.bits in
    let head = c.put_in_byte-in_head.ensures in
    let tail = c.put_in_byte-in_tail.ensures in
    tells_both (omega arith) (omega arith)
    (tells_both (omega arith) (omega arith) head.value head.bits told)
    (given_both (omega arith) (omega arith) head.bits done)
    tail.value

pub returns-clause-bits : goal.returns-clause-bits
returns-clause-bits c =
    let start : 8 * (c.div_ceil-head.result * 8 / 8) ≡ c.div_ceil-head.result * 8 = omega arith in
    let stop : 8 * (c.args.end / 8 * 8 / 8) ≡ c.args.end / 8 * 8 = omega arith in
    let done = rw (start, stop) at c.put_bytes-in_middle.ensures.bits in
    given_both (omega arith) (omega arith)
    (given_both (omega arith) (omega arith) c.put_in_byte-in_head.ensures.bits done)
    c.put_in_byte-in_tail.ensures.bits
