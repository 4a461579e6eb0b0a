-- A byte is another exactly where one of its bits is.
use Rattle.std.proofs.Common.{rules, arith, ◌+◌, ◌*◌, set}
use Rattle.zd_bits.specs.Bits.{GivesOnly}
use Rattle.zd_bits.proofs.RangeLaws.{byte_tells}
use Rattle.zd_bits.proofs.put.put_byte.Goals as goal

pub returns-clause-value : goal.returns-clause-value
returns-clause-value c =
    let change : GivesOnly c.args.bit (8 * c.args.i) (8 * c.args.i + 8) c.args.bits.now (set c.args.bits.now c.args.i c.whole-new.result) = search rules in
    byte_tells c.args.bit c.args.bits.now (8 * c.args.i) (8 * c.args.i + 8) c.args.i c.whole-new.result (omega arith) c.requires (omega arith) (omega arith) change
