-- The bytes before byte i were written.
use Rattle.std.proofs.Common.{◌≡◌, ◌*◌, false}
use Rattle.zd_bits.specs.Bits.{Tells, GivesOnly}
use Rattle.zd_bits.proofs.put.put_bytes.Given as goal

abbrev pub invariant-loop-i : goal.invariant-loop-i
invariant-loop-i l = record {
  value : Tells l.changed l.bit l.fn.bits (8 * l.fn.first) (8 * l.i);
  bits : GivesOnly l.bit (8 * l.fn.first) (8 * l.i) l.fn.bits l.bits;
  same : l.changed ≡ false → l.bits ≡ l.fn.bits;
}
