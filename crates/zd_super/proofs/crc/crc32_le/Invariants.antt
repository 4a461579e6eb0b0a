use Rattle.std.proofs.Common.{◌≡◌, drop}
use Rattle.zd_model.specs.Crc.{crc32_le}
use Rattle.zd_super.proofs.crc.crc32_le.Given as goal

-- the crc so far, gone on over what is left, is the crc of all
abbrev pub invariant-loop-byte : goal.invariant-loop-byte
invariant-loop-byte l = crc32_le l.crc (drop l.byte-index l.bytes) ≡ crc32_le l.fn.seed l.fn.bytes
