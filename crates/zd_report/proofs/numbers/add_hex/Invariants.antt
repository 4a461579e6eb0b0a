-- the digits of the bytes so far
use Rattle.std.proofs.Common.{◌≡◌, ◌++◌, take}
use Rattle.std.specs.Prelude.{string_bytes}
use Rattle.zd_model.specs.Text.{hex}
use Rattle.zd_report.proofs.numbers.add_hex.Given as goal

abbrev pub invariant-loop-byte : goal.invariant-loop-byte
invariant-loop-byte l = string_bytes l.text ≡ string_bytes l.initial.text ++ hex (take l.byte-index l.bytes)
