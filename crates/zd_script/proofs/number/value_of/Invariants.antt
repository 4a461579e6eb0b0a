use Rattle.std.proofs.Common.{◌≡◌, ◌^◌, min, take}
use Rattle.zd_script.specs.Number.{value_after}
use Rattle.zd_script.proofs.number.value_of.Given as goal

abbrev pub invariant-loop-digit : goal.invariant-loop-digit
invariant-loop-digit l = l.value ≡ min (value_after 0 (take l.digit-index l.digits)) (2 ^ 64)
