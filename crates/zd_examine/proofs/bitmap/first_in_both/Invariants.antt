use Rattle.std.proofs.Common.{◌≡◌, ◌≤◌, ◌<◌, ◌-◌, ℕ, false}
use Rattle.zd_examine.specs.Bits.{in_both}
use Rattle.zd_examine.proofs.bitmap.first_in_both.Given as goal

-- no block so far is valid in both
abbrev pub invariant-loop-block : goal.invariant-loop-block
invariant-loop-block l = record {
  high : l.at ≤ l.end;
  before : (i : ℕ) → i < l.at → in_both l.bits l.others i ≡ false;
}

abbrev pub decreases-loop-block : goal.decreases-loop-block
decreases-loop-block l = l.end - l.at
