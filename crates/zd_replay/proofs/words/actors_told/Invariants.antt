use Rattle.std.proofs.Common.{◌≡◌, ◌<◌, ◌≤◌, ℕ, false}
use Rattle.std.specs.Str.{bytes_eq}
use Rattle.zd_model.specs.Text.{numeral}
use Rattle.zd_replay.proofs.words.actors_told.Given as goal

-- no number before is the word's
abbrev pub invariant-loop-number : goal.invariant-loop-number
invariant-loop-number l = (n : ℕ) → 1 ≤ n → n < l.number → bytes_eq (numeral n) l.word ≡ false
