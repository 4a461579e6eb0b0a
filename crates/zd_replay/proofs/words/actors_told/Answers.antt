use Rattle.std.proofs.Common.{◌≡◌, ◌∙◌, ℕ, sym, arith}
use Rattle.std.specs.Str.{bytes_eq}
use Rattle.zd_examine.proofs.FindLaws.{find_none, find_some}
use Rattle.zd_model.specs.Text.{numeral}
use Rattle.zd_replay.specs.Words.{actors_told}
use Rattle.zd_replay.proofs.words.actors_told.Goals as goal

pub returns-then-writes-clause-value : goal.returns-then-writes-clause-value
unfolding actors_told
returns-then-writes-clause-value c =
    sym (find_some (λ (n : ℕ). bytes_eq (numeral n) c.args.word.now) 1 64 c.loop-number.number (omega arith) (omega arith)
    (sym c.writes.ensures ∙ c.if-writes.true) (λ i low high. c.loop-number.invariant i low high))

pub returns-clause-value : goal.returns-clause-value
unfolding actors_told
returns-clause-value c =
    sym (find_none (λ (n : ℕ). bytes_eq (numeral n) c.args.word.now) 1 64
    (λ i low high. c.loop-number.invariant i low (omega arith)))
