-- Either the word's first 1 is the block that was sought, or the word is passed.
use Rattle.std.proofs.Common.{arith}
use Rattle.zd_bits.proofs.WordLaws.{word_passed, word_found}
use Rattle.zd_bits.proofs.first_with.Goals as goal

pub returns-then-place-lt-WORD : goal.returns-then-place-lt-WORD
returns-then-place-lt-WORD c =
    let first = rw c.saturating_sub.ensures at c.first_one-place.ensures in
    rw c.min.ensures
    (word_found c.args.bits.now c.args.bit c.loop-i.i c.word_with-word.result c.args.from c.args.end c.first_one-place.result
    c.requires.order c.if-place-lt-WORD.true c.word_with-word.ensures first c.loop-i.invariant)

pub loop-i-preserved : goal.loop-i-preserved
loop-i-preserved c =
    let first = rw c.saturating_sub.ensures at c.first_one-place.ensures in
    let passed = word_passed c.args.bits.now c.args.bit c.loop-i.i c.word_with-word.result c.args.from c.first_one-place.result
    c.word_with-word.ensures first c.loop-i.invariant in
    λ n low high. passed n low (omega arith)
