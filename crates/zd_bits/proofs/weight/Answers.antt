-- A word adds as many blocks as it has ones.
use Rattle.std.proofs.Common.{◌≡◌, ℕ, ◌+◌, ◌*◌, ◌/◌, ◌%◌, ◌≤◌, sym, ap, ap₂, ◌∙◌, arith}
use Rattle.std.specs.Int.Count.{ones}
use Rattle.std.proofs.lemmas.Nat.{ones-le}
use Rattle.zd_bits.specs.Bits.{weight_of}
use Rattle.zd_bits.proofs.CountLaws.{weight_none, weight_word, weight_rest, rest_ones}
use Rattle.zd_bits.proofs.weight.Goals as goal

pub loop-i-init : goal.loop-i-init
loop-i-init c = (sym (weight_none c.args.bits.now), omega arith)

pub loop-i-preserved : goal.loop-i-preserved
loop-i-preserved c =
    let more = weight_word c.args.bits.now c.loop-i.i c.word_at.result c.word_at.type_inv c.word_at.ensures in
    let most = ones-le 64 c.word_at.result c.word_at.type_inv in
    (omega (arith, more, c.loop-i.invariant.0), omega (arith, most, c.loop-i.invariant.1))

pub overflow_add-result : goal.overflow_add-result
overflow_add-result c =
    let most : ones c.low_bits.result ≤ c.args.end % 64 =
    rw c.low_bits.ensures (rest_ones c.word_at-last.result (c.args.end % 64)) in
    record { fits = omega (arith, most, c.loop-i.invariant.1) }

pub returns : goal.returns
returns c =
    let whole : c.loop-i.i ≡ c.args.end / 64 = omega arith in
    let place : 64 * (c.args.end / 64) + c.args.end % 64 ≡ c.args.end = omega arith in
    ap₂ (λ (x y : ℕ). x + ones y)
    (c.loop-i.invariant.0 ∙ ap (λ (x : ℕ). weight_of c.args.bits.now (64 * x)) whole)
    c.low_bits.ensures
    ∙ sym (weight_rest c.args.bits.now (c.args.end / 64) c.word_at-last.result (c.args.end % 64) (omega arith) c.word_at-last.ensures)
    ∙ ap (weight_of c.args.bits.now) place
