use Rattle.std.proofs.Common.{◌≡◌, ◌^◌, ◌<◌, sym, ap, ◌∙◌, arith}
use Rattle.zd_model.specs.Text.{numeral}
use Rattle.zd_model.proofs.Decimals.{numeral_decimal}
use Rattle.zd_admin.proofs.WordLaws.{equal, not_equal, ok_same, reads_numeral}
use Rattle.zd_admin.proofs.words.number.Goals as goal

pub returns-then-ne-clause-none : goal.returns-then-ne-clause-none
returns-then-ne-clause-none c n few is =
    let word = c.args.word.now in
    let number = c.in-Ok.number in
    let read = reads_numeral n word c.parse.result few is c.parse.ensures.value.0 in
    let same : number ≡ n = ok_same number n (sym c.in-Ok.is ∙ read) in
    let small : number < 2 ^ 64 = omega (arith, same, few) in
    not_equal c.format.result.now word c.ne.result c.ne.ensures c.if-ne.true
    (c.format.ensures.text ∙ sym (numeral_decimal number small) ∙ ap numeral same ∙ sym is)

pub returns-clause-some : goal.returns-clause-some
returns-clause-some c =
    let small : c.in-Ok.number < 2 ^ 64 = omega arith in
    sym (equal c.format.result.now c.args.word.now c.ne.result c.ne.ensures c.if-ne.false) ∙ c.format.ensures.text ∙ sym (numeral_decimal c.in-Ok.number small)
