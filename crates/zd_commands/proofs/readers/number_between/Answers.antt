use Rattle.std.proofs.Common.{rules, ◌≡◌, ◌^◌, ◌<◌, ◌≤◌, sym, ap, ◌∙◌, arith, Ok}
use Rattle.zd_model.specs.Text.{numeral}
use Rattle.zd_model.proofs.Decimals.{numeral_decimal}
use Rattle.zd_commands.proofs.WordLaws.{found_equal, found_unequal, reads_number, same_ok}
use Rattle.zd_commands.proofs.readers.number_between.Goals as goal

pub returns-in_default-clause-none : goal.returns-in_default-clause-none
returns-in_default-clause-none c n is many few =
    let read = reads_number n c.args.word.now c.parse.result (omega (arith, few)) is c.parse.ensures.value.0 in
    search (read, rules)

pub returns-then-number-least-clause-none : goal.returns-then-number-least-clause-none
returns-then-number-least-clause-none c n is many few =
    let read = reads_number n c.args.word.now c.parse.result (omega (arith, few)) is c.parse.ensures.value.0 in
    let same : c.in-Ok.number ≡ n = same_ok c.in-Ok.number n (sym c.in-Ok.is ∙ read) in
    absurd (omega (arith, same, many))

pub returns-then-number-most-clause-none : goal.returns-then-number-most-clause-none
returns-then-number-most-clause-none c n is many few =
    let read = reads_number n c.args.word.now c.parse.result (omega (arith, few)) is c.parse.ensures.value.0 in
    let same : c.in-Ok.number ≡ n = same_ok c.in-Ok.number n (sym c.in-Ok.is ∙ read) in
    absurd (omega (arith, same, few))

pub returns-then-ne-clause-none : goal.returns-then-ne-clause-none
returns-then-ne-clause-none c n is many few =
    let word = c.args.word.now in
    let number = c.in-Ok.number in
    let small : n < 2 ^ 64 = omega (arith, few) in
    let read = reads_number n word c.parse.result small is c.parse.ensures.value.0 in
    let same : number ≡ n = same_ok number n (sym c.in-Ok.is ∙ read) in
    let fits : number < 2 ^ 64 = omega (arith, same, small) in
    found_unequal c.format.result.now word c.ne.result c.ne.ensures c.if-ne.true
    (c.format.ensures.text ∙ sym (numeral_decimal number fits) ∙ ap numeral same ∙ sym is)

pub returns-clause-some : goal.returns-clause-some
returns-clause-some c =
    let fits : c.in-Ok.number < 2 ^ 64 = omega arith in
    (sym (found_equal c.format.result.now c.args.word.now c.ne.result c.ne.ensures c.if-ne.false) ∙ c.format.ensures.text ∙ sym (numeral_decimal c.in-Ok.number fits), omega arith, omega arith)
