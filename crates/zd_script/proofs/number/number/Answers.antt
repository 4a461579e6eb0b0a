use Rattle.std.proofs.Common.{IsTrue, ap, ◌++◌, ◌∙◌, sym, subst}
use Rattle.std.specs.List.{All}
use Rattle.std.specs.Char.{IsAsciiDigit}
use Rattle.zd_script.specs.Number.{BeginsOther, value_after}
use Rattle.zd_script.proofs.NumberLaws.{where_none, begins_digits, digits_alone, no_number, number_is_front}
use Rattle.zd_script.proofs.number.number.Goals as goal

pub returns-in_err-digit_count-clause-none : goal.returns-in_err-digit_count-clause-none
returns-in_err-digit_count-clause-none c = where_none c.from_residual.result _ (λ n rest has. no_number c.args.text.now n rest (digits_alone c.args.text.now c.in_err-digit_count.ensures) has)

pub is_numeral-requires : goal.is_numeral-requires
is_numeral-requires c = subst (All IsAsciiDigit) (sym c.split_at.ensures.front) (begins_digits c.args.text.now c.in_ok-digit_count.field-0 c.in_ok-digit_count.ensures).digits

pub value_of-requires : goal.value_of-requires
value_of-requires c = subst (All IsAsciiDigit) (sym c.split_at.ensures.front) (begins_digits c.args.text.now c.in_ok-digit_count.field-0 c.in_ok-digit_count.ensures).digits

pub returns-then-not-is_numeral-clause-none : goal.returns-then-not-is_numeral-clause-none
returns-then-not-is_numeral-clause-none c n rest has =
    let begins = begins_digits c.args.text.now c.in_ok-digit_count.field-0 c.in_ok-digit_count.ensures in
    let front = number_is_front c.args.text.now c.in_ok-digit_count.field-0 n rest begins has in
    let right : IsTrue c.is_numeral.result = c.is_numeral.ensures.wrong n (front.digits ∙ sym c.split_at.ensures.front) in
    let wrong = c.if-not-is_numeral.true in cc

pub returns-clause-found : goal.returns-clause-found
returns-clause-found c =
    let begins = begins_digits c.args.text.now c.in_ok-digit_count.field-0 c.in_ok-digit_count.ensures in
    let right = c.is_numeral.ensures.right c.if-not-is_numeral.false in (
      value_after 0 c.split_at.result.0.now,
      record {
        is = c.split_at.ensures.by_index.0 ∙ ap (λ xs. xs ++ c.split_at.result.1.now) (sym right);
        ends = subst BeginsOther (sym c.split_at.ensures.back) begins.ends;
      },
      c.value_of.ensures,
    )
