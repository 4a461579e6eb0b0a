use Rattle.std.proofs.Common.{◌≢◌, ℕ, get_or, ◌∙◌, arith}
use Rattle.std.specs.Prelude.{IsTrue, not, nat_eq}
use Rattle.std.proofs.lemmas.List.{nil_from_length}
use Rattle.std.proofs.lemmas.Bool.Decides.{nat_tests}
use Rattle.zd_script.proofs.NumberLaws.{numeral_full, one_digit, more_digits, no_zero_in_front}
use Rattle.zd_script.proofs.number.is_numeral.Goals as goal

is_other : (x : ℕ) → IsTrue (not (nat_eq x 48)) → x ≢ 48
is_other x h e = grind (arith, nat_tests)

other_is : (x : ℕ) → x ≢ 48 → IsTrue (not (nat_eq x 48))
other_is x h = grind (arith, nat_tests)

pub returns-in-empty-clause-wrong : goal.returns-in-empty-clause-wrong
returns-in-empty-clause-wrong c n e = absurd (numeral_full n (e ∙ nil_from_length c.args.digits.now (omega arith)))

pub returns-in-len1-clause-right : goal.returns-in-len1-clause-right
returns-in-len1-clause-right c is = one_digit c.args.digits.now c.requires (omega arith)

pub returns-in-len1-up-clause-right : goal.returns-in-len1-up-clause-right
returns-in-len1-up-clause-right c is = more_digits c.args.digits.now c.requires (omega arith) (is_other (get_or c.args.digits.now 0 0) is)

pub returns-in-len1-up-clause-wrong : goal.returns-in-len1-up-clause-wrong
returns-in-len1-up-clause-wrong c n e = other_is (get_or c.args.digits.now 0 0) (no_zero_in_front n c.args.digits.now e (omega arith))
