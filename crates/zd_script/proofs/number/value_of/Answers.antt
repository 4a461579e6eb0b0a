use Rattle.std.proofs.Common.{arith, ap, get_or, take, ◌∙◌}
use Rattle.std.proofs.lemmas.List.{take_more}
use Rattle.zd_script.specs.Number.{value_after}
use Rattle.zd_script.proofs.NumberLaws.{value_after-push}
use Rattle.zd_script.proofs.number.value_of.Goals as goal

pub loop-digit-preserved : goal.loop-digit-preserved
loop-digit-preserved c =
    let digits = c.args.digits.now in
    let i = c.loop-digit.digit-index in
    let more = ap (value_after 0) (take_more digits i 0 c.loop-digit-test.true) ∙ value_after-push 0 (take i digits) (get_or digits i 0) in
    omega arith
