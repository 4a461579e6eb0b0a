use Rattle.std.proofs.Common.{rules, ◌<◌, ◌^◌, arith}
use Rattle.zd_model.proofs.Decimals.{numeral_decimal}
use Rattle.zd_report.proofs.numbers.add_number.Goals as goal

pub returns : goal.returns
returns c = let small : c.args.n < 2 ^ 64 = omega arith in rw (numeral_decimal c.args.n small) (search rules)
