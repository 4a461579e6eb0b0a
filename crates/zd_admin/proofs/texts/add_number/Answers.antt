use Rattle.std.proofs.Common.{rules, ◌<◌, ◌^◌, arith}
use Rattle.zd_model.proofs.Decimals.{numeral_decimal}
use Rattle.zd_admin.proofs.texts.add_number.Goals as goal

pub returns : goal.returns
returns c = let small : c.args.n < 2 ^ 64 = omega (arith, c.ranges.n.fits) in rw (numeral_decimal c.args.n small) (search rules)
