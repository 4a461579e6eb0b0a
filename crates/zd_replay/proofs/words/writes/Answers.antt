use Rattle.std.proofs.Common.{◌≡◌, ◌^◌, ◌<◌, ℕ, List, sym, ap, ◌∙◌, arith}
use Rattle.std.specs.Str.{bytes_eq}
use Rattle.zd_model.proofs.Decimals.{numeral_decimal}
use Rattle.zd_replay.proofs.words.writes.Goals as goal

pub returns : goal.returns
returns c =
    let small : c.args.number < 2 ^ 64 = omega arith in
    c.eq.ensures ∙ ap (λ (text : List ℕ). bytes_eq text c.args.word.now) (c.format.ensures.text ∙ sym (numeral_decimal c.args.number small))
