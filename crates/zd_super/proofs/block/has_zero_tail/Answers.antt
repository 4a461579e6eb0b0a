use Rattle.std.proofs.Common.{◌∙◌, ap, ℕ, List, drop, nat_eq}
use Rattle.std.specs.List.{list_all}
use Rattle.std.proofs.lemmas.List.{take_rest}
use Rattle.zd_model.specs.Super.{fields_end, has_zero_tail}
use Rattle.zd_super.proofs.block.has_zero_tail.Goals as goal

pub returns : goal.returns
unfolding has_zero_tail
returns c =
    let test = λ (bytes : List ℕ). list_all (λ byte. nat_eq byte 0) bytes in
    let block = c.args.block.now in
    let end = c.fields_end.ensures.value ∙ ap fields_end c.u32_at.ensures in
    c.are_zeros.ensures ∙ ap test (take_rest block c.fields_end.result ∙ ap (λ n. drop n block) end)
