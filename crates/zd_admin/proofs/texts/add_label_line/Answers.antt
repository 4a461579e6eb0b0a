use Rattle.std.proofs.Common.{ℕ, ◌++◌, ap, ◌∙◌}
use Rattle.std.specs.Prelude.{string_bytes}
use Rattle.zd_admin.specs.Output.{label_line}
use Rattle.zd_admin.proofs.TextLaws.{encoded, three_pieces}
use Rattle.zd_admin.proofs.texts.add_label_line.Goals as goal

pub returns : goal.returns
unfolding label_line
returns c =
    let all = λ (i : ℕ). (c.type_inv.label i).fits in
    let digits = c.deref.ensures ∙ c.in_ok-digits.ensures ∙ encoded c.args.label.now all in
    three_pieces _ _ _ _ _ _ _ c.in_ok-push_str.ensures.bytes
    (c.in_ok-push_str-2.ensures.bytes ∙ ap (λ t. string_bytes c.push_str.new.self ++ t) digits)
    c.in_ok-push_str-3.ensures.bytes
