use Rattle.std.proofs.Common.{◌++◌, ap, ◌∙◌}
use Rattle.std.specs.Prelude.{codes, string_bytes}
use Rattle.zd_admin.specs.Output.{free_line, number_after}
use Rattle.zd_admin.proofs.TextLaws.{three_pieces}
use Rattle.zd_admin.proofs.texts.add_free.Goals as goal

pub returns : goal.returns
unfolding free_line
returns c =
    three_pieces _ _ _ _ _ _ _
    (c.in_ok-add_number_after.ensures ∙ ap (λ n. string_bytes c.args.text.now ++ number_after (codes "free ") n) c.from.ensures)
    (c.in_ok-add_number_after-2.ensures
    ∙ ap (λ n. string_bytes c.add_number_after.new.text ++ number_after (codes " conventional ") n) c.from-2.ensures)
    c.in_ok-push_str.ensures.bytes
