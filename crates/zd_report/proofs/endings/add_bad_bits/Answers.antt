use Rattle.std.proofs.Common.{refl, ◌∙◌}
use Rattle.std.proofs.lemmas.List.{append_assoc}
use Rattle.zd_report.proofs.endings.add_bad_bits.Goals as goal

-- each part in turn, from the last back to the first
pub returns : goal.returns
returns c =
    c.in_ok-push_str-2.ensures.bytes ∙ rw (c.in_ok-add_number.ensures, c.in_ok-add_field.ensures, c.in_ok-push_str.ensures.bytes, c.from.ensures, c.from-2.ensures) (simp append_assoc refl)
