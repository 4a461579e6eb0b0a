use Rattle.std.proofs.Common.{◌<◌, ◌≤◌, length, rules, arith, sym, ap, ◌∙◌}
use Rattle.std.specs.Prelude.{string_bytes}
use Rattle.uuid.specs.Text.{parsed}
use Rattle.zd_ports.specs.Words.{is_option}
use Rattle.zd_admin.proofs.WordLaws.{equal, four_words, has_six, six_words, third, where_none}
use Rattle.zd_admin.proofs.words.asked_format.Goals.{in_default-via-then-words-lt6, in_default-via-else-words-lt6+else-words-lt7}
use Rattle.zd_admin.proofs.words.asked_format.Goals as goal

pub returns-in_default-clause-none : goal.returns-in_default-clause-none
returns-in_default-clause-none c h =
    let six = has_six string_bytes c.args.words.now h in
    elim c.in_default.branch [
      | in_default-via-then-words-lt6 w ↦ (let few : length c.args.words.now < 6 = search rules in absurd (omega (arith, few, six)))
      | in_default-via-else-words-lt6+else-words-lt7 w ↦ (let many : 7 ≤ length c.args.words.now = search rules in absurd (omega (arith, many, six)))
    ]

pub returns-in_err-reserved-clause-none : goal.returns-in_err-reserved-clause-none
returns-in_err-reserved-clause-none c =
    where_none c.from_residual.result _ (λ h.
    let words = six_words string_bytes c.args.words.now c.format-item.result c.seq-item.result c.reserved-item.result c.uuid-item.result c.volume-item.result
    c.image-item.result
    c.in-len6.len_at_least c.in-len6.len_below c.format-item.is c.seq-item.is c.reserved-item.is c.uuid-item.is c.volume-item.is c.image-item.is in
    c.in_err-reserved.ensures.none h.0 h.2.most (c.deref-2.ensures ∙ third _ _ _ _ _ _ _ _ (sym words ∙ h.2.spelled)))

pub returns-clause-some : goal.returns-clause-some
returns-clause-some c =
    let words = six_words string_bytes c.args.words.now c.format-item.result c.seq-item.result c.reserved-item.result c.uuid-item.result c.volume-item.result
    c.image-item.result
    c.in-len6.len_at_least c.in-len6.len_below c.format-item.is c.seq-item.is c.reserved-item.is c.uuid-item.is c.volume-item.is c.image-item.is in
    record {
      id = string_bytes c.volume-item.result;
      image = string_bytes c.image-item.result;
      spelled = words ∙ four_words _ _ _ _ _ _ _ _ _ _
          (sym c.as_str.ensures.value ∙ equal c.as_str.result.now _ c.ne.result c.ne.ensures c.if-ne.false)
          (sym c.as_str-else-ne.ensures.value ∙ equal c.as_str-else-ne.result.now _ c.ne-else-ne.result c.ne-else-ne.ensures c.if-ne-2.false)
          (sym c.deref-2.ensures ∙ c.in_ok-reserved.ensures.some)
          (sym c.as_str-else-ne-2.ensures.value ∙ equal c.as_str-else-ne-2.result.now _ c.ne-else-ne-2.result c.ne-else-ne-2.ensures c.if-ne-3.false);
      most = c.in_ok-reserved.ensures.most;
      identifier = ap parsed (sym c.deref-3.ensures) ∙ sym c.identifier.ensures ∙ c.in_ok-volume.was;
      path = ap is_option (sym c.deref.ensures) ∙ sym c.is_option.ensures ∙ c.if-is_option.false;
    }
