use Rattle.std.proofs.Common.{◌∷◌, [], sym}
use Rattle.std.specs.Prelude.{string_bytes}
use Rattle.zd_model.specs.Entries.{shown_entry}
use Rattle.zd_report.proofs.LineText.{entry_line}
use Rattle.zd_report.proofs.Ok.{appended}
use Rattle.zd_report.proofs.entries.add_line.Goals as goal

-- each field in turn, from the last back to the first
pub returns : goal.returns
returns c =
    appended c.push_str-2.result _ _ (10 ∷ []) _ c.push_str-2.ensures.bytes (rw (
      c.in_ok-add_number.ensures,
      c.in_ok-push_str.ensures.bytes,
      c.in_ok-add_reply.ensures,
      c.in_ok-add_what.ensures,
      c.in_ok-add_field-3.ensures,
      c.in_ok-add_field-2.ensures,
      c.in_ok-add_field.ensures,
      c.from.ensures,
      c.from-2.ensures,
      c.from-3.ensures,
    ) (sym (entry_line (shown_entry c.args.entry.now) (string_bytes c.args.text.now))))
