use Rattle.std.proofs.Common.{List, ℕ, ◌++◌, sym, ap, ◌∙◌, take, append_assoc}
use Rattle.std.specs.List.{flat_map}
use Rattle.std.specs.Prelude.{string_bytes}
use Rattle.zd_model.specs.Entries.{shown_entry}
use Rattle.zd_model.specs.Report.{entry_text}
use Rattle.zd_report.proofs.Found.{flat_map_found}
use Rattle.zd_report.proofs.entries.add_lines.Goals as goal

pub loop-i-preserved : goal.loop-i-preserved
loop-i-preserved c =
    let before = string_bytes c.args.text.now in
    let entries = c.args.history.now.items in
    let line = entry_text (shown_entry c.get.result.now) in
    c.in_ok-add_line.ensures ∙ ap (λ (l : List ℕ). l ++ line) c.loop-i.invariant
    ∙ append_assoc before (flat_map entry_text (take c.loop-i.i entries)) line
    ∙ ap (λ (l : List ℕ). before ++ l) (sym (flat_map_found entry_text entries c.loop-i.i (shown_entry c.get.result.now) c.get.ensures))
