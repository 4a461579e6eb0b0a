use Rattle.std.proofs.Common.{sym, ◌∙◌}
use Rattle.std.proofs.lemmas.List.{append-nil}
use Rattle.std.specs.List.{flat_map}
use Rattle.zd_model.specs.Script.{line_text}
use Rattle.zd_model.proofs.RefusalLaws.{one_refusal, script_stands}
use Rattle.zd_model.proofs.LineLaws.{one_plan}
use Rattle.zd_model.proofs.ReportLaws.{same_output, same_report, report_output, tells_status}
use Rattle.zd_model.proofs.laws.text_laws.Goals as goal

pub returns-clause-script : goal.returns-clause-script
returns-clause-script c bytes plan other h k =
    one_plan plan other
    (sym (append-nil (flat_map line_text plan)) ∙ sym h.lines.text ∙ k.lines.text ∙ append-nil (flat_map line_text other))

pub returns-clause-refusal : goal.returns-clause-refusal
returns-clause-refusal c bytes plan m n why other refused =
    ((λ script. script_stands bytes plan script refused), (λ again. one_refusal bytes refused again))

pub returns-clause-output : goal.returns-clause-output
returns-clause-output c history other outcome last h k e =
    let same = same_output history other outcome last h k e in (same.entries, same.outcomes_are)

pub returns-clause-report : goal.returns-clause-report
returns-clause-report c history other ending last h k e =
    let same = same_report history other ending last h k e in (same.entries, same.endings_are)

pub returns-clause-ended : goal.returns-clause-ended
returns-clause-ended c = report_output

pub returns-clause-status : goal.returns-clause-status
returns-clause-status c = tells_status
