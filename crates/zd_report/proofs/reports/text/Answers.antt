use Rattle.std.proofs.Common.{◌≡◌, rules}
use Rattle.std.specs.Prelude.{IfOk}
use Rattle.zd_model.specs.Report.{report}
use Rattle.zd_report.proofs.Ok.{each_ok}
use Rattle.zd_report.proofs.Told.{tells_only}
use Rattle.zd_report.specs.Told.{TellsOnly}
use Rattle.zd_report.proofs.reports.text.Goals as goal

pub returns-clause-told : goal.returns-clause-told
unfolding report
returns-clause-told c =
    let history = c.args.history.now.items in
    let ending = c.args.ending.now in
    let is : IfOk c.map_err.result (λ v. v.items ≡ report history ending) = search rules in
    each_ok c.map_err.result (λ v. v.items ≡ report history ending) (λ v. TellsOnly v.items history ending) (λ v same. tells_only v.items history ending c.requires.reported same) is
