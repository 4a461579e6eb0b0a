-- A report tells its history and its ending.
use Rattle.std.proofs.Common.{◌≡◌, ℕ, List, ◌∙◌}
use Rattle.std.specs.List.{AllByRecursion}
use Rattle.zd_model.specs.History.{HistoryEntry}
use Rattle.zd_model.specs.Report.{IsReported, report}
use Rattle.zd_model.specs.declared.requests.Ending.{Ending}
use Rattle.zd_model.proofs.ReportLaws.{same_report}
use Rattle.zd_report.specs.Told.{TellsOnly}

pub tells_only : (bytes : List ℕ) (history : List HistoryEntry) (ending : Ending) → AllByRecursion IsReported history → bytes ≡ report history ending → TellsOnly bytes history ending
tells_only bytes history ending reported is other last shown same =
    let one = same_report other history last ending shown reported (same ∙ is) in
    (one.entries, one.endings_are)
