-- What a report tells.
use Rattle.std.specs.Prelude.{◌≡◌, ℕ, List}
use Rattle.std.specs.List.{AllByRecursion}
use Rattle.zd_model.specs.History.{HistoryEntry}
use Rattle.zd_model.specs.Report.{IsReported, report}
use Rattle.zd_model.specs.declared.requests.Ending.{Ending}

-- the bytes are the report of no other history and of no other ending
abbrev pub TellsOnly : List ℕ → List HistoryEntry → Ending → Type 0
TellsOnly bytes history ending = (other : List HistoryEntry) (last : Ending) →
    AllByRecursion IsReported other → report other last ≡ bytes →
    (other ≡ history) × (last ≡ ending)
