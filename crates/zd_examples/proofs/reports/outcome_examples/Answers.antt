use Rattle.std.proofs.Common.{refl}
use Rattle.zd_model.specs.Text.{numeral}
use Rattle.zd_examples.proofs.reports.outcome_examples.Goals as goal

pub returns-clause-map : goal.returns-clause-map
unfolding numeral
returns-clause-map c = refl

pub returns-clause-bits : goal.returns-clause-bits
unfolding numeral
returns-clause-bits c = refl
