use Rattle.std.proofs.Common.{refl}
use Rattle.zd_model.specs.Report.{report, entry_text, row_of}
use Rattle.zd_model.specs.Text.{numeral}
use Rattle.zd_model.specs.Plain.{pattern}
use Rattle.zd_model.specs.Bytes.{zero_sector, u32_at}
use Rattle.zd_examples.proofs.reports.report_examples.Goals as goal

pub returns-clause-empty : goal.returns-clause-empty
unfolding report entry_text row_of numeral pattern zero_sector u32_at
returns-clause-empty c = refl

pub returns-clause-nothing : goal.returns-clause-nothing
unfolding report entry_text row_of numeral pattern zero_sector u32_at
returns-clause-nothing c = refl

pub returns-clause-last : goal.returns-clause-last
unfolding report entry_text row_of numeral pattern zero_sector u32_at
returns-clause-last c = refl

pub returns-clause-two : goal.returns-clause-two
unfolding report entry_text row_of numeral pattern zero_sector u32_at
returns-clause-two c = refl

pub returns-clause-discard : goal.returns-clause-discard
unfolding report entry_text row_of numeral pattern zero_sector u32_at
returns-clause-discard c = refl

pub returns-clause-middle : goal.returns-clause-middle
unfolding report entry_text row_of numeral pattern zero_sector u32_at
returns-clause-middle c = refl

pub returns-clause-sectors : goal.returns-clause-sectors
unfolding report entry_text row_of numeral pattern zero_sector u32_at
returns-clause-sectors c = refl
