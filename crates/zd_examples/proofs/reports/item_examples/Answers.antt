use Rattle.std.proofs.Common.{refl}
use Rattle.zd_model.specs.Report.{report, entry_text, row_of}
use Rattle.zd_model.specs.Text.{numeral}
use Rattle.zd_model.specs.Plain.{pattern}
use Rattle.zd_model.specs.Bytes.{zero_sector, u32_at}
use Rattle.zd_examples.proofs.reports.item_examples.Goals as goal

pub returns-clause-seeds : goal.returns-clause-seeds
unfolding report entry_text row_of numeral pattern zero_sector u32_at
returns-clause-seeds c = refl

pub returns-clause-seed_zero : goal.returns-clause-seed_zero
unfolding report entry_text row_of numeral pattern zero_sector u32_at
returns-clause-seed_zero c = refl

pub returns-clause-other_place : goal.returns-clause-other_place
unfolding report entry_text row_of numeral pattern zero_sector u32_at
returns-clause-other_place c = refl

pub returns-clause-nearly : goal.returns-clause-nearly
unfolding report entry_text row_of numeral pattern zero_sector u32_at
returns-clause-nearly c = refl

pub returns-clause-digits : goal.returns-clause-digits
unfolding report entry_text row_of numeral pattern zero_sector u32_at
returns-clause-digits c = refl

pub returns-clause-apart : goal.returns-clause-apart
unfolding report entry_text row_of numeral pattern zero_sector u32_at
returns-clause-apart c = refl

pub returns-clause-inside : goal.returns-clause-inside
unfolding report entry_text row_of numeral pattern zero_sector u32_at
returns-clause-inside c = refl
