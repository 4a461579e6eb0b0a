use Rattle.std.proofs.Common.{refl}
use Rattle.zd_model.specs.Report.{run_output, report, entry_text, row_of}
use Rattle.zd_model.specs.Text.{numeral}
use Rattle.zd_model.specs.Plain.{pattern}
use Rattle.zd_model.specs.Bytes.{zero_sector, u32_at}
use Rattle.zd_examples.proofs.reports.output_examples.Goals as goal

pub returns-clause-faulty : goal.returns-clause-faulty
unfolding run_output report entry_text row_of numeral pattern zero_sector u32_at
returns-clause-faulty c = refl

pub returns-clause-flush : goal.returns-clause-flush
unfolding run_output report entry_text row_of numeral pattern zero_sector u32_at
returns-clause-flush c = refl

pub returns-clause-usage : goal.returns-clause-usage
unfolding run_output report entry_text row_of numeral pattern zero_sector u32_at
returns-clause-usage c = refl

pub returns-clause-ended : goal.returns-clause-ended
unfolding run_output report entry_text row_of numeral pattern zero_sector u32_at
returns-clause-ended c = refl
