use Rattle.zd_model.specs.Bytes.{IsSector}
use Rattle.zd_model.specs.History.{last_array}
use Rattle.zd_model.proofs.TouchLaws.{touched}
use Rattle.zd_model.proofs.CutLaws.{pieces_cut}
use Rattle.zd_model.proofs.SectorLaws.{each-at, pattern-sector}
use Rattle.zd_model.proofs.ArrayLaws.{length-last_array}
use Rattle.zd_model.proofs.ReplyLaws.{answers-reported, each-from, last-sectors}
use Rattle.zd_model.proofs.StopLaws.{parted}
use Rattle.zd_model.proofs.laws.request_laws.Goals as goal

pub returns-clause-blocks : goal.returns-clause-blocks
returns-clause-blocks c = touched

pub returns-clause-pieces : goal.returns-clause-pieces
returns-clause-pieces c = pieces_cut

pub returns-clause-pattern : goal.returns-clause-pattern
returns-clause-pattern c = pattern-sector

pub returns-clause-flush : goal.returns-clause-flush
returns-clause-flush c = parted

pub returns-clause-array : goal.returns-clause-array
returns-clause-array c base history sectors = (
  length-last_array base history,
  each-at IsSector (last_array base history) (last-sectors base history (each-from IsSector base sectors)),
)

pub returns-clause-reported : goal.returns-clause-reported
returns-clause-reported c base history sectors legal =
    answers-reported base history (each-from IsSector base sectors) legal.answers
