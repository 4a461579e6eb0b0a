use Rattle.zd_model.proofs.SuperLaws.{one_block, one_record}
use Rattle.zd_model.proofs.SuperSpelling.{spells}
use Rattle.zd_model.proofs.RecordLaws.{has_block}
use Rattle.zd_model.proofs.Decoded.{decodes, is_decoded}
use Rattle.zd_model.proofs.laws.super_block_laws.Goals as goal

pub returns-clause-block : goal.returns-clause-block
returns-clause-block c = spells

pub returns-clause-no_other : goal.returns-clause-no_other
returns-clause-no_other c = has_block

pub returns-clause-one_block : goal.returns-clause-one_block
returns-clause-one_block c = one_block

pub returns-clause-one_record : goal.returns-clause-one_record
returns-clause-one_record c = one_record

pub returns-clause-decoded : goal.returns-clause-decoded
returns-clause-decoded c block s bytes = (is_decoded block s bytes, decodes block s)
