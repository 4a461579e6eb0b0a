use Rattle.std.proofs.Common.{refl}
use Rattle.zd_model.specs.Bytes.{zero_sector, u32_at}
use Rattle.zd_examples.specs.Requests.{zero_volume}
use Rattle.zd_examples.proofs.images.content_examples.Goals as goal

pub returns-clause-fresh : goal.returns-clause-fresh
unfolding zero_volume zero_sector u32_at
returns-clause-fresh c = refl

pub returns-clause-conventional : goal.returns-clause-conventional
unfolding zero_volume zero_sector u32_at
returns-clause-conventional c = refl

pub returns-clause-sequential : goal.returns-clause-sequential
unfolding zero_volume zero_sector u32_at
returns-clause-sequential c = refl

pub returns-clause-stray : goal.returns-clause-stray
unfolding zero_volume zero_sector u32_at
returns-clause-stray c = refl

pub returns-clause-buffered : goal.returns-clause-buffered
unfolding zero_volume zero_sector u32_at
returns-clause-buffered c = refl

pub returns-clause-entry : goal.returns-clause-entry
unfolding u32_at
returns-clause-entry c = refl

pub returns-clause-last_zone : goal.returns-clause-last_zone
unfolding zero_volume zero_sector u32_at
returns-clause-last_zone c = refl

pub returns-clause-bare : goal.returns-clause-bare
unfolding zero_volume zero_sector u32_at
returns-clause-bare c = refl
