use Rattle.std.proofs.Common.{refl}
use Rattle.zd_examples.specs.Blocks.{short_block}
use Rattle.zd_model.specs.Super.{decoded, crc_of, has_zero_tail, fields_end}
use Rattle.zd_model.specs.Bytes.{u32_at, u64_at}
use Rattle.zd_examples.proofs.choices.one_set_examples.Goals as goal

pub returns-clause-blank : goal.returns-clause-blank
unfolding short_block decoded crc_of has_zero_tail fields_end u32_at u64_at
returns-clause-blank c = refl

pub returns-clause-next_zone : goal.returns-clause-next_zone
unfolding short_block decoded crc_of has_zero_tail fields_end u32_at u64_at
returns-clause-next_zone c = refl

pub returns-clause-spoilt : goal.returns-clause-spoilt
unfolding short_block decoded crc_of has_zero_tail fields_end u32_at u64_at
returns-clause-spoilt c = refl

pub returns-clause-moved : goal.returns-clause-moved
unfolding short_block decoded crc_of has_zero_tail fields_end u32_at u64_at
returns-clause-moved c = refl

pub returns-clause-two_zones : goal.returns-clause-two_zones
unfolding short_block decoded crc_of has_zero_tail fields_end u32_at u64_at
returns-clause-two_zones c = refl

pub returns-clause-last_zone : goal.returns-clause-last_zone
unfolding short_block decoded crc_of has_zero_tail fields_end u32_at u64_at
returns-clause-last_zone c = refl

pub returns-clause-sequential : goal.returns-clause-sequential
unfolding short_block decoded crc_of has_zero_tail fields_end u32_at u64_at
returns-clause-sequential c = refl

pub returns-clause-other_size : goal.returns-clause-other_size
unfolding short_block decoded crc_of has_zero_tail fields_end u32_at u64_at
returns-clause-other_size c = refl

pub returns-clause-first_decides : goal.returns-clause-first_decides
unfolding short_block decoded crc_of has_zero_tail fields_end u32_at u64_at
returns-clause-first_decides c = refl

pub returns-clause-not_its_own : goal.returns-clause-not_its_own
unfolding short_block decoded crc_of has_zero_tail fields_end u32_at u64_at
returns-clause-not_its_own c = refl
