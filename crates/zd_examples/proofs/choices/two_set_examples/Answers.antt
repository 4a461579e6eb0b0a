use Rattle.std.proofs.Common.{refl}
use Rattle.zd_examples.specs.Blocks.{short_block}
use Rattle.zd_model.specs.Super.{decoded, crc_of, has_zero_tail, fields_end}
use Rattle.zd_model.specs.Bytes.{u32_at, u64_at}
use Rattle.zd_examples.proofs.choices.two_set_examples.Goals as goal

pub returns-clause-tie : goal.returns-clause-tie
unfolding short_block decoded crc_of has_zero_tail fields_end u32_at u64_at
returns-clause-tie c = refl

pub returns-clause-newer : goal.returns-clause-newer
unfolding short_block decoded crc_of has_zero_tail fields_end u32_at u64_at
returns-clause-newer c = refl

pub returns-clause-older : goal.returns-clause-older
unfolding short_block decoded crc_of has_zero_tail fields_end u32_at u64_at
returns-clause-older c = refl

pub returns-clause-larger : goal.returns-clause-larger
unfolding short_block decoded crc_of has_zero_tail fields_end u32_at u64_at
returns-clause-larger c = refl

pub returns-clause-as_large : goal.returns-clause-as_large
unfolding short_block decoded crc_of has_zero_tail fields_end u32_at u64_at
returns-clause-as_large c = refl

pub returns-clause-elsewhere : goal.returns-clause-elsewhere
unfolding short_block decoded crc_of has_zero_tail fields_end u32_at u64_at
returns-clause-elsewhere c = refl

pub returns-clause-not_behind : goal.returns-clause-not_behind
unfolding short_block decoded crc_of has_zero_tail fields_end u32_at u64_at
returns-clause-not_behind c = refl

pub returns-clause-spoilt : goal.returns-clause-spoilt
unfolding short_block decoded crc_of has_zero_tail fields_end u32_at u64_at
returns-clause-spoilt c = refl

pub returns-clause-two_zones : goal.returns-clause-two_zones
unfolding short_block decoded crc_of has_zero_tail fields_end u32_at u64_at
returns-clause-two_zones c = refl

pub returns-clause-last_zone : goal.returns-clause-last_zone
unfolding short_block decoded crc_of has_zero_tail fields_end u32_at u64_at
returns-clause-last_zone c = refl

pub returns-clause-sequential : goal.returns-clause-sequential
unfolding short_block decoded crc_of has_zero_tail fields_end u32_at u64_at
returns-clause-sequential c = refl

pub returns-clause-no_size : goal.returns-clause-no_size
unfolding short_block decoded crc_of has_zero_tail fields_end u32_at u64_at
returns-clause-no_size c = refl

pub returns-clause-newer_in_2 : goal.returns-clause-newer_in_2
unfolding short_block decoded crc_of has_zero_tail fields_end u32_at u64_at
returns-clause-newer_in_2 c = refl

pub returns-clause-newer_in_1 : goal.returns-clause-newer_in_1
unfolding short_block decoded crc_of has_zero_tail fields_end u32_at u64_at
returns-clause-newer_in_1 c = refl
