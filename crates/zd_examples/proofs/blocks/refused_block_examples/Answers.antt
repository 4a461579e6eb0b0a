use Rattle.std.proofs.Common.{refl}
use Rattle.zd_examples.specs.Blocks.{short_block}
use Rattle.zd_model.specs.Super.{decoded, crc_of, has_zero_tail, fields_end}
use Rattle.zd_model.specs.Bytes.{u32_at, u64_at}
use Rattle.zd_examples.proofs.blocks.refused_block_examples.Goals as goal

pub returns-clause-right : goal.returns-clause-right
unfolding short_block decoded crc_of has_zero_tail fields_end u32_at u64_at
returns-clause-right c = refl

pub returns-clause-late : goal.returns-clause-late
unfolding short_block decoded crc_of has_zero_tail fields_end u32_at u64_at
returns-clause-late c = refl

pub returns-clause-nothing : goal.returns-clause-nothing
unfolding short_block decoded crc_of has_zero_tail fields_end u32_at u64_at
returns-clause-nothing c = refl

pub returns-clause-magic : goal.returns-clause-magic
unfolding short_block decoded crc_of has_zero_tail fields_end u32_at u64_at
returns-clause-magic c = refl

pub returns-clause-version : goal.returns-clause-version
unfolding short_block decoded crc_of has_zero_tail fields_end u32_at u64_at
returns-clause-version c = refl

pub returns-clause-other_version : goal.returns-clause-other_version
unfolding short_block decoded crc_of has_zero_tail fields_end u32_at u64_at
returns-clause-other_version c = refl

pub returns-clause-crc : goal.returns-clause-crc
unfolding short_block decoded crc_of has_zero_tail fields_end u32_at u64_at
returns-clause-crc c = refl

pub returns-clause-label : goal.returns-clause-label
unfolding short_block decoded crc_of has_zero_tail fields_end u32_at u64_at
returns-clause-label c = refl

pub returns-clause-unsigned : goal.returns-clause-unsigned
unfolding short_block decoded crc_of has_zero_tail fields_end u32_at u64_at
returns-clause-unsigned c = refl

pub returns-clause-tail_begins : goal.returns-clause-tail_begins
unfolding short_block decoded crc_of has_zero_tail fields_end u32_at u64_at
returns-clause-tail_begins c = refl

pub returns-clause-tail_ends : goal.returns-clause-tail_ends
unfolding short_block decoded crc_of has_zero_tail fields_end u32_at u64_at
returns-clause-tail_ends c = refl
