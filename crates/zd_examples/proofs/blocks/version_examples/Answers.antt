use Rattle.std.proofs.Common.{refl}
use Rattle.zd_model.specs.Bytes.{u32_at, u64_at}
use Rattle.zd_model.specs.Super.{behind_crc, block_of, crc_of, decoded, fields_end, has_zero_tail}
use Rattle.zd_examples.specs.Blocks.{short_block}
use Rattle.zd_examples.proofs.blocks.version_examples.Goals as goal

pub returns-clause-first : goal.returns-clause-first
unfolding block_of behind_crc u32_at
returns-clause-first c = refl

pub returns-clause-second : goal.returns-clause-second
unfolding block_of behind_crc u32_at
returns-clause-second c = refl

pub returns-clause-decoded : goal.returns-clause-decoded
unfolding short_block decoded crc_of has_zero_tail fields_end u32_at u64_at
returns-clause-decoded c = refl

pub returns-clause-label : goal.returns-clause-label
unfolding short_block decoded crc_of has_zero_tail fields_end u32_at u64_at
returns-clause-label c = refl

pub returns-clause-device : goal.returns-clause-device
unfolding short_block decoded crc_of has_zero_tail fields_end u32_at u64_at
returns-clause-device c = refl

pub returns-clause-named : goal.returns-clause-named
unfolding short_block decoded crc_of has_zero_tail fields_end u32_at u64_at
returns-clause-named c = refl

pub returns-clause-none : goal.returns-clause-none
unfolding short_block decoded crc_of has_zero_tail fields_end u32_at u64_at
returns-clause-none c = refl

pub returns-clause-third : goal.returns-clause-third
unfolding short_block decoded crc_of has_zero_tail fields_end u32_at u64_at
returns-clause-third c = refl
