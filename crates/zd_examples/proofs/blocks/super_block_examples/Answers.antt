use Rattle.std.proofs.Common.{refl}
use Rattle.zd_model.specs.Bytes.{u32_at, u64_at}
use Rattle.zd_model.specs.Super.{block_of, has_zero_tail, fields_end, decoded, behind_crc, crc_of}
use Rattle.zd_examples.proofs.blocks.super_block_examples.Goals as goal

pub returns-clause-first : goal.returns-clause-first
unfolding block_of behind_crc u32_at
returns-clause-first c = refl

pub returns-clause-second : goal.returns-clause-second
unfolding block_of behind_crc u32_at
returns-clause-second c = refl

pub returns-clause-late : goal.returns-clause-late
unfolding block_of behind_crc u32_at
returns-clause-late c = refl

pub returns-clause-decoded : goal.returns-clause-decoded
unfolding block_of decoded behind_crc crc_of u32_at u64_at has_zero_tail fields_end
returns-clause-decoded c = refl
