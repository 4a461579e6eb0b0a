use Rattle.std.specs.Prelude.{[]}
use Rattle.std.specs.Int.{w32, to_le_bytes}
use Rattle.zd_super.proofs.FrontLaws.{joined}
use Rattle.zd_super.proofs.encoding.put_numbers.Goals as goal

pub returns-clause-front : goal.returns-clause-front
returns-clause-front c = joined [] _ _ _ _ _ (to_le_bytes w32 0x445A4244) _ _ _ _ c.put_u32.ensures.front
    c.put_u32-2.ensures.front c.put_u64.ensures.front c.put_u64-2.ensures.front c.put_layout.ensures.front
