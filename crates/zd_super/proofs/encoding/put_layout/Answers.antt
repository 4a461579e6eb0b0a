use Rattle.zd_super.proofs.FrontLaws.{joined}
use Rattle.zd_super.proofs.encoding.put_layout.Goals as goal

pub returns-clause-front : goal.returns-clause-front
returns-clause-front c = joined _ _ _ _ _ _ _ _ _ _ _ c.put_u32.ensures.front c.put_u32-2.ensures.front c.put_u32-3.ensures.front
    c.put_u32-4.ensures.front c.put_u32-5.ensures.front
