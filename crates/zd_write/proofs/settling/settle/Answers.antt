use Rattle.zd_write.proofs.SettleLaws.{settles_bare}
use Rattle.zd_write.proofs.settling.settle.Goals as goal

pub returns-then-is_bare-clause-settles : goal.returns-then-is_bare-clause-settles
returns-then-is_bare-clause-settles g c =
    let did = c.promote.ensures.promoted in
    settles_bare c.args.v.now.plain c.promote.new.self.plain c.args.chunk did.0 did.1 did.2 did.3
