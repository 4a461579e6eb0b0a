use Rattle.std.proofs.Common.{get_or, refl}
use Rattle.std.proofs.lemmas.List.{get_or_default}
use Rattle.zd_steps.proofs.LinkLaws.{link_as}
use Rattle.zd_steps.proofs.heads.link.Goals as goal

pub returns : goal.returns
returns c =
    let caller = c.from-caller.ensures in
    link_as c.args.pieces.now c.args.links.now c.args.heads.now c.args.i c.from-caller.result
    (get_or c.args.heads.now c.from-caller.result 0) (get_or c.args.pieces.now c.args.i _)
    c.requires.callers c.requires.inside (get_or_default c.args.pieces.now c.args.i _ _ c.requires.inside)
    caller refl c.requires.behind
