use Rattle.std.proofs.Common.{List, subst}
use Rattle.zd_model.specs.declared.requests.Piece.{Piece}
use Rattle.zd_steps.specs.Queues.{AreLinkedFrom}
use Rattle.zd_steps.proofs.EnterLaws.{none_entered}
use Rattle.zd_steps.proofs.heads.Heads.new.Goals as goal

pub returns-clause-none : goal.returns-clause-none
returns-clause-none c =
    none_entered c.args.pieces.items c.link_all-heads.new.links.items c.link_all-heads.result
    (subst (λ (ps : List Piece). AreLinkedFrom ps c.link_all-heads.new.links.items c.link_all-heads.result 0)
    c.deref.ensures.value c.link_all-heads.ensures)
