use Rattle.std.proofs.Common.{sym, ◌∙◌, subst}
use Rattle.zd_admin.specs.Admin.{AskedLeaves, EndsAsked}
use Rattle.zd_admin.specs.declared.outcome.Outcome.{Outcome}
use Rattle.zd_admin.specs.declared.words.Asked.TheVariants.{Check}
use Rattle.zd_admin.proofs.EndLaws.{check_device, check_ends, check_leaves}
use Rattle.zd_admin.proofs.operations.run_check.Goals as goal

pub returns-clause-ended : goal.returns-clause-ended
returns-clause-ended g c =
    let u = g.D.ZonedDisk.view c.args.disk in
    let v = g.D.ZonedDisk.view c.check-answer.new.disk in
    subst (λ (o : Outcome). EndsAsked Check u v o) (sym c.check_outcome.ensures)
    (check_ends u v c.check-answer.result c.check-answer.ensures.ok c.check-answer.ensures.err)

pub returns-clause-leaves : goal.returns-clause-leaves
returns-clause-leaves g c =
    let u = g.D.ZonedDisk.view c.args.disk in
    let v = g.D.ZonedDisk.view c.check-answer.new.disk in
    subst (λ (o : Outcome). AskedLeaves Check o u v) (sym c.check_outcome.ensures)
    (check_leaves u v c.check-answer.result c.check-answer.ensures.ok c.check-answer.ensures.reads)

pub returns-clause-cause : goal.returns-clause-cause
returns-clause-cause g c device =
    c.check-answer.ensures.cause (check_device c.check-answer.result (sym c.check_outcome.ensures ∙ device))
