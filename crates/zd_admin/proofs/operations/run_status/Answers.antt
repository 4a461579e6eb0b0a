use Rattle.std.proofs.Common.{sym, ◌∙◌, subst}
use Rattle.zd_admin.specs.Admin.{AskedLeaves, EndsAsked}
use Rattle.zd_admin.specs.declared.outcome.Outcome.{Outcome}
use Rattle.zd_admin.specs.declared.words.Asked.TheVariants.{Show}
use Rattle.zd_admin.proofs.EndLaws.{status_device, status_ends, status_leaves}
use Rattle.zd_admin.proofs.operations.run_status.Goals as goal

pub returns-clause-ended : goal.returns-clause-ended
returns-clause-ended g c =
    let u = g.D.ZonedDisk.view c.args.disk in
    let v = g.D.ZonedDisk.view c.volume_status-answer.new.disk in
    subst (λ (o : Outcome). EndsAsked Show u v o) (sym c.status_outcome.ensures)
    (status_ends u v c.volume_status-answer.result c.volume_status-answer.ensures.ok c.volume_status-answer.ensures.err)

pub returns-clause-leaves : goal.returns-clause-leaves
returns-clause-leaves g c =
    let u = g.D.ZonedDisk.view c.args.disk in
    let v = g.D.ZonedDisk.view c.volume_status-answer.new.disk in
    subst (λ (o : Outcome). AskedLeaves Show o u v) (sym c.status_outcome.ensures)
    (status_leaves u v c.volume_status-answer.result c.volume_status-answer.ensures.ok c.volume_status-answer.ensures.reads)

pub returns-clause-cause : goal.returns-clause-cause
returns-clause-cause g c device =
    c.volume_status-answer.ensures.cause (status_device c.volume_status-answer.result (sym c.status_outcome.ensures ∙ device))
