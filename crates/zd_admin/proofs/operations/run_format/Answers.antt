use Rattle.std.proofs.Common.{sym, ◌∙◌, subst, inl}
use Rattle.zd_admin.specs.Admin.{AskedLeaves, EndsAsked}
use Rattle.zd_admin.specs.declared.outcome.Outcome.{Outcome}
use Rattle.zd_admin.specs.declared.words.Asked.TheVariants.{Format}
use Rattle.zd_admin.proofs.EndLaws.{format_device, format_ends, format_leaves}
use Rattle.zd_admin.proofs.operations.run_format.Goals as goal

pub returns-clause-ended : goal.returns-clause-ended
returns-clause-ended g c =
    let u = g.D.ZonedDisk.view c.args.disk in
    let v = g.D.ZonedDisk.view c.format_disk-answer.new.disk in
    subst (λ (o : Outcome). EndsAsked (Format c.args.reserved c.args.volume) u v o) (sym c.format_outcome.ensures)
    (format_ends c.args.reserved c.args.volume u v c.format_disk-answer.result c.format_disk-answer.ensures.layout
    c.format_disk-answer.ensures.unfit)

pub returns-clause-leaves : goal.returns-clause-leaves
returns-clause-leaves g c =
    let u = g.D.ZonedDisk.view c.args.disk in
    let v = g.D.ZonedDisk.view c.format_disk-answer.new.disk in
    subst (λ (o : Outcome). AskedLeaves (Format c.args.reserved c.args.volume) o u v) (sym c.format_outcome.ensures)
    (format_leaves c.args.reserved c.args.volume u v c.format_disk-answer.result c.format_disk-answer.ensures.ok
    (λ unfit. c.format_disk-answer.ensures.same (inl unfit)))

pub returns-clause-cause : goal.returns-clause-cause
returns-clause-cause g c device =
    c.format_disk-answer.ensures.cause (format_device c.format_disk-answer.result (sym c.format_outcome.ensures ∙ device))
