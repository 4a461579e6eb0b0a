use Rattle.std.proofs.Common.{sym, ◌∙◌, subst}
use Rattle.zd_admin.specs.Admin.{AskedLeaves, EndsAsked}
use Rattle.zd_admin.specs.declared.outcome.Outcome.{Outcome}
use Rattle.zd_admin.specs.declared.words.Asked.TheVariants.{Repair}
use Rattle.zd_admin.proofs.RepairLaws.{repair_device, repair_done, repair_ends, repair_failed, repair_leaves}
use Rattle.zd_admin.proofs.operations.run_repair.Goals as goal

pub returns-in-Ok-clause-ended : goal.returns-in-Ok-clause-ended
returns-in-Ok-clause-ended g c =
    repair_done (g.D.ZonedDisk.view c.args.disk) (g.D.ZonedDisk.view c.in-Ok.disk) c.in-Ok.dropped c.in-Ok.ensures.ok

pub returns-in-Ok-clause-leaves : goal.returns-in-Ok-clause-leaves
returns-in-Ok-clause-leaves g c = (c.in-Ok.dropped, c.in-Ok.ensures.ok)

pub returns-in-Err-clause-ended : goal.returns-in-Err-clause-ended
returns-in-Err-clause-ended g c =
    let u = g.D.ZonedDisk.view c.args.disk in
    let v = g.D.ZonedDisk.view c.in-Err.disk in
    subst (λ (o : Outcome). EndsAsked Repair u v o) (sym c.repair_outcome.ensures)
    (repair_ends u v c.in-Err.fault c.in-Err.ensures.err)

pub returns-in-Err-clause-leaves : goal.returns-in-Err-clause-leaves
returns-in-Err-clause-leaves g c =
    let u = g.D.ZonedDisk.view c.args.disk in
    let v = g.D.ZonedDisk.view c.in-Err.disk in
    subst (λ (o : Outcome). AskedLeaves Repair o u v) (sym c.repair_outcome.ensures)
    (repair_leaves u v c.in-Err.fault c.in-Err.ensures.leaves)

pub returns-in-Err-clause-kept : goal.returns-in-Err-clause-kept
returns-in-Err-clause-kept g c = record {
  way = c.in-Err.ensures.way;
  kept = c.in-Err.ensures.kept;
  settled = λ flushed. c.in-Err.ensures.settled
      (λ is. flushed (c.repair_outcome.ensures ∙ repair_failed c.in-Err.fault is));
}

pub returns-in-Err-clause-cause : goal.returns-in-Err-clause-cause
returns-in-Err-clause-cause g c device =
    repair_device (g.D.ZonedDisk.view c.args.disk) (g.D.ZonedDisk.view c.in-Err.disk) c.in-Err.fault c.in-Err.ensures.leaves
    (sym c.repair_outcome.ensures ∙ device)
