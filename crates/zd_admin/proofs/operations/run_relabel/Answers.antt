use Rattle.std.proofs.Common.{sym, ◌∙◌, subst}
use Rattle.zd_admin.specs.Admin.{EndsAsked}
use Rattle.zd_admin.specs.declared.outcome.Outcome.{Outcome}
use Rattle.zd_admin.specs.declared.words.Asked.TheVariants.{Relabel}
use Rattle.zd_admin.proofs.HeadEnds.{relabel_done, relabel_ends, relabel_open}
use Rattle.zd_admin.proofs.operations.run_relabel.Goals as goal

pub returns-in-Ok-clause-ended : goal.returns-in-Ok-clause-ended
returns-in-Ok-clause-ended g c =
    relabel_done c.args.label (g.D.ZonedDisk.view c.args.disk) (g.D.ZonedDisk.view c.in-Ok.disk) c.in-Ok.ensures.ok

pub returns-in-Err-clause-ended : goal.returns-in-Err-clause-ended
returns-in-Err-clause-ended g c =
    let u = g.D.ZonedDisk.view c.args.disk in
    let v = g.D.ZonedDisk.view c.in-Err.disk in
    subst (λ (o : Outcome). EndsAsked (Relabel c.args.label) u v o) (sym c.relabel_outcome.ensures)
    (relabel_ends c.args.label u v c.in-Err.fault c.in-Err.ensures.err c.in-Err.ensures.leaves)

pub returns-in-Err-clause-kept : goal.returns-in-Err-clause-kept
returns-in-Err-clause-kept g c = record {
  way = c.in-Err.ensures.way;
  kept = c.in-Err.ensures.kept;
  settled = λ flushed. c.in-Err.ensures.settled
      (λ is. flushed (c.relabel_outcome.ensures ∙ relabel_open c.in-Err.fault is));
}
