use Rattle.std.proofs.Common.{sym, ◌∙◌, subst}
use Rattle.zd_admin.specs.Admin.{EndsAsked, no_label}
use Rattle.zd_admin.specs.declared.outcome.Outcome.{Outcome}
use Rattle.zd_admin.specs.declared.words.Asked.TheVariants.{Upgrade}
use Rattle.zd_admin.proofs.HeadEnds.{upgrade_done, upgrade_ends, upgrade_open}
use Rattle.zd_admin.proofs.operations.run_upgrade.Goals as goal

pub returns-in-Ok-clause-ended : goal.returns-in-Ok-clause-ended
unfolding no_label
returns-in-Ok-clause-ended g c =
    upgrade_done no_label c.args.volume (g.D.ZonedDisk.view c.args.disk) (g.D.ZonedDisk.view c.in-Ok.disk) c.in-Ok.ensures.ok

pub returns-in-Err-clause-ended : goal.returns-in-Err-clause-ended
unfolding no_label
returns-in-Err-clause-ended g c =
    let u = g.D.ZonedDisk.view c.args.disk in
    let v = g.D.ZonedDisk.view c.in-Err.disk in
    subst (λ (o : Outcome). EndsAsked (Upgrade c.args.volume) u v o) (sym c.upgrade_outcome.ensures)
    (upgrade_ends no_label c.args.volume u v c.in-Err.fault c.in-Err.ensures.err c.in-Err.ensures.leaves)

pub returns-in-Err-clause-kept : goal.returns-in-Err-clause-kept
unfolding no_label
returns-in-Err-clause-kept g c = record {
  way = c.in-Err.ensures.way;
  kept = c.in-Err.ensures.kept;
  settled = λ flushed. c.in-Err.ensures.settled
      (λ is. flushed (c.upgrade_outcome.ensures ∙ upgrade_open c.in-Err.fault is));
}
