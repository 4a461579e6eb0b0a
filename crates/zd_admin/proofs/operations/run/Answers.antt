use Rattle.std.proofs.Common.{sym, subst}
use Rattle.zd_admin.specs.Admin.{EndsAsked}
use Rattle.zd_admin.specs.declared.words.Asked.{Asked}
use Rattle.zd_admin.proofs.operations.run.Goals as goal

pub returns-in-Relabel-clause-ended : goal.returns-in-Relabel-clause-ended
returns-in-Relabel-clause-ended g c =
    subst (λ (a : Asked). EndsAsked a (g.D.ZonedDisk.view c.args.disk) (g.D.ZonedDisk.view c.run_relabel.result.1) c.run_relabel.result.0)
    (sym c.in-Relabel.is) c.run_relabel.ensures.ended

pub returns-in-Upgrade-clause-ended : goal.returns-in-Upgrade-clause-ended
returns-in-Upgrade-clause-ended g c =
    subst (λ (a : Asked). EndsAsked a (g.D.ZonedDisk.view c.args.disk) (g.D.ZonedDisk.view c.run_upgrade.result.1) c.run_upgrade.result.0)
    (sym c.in-Upgrade.is) c.run_upgrade.ensures.ended
