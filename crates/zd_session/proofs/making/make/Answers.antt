use Rattle.std.proofs.Common.{Some, subst, sym}
use Rattle.zd_session.specs.Moving.{seen_by}
use Rattle.zd_session.specs.SessionSteps.{Makes}
use Rattle.zd_steps.specs.declared.step.Step.{Step}
use Rattle.zd_session.proofs.making.make.Goals as goal

pub returns-in-Serve-clause-makes : goal.returns-in-Serve-clause-makes
returns-in-Serve-clause-makes g c plan pieces =
    subst (λ (s : Step). Makes g.D.ZonedDisk.view (seen_by c.args.volume.now plan c.args.progress.now)
    (seen_by c.serve.new.volume plan c.serve.new.progress) c.args.actor (Some s)) (sym c.in-Serve.is)
    (c.serve.ensures.serves plan)
