use Rattle.std.proofs.Common.{◌≡◌, Option, Some, sym, subst}
use Rattle.zd_volume.specs.declared.work.Work.{Work}
use Rattle.zd_jobs.specs.NextSteps.{IsNextOf, IsNextStep}
use Rattle.zd_state.proofs.volume.Volume.next_of_job.Goals as goal

pub returns : goal.returns
returns g c =
    let job : c.args.self.now.plain.job ≡ Some c.in_ok-work.work =
    rw (← c.self.view_is, ← c.self-inside.view_is) c.in_ok-work.was in
    let next : IsNextOf c.args.self.now.plain c.in_ok-work.work c.step_of.result =
    rw (← c.self.view_is) c.step_of.ensures in
    subst (λ (job : Option Work). IsNextStep c.args.self.now.plain job (Some c.step_of.result)) (sym job) next
