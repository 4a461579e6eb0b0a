use Rattle.std.proofs.Common.{◌≡◌, Some}
use Rattle.zd_base.specs.declared.steps.StepKind.{StepKind}
use Rattle.zd_jobs.specs.NextSteps.{IsNextOf}
use Rattle.zd_jobs.proofs.KeptRemaps.{kept_job_ended}
use Rattle.zd_state.proofs.CopySteps.{step_under_way}
use Rattle.zd_state.proofs.volume.Volume.remap.Goals as goal

pub invariant_of-self : goal.invariant_of-self
invariant_of-self g c =
    let is : c.self.inside.state.plain.job ≡ Some c.unwrap-work.result =
    rw (← c.self-inside.view_is) c.unwrap-work.ensures in
    let job : c.args.self.now.plain.job ≡ Some c.unwrap-work.result = rw (← c.self.view_is) is in
    let now : IsNextOf c.args.self.now.plain c.unwrap-work.result StepKind.Remap =
    step_under_way c.args.self.now.plain c.unwrap-work.result StepKind.Remap c.requires.next job in
    let next : IsNextOf c.self.inside.state.plain c.unwrap-work.result StepKind.Remap = rw (← c.self.view_is) at now in
    kept_job_ended c.self.inside.state.plain c.end_job.new.self.plain c.unwrap-work.result
    (g.D.ZonedDisk.view c.self.inside.opening.value) (g.D.ZonedDisk.view c.self.inside.disk) c.self.invariant
    (rw (← c.self.view_is) at c.requires.idle) is next c.end_job.ensures.remapped
