use Rattle.std.proofs.Common.{◌≡◌, Some, ap}
use Rattle.zd_base.specs.declared.steps.StepKind.{StepKind}
use Rattle.zd_disk.proofs.ToldLaws.{IfSome-at, OnErr-at, OnOk-at}
use Rattle.zd_jobs.specs.NextSteps.{IsNextOf}
use Rattle.zd_jobs.proofs.KeptReads.{kept_copy_read, kept_copy_read_failed}
use Rattle.zd_jobs.proofs.WorkLaws.{source_low}
use Rattle.zd_state.specs.Seen.{KeptState}
use Rattle.zd_state.proofs.CopySteps.{fails_read, found_for_read, reads_in_steps, run_in_zone, step_under_way}
use Rattle.zd_state.proofs.volume.Volume.copy_read.Goals as goal

pub unwrap-run-requires : goal.unwrap-run-requires
unwrap-run-requires g c =
    let v = c.self.inside.state.plain in
    let is : c.self.inside.state.plain.job ≡ Some c.unwrap-work.result =
    rw (← c.self-inside.view_is) c.unwrap-work.ensures in
    let job : c.args.self.now.plain.job ≡ Some c.unwrap-work.result = rw (← c.self.view_is) is in
    let now : IsNextOf c.args.self.now.plain c.unwrap-work.result StepKind.CopyRead =
    step_under_way c.args.self.now.plain c.unwrap-work.result StepKind.CopyRead c.requires.next job in
    let next : IsNextOf c.self.inside.state.plain c.unwrap-work.result StepKind.CopyRead =
    rw (← c.self.view_is) at now in
    found_for_read v c.unwrap-work.result next c.next_run.result c.next_run.ensures.none

pub read_ahead-requires-clause-zone : goal.read_ahead-requires-clause-zone
read_ahead-requires-clause-zone g c =
    let v = c.self.inside.state.plain in
    let run = IfSome-at c.next_run.result c.unwrap-run.result _ c.unwrap-run.ensures c.next_run.ensures.some in
    let is : c.self.inside.state.plain.job ≡ Some c.unwrap-work.result =
    rw (← c.self-inside.view_is) c.unwrap-work.ensures in
    source_low v c.unwrap-work.result c.self.invariant.fixed is c.unwrap-run.result.zone run.1

pub read_ahead-requires-clause-below : goal.read_ahead-requires-clause-below
read_ahead-requires-clause-below g c i there =
    let v = c.self.inside.state.plain in
    let is : c.self.inside.state.plain.job ≡ Some c.unwrap-work.result =
    rw (← c.self-inside.view_is) c.unwrap-work.ensures in
    let run = IfSome-at c.next_run.result c.unwrap-run.result _ c.unwrap-run.ensures c.next_run.ensures.some in
    run_in_zone v c.unwrap-work.result (g.D.ZonedDisk.view c.self.inside.opening.value)
    (g.D.ZonedDisk.view c.self.inside.disk) (rw (← c.self.view_is) at c.requires.running) c.self.invariant is
    c.unwrap-run.result.zone c.unwrap-run.result.at c.unwrap-run.result.count run.0 run.1 i there

pub invariant_of-self : goal.invariant_of-self
invariant_of-self g c =
    let v = c.self.inside.state.plain in
    kept_copy_read_failed v c.stop_by_device.new.self.plain (g.D.ZonedDisk.view c.self.inside.opening.value)
    (g.D.ZonedDisk.view c.self.inside.disk) (g.D.ZonedDisk.view c.read_ahead.new.disk)
    (rw (← c.self.view_is) at c.requires.running) c.self.invariant
    (fails_read v c.read_ahead.new.state.plain c.stop_by_device.new.self.plain
    (ap (λ (k : KeptState). k.plain) c.read_ahead.ensures.rest) c.read_ahead.ensures.size
    (ap (λ (k : KeptState). k.plain) c.stop_by_device.ensures)) c.read_ahead.ensures.reads
    (OnErr-at c.read_ahead.result _ c.if-is_err.ensures.negation c.read_ahead.ensures.cause)

pub invariant_of-self-2 : goal.invariant_of-self-2
invariant_of-self-2 g c =
    let v = c.self.inside.state.plain in
    let run = IfSome-at c.next_run.result c.unwrap-run.result _ c.unwrap-run.ensures c.next_run.ensures.some in
    let is : c.self.inside.state.plain.job ≡ Some c.unwrap-work.result =
    rw (← c.self-inside.view_is) c.unwrap-work.ensures in
    let job : c.args.self.now.plain.job ≡ Some c.unwrap-work.result = rw (← c.self.view_is) is in
    let now : IsNextOf c.args.self.now.plain c.unwrap-work.result StepKind.CopyRead =
    step_under_way c.args.self.now.plain c.unwrap-work.result StepKind.CopyRead c.requires.next job in
    let next : IsNextOf c.self.inside.state.plain c.unwrap-work.result StepKind.CopyRead =
    rw (← c.self.view_is) at now in
    kept_copy_read v c.note_read.new.self.plain c.unwrap-work.result c.unwrap-run.result.at c.unwrap-run.result.count
    (g.D.ZonedDisk.view c.self.inside.opening.value) (g.D.ZonedDisk.view c.self.inside.disk)
    (g.D.ZonedDisk.view c.read_ahead.new.disk) c.self.invariant is
    (reads_in_steps v c.read_ahead.new.state.plain c.note_read.new.self.plain c.unwrap-work.result
    c.unwrap-run.result.zone c.unwrap-run.result.at c.unwrap-run.result.count run.0 run.1
    (ap (λ (k : KeptState). k.plain) c.read_ahead.ensures.rest) c.read_ahead.ensures.size
    (g.D.ZonedDisk.view c.self.inside.disk).zones
    next
    (ap (λ (k : KeptState). k.plain) c.note_read.ensures)
    (OnOk-at c.read_ahead.result _ c.if-is_err.ensures.negation c.read_ahead.ensures.value)) c.read_ahead.ensures.reads

pub returns-clause-ok : goal.returns-clause-ok
returns-clause-ok g c =
    let v = c.self.inside.state.plain in
    let run = IfSome-at c.next_run.result c.unwrap-run.result _ c.unwrap-run.ensures c.next_run.ensures.some in
    let is : c.self.inside.state.plain.job ≡ Some c.unwrap-work.result =
    rw (← c.self-inside.view_is) c.unwrap-work.ensures in
    let job : c.args.self.now.plain.job ≡ Some c.unwrap-work.result = rw (← c.self.view_is) is in
    let now : IsNextOf c.args.self.now.plain c.unwrap-work.result StepKind.CopyRead =
    step_under_way c.args.self.now.plain c.unwrap-work.result StepKind.CopyRead c.requires.next job in
    let next : IsNextOf c.self.inside.state.plain c.unwrap-work.result StepKind.CopyRead =
    rw (← c.self.view_is) at now in
    rw (← c.self.view_is) (
      c.unwrap-work.result,
      c.unwrap-run.result.at,
      c.unwrap-run.result.count,
      is,
      reads_in_steps v c.read_ahead.new.state.plain c.note_read.new.self.plain c.unwrap-work.result
          c.unwrap-run.result.zone c.unwrap-run.result.at c.unwrap-run.result.count run.0 run.1
          (ap (λ (k : KeptState). k.plain) c.read_ahead.ensures.rest) c.read_ahead.ensures.size
          (g.D.ZonedDisk.view c.self.inside.disk).zones next (ap (λ (k : KeptState). k.plain) c.note_read.ensures)
          (OnOk-at c.read_ahead.result _ c.if-is_err.ensures.negation c.read_ahead.ensures.value),
    )
