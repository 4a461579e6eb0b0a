use Rattle.std.proofs.Common.{◌≡◌, ◌*◌, Some, ap, take}
use Rattle.zd_base.specs.declared.steps.StepKind.{StepKind}
use Rattle.zd_disk.proofs.ToldLaws.{OnErr-at, OnOk-at}
use Rattle.zd_jobs.specs.NextSteps.{IsNextOf}
use Rattle.zd_jobs.proofs.KeptCopies.{kept_copy_write, kept_copy_write_failed}
use Rattle.zd_jobs.proofs.WorkLaws.{starts_at_copied, target_low}
use Rattle.zd_state.specs.Seen.{KeptState}
use Rattle.zd_state.proofs.CopySteps.{copied_filled, fails_write, fixed_filled, step_under_way}
use Rattle.zd_state.proofs.volume.Volume.copy_write.Goals as goal

pub fill_copy-count-requires-clause-next : goal.fill_copy-count-requires-clause-next
fill_copy-count-requires-clause-next g c =
    let is : c.self.inside.state.plain.job ≡ Some c.unwrap-work.result =
    rw (← c.self-inside.view_is) c.unwrap-work.ensures in
    let job : c.args.self.now.plain.job ≡ Some c.unwrap-work.result = rw (← c.self.view_is) is in
    let now : IsNextOf c.args.self.now.plain c.unwrap-work.result StepKind.CopyWrite =
    step_under_way c.args.self.now.plain c.unwrap-work.result StepKind.CopyWrite c.requires.next job in
    let next : IsNextOf c.self.inside.state.plain c.unwrap-work.result StepKind.CopyWrite =
    rw (← c.self.view_is) at now in
    next

pub put_copy-written-requires-clause-zone : goal.put_copy-written-requires-clause-zone
put_copy-written-requires-clause-zone g c =
    let is : c.self.inside.state.plain.job ≡ Some c.unwrap-work.result =
    rw (← c.self-inside.view_is) c.unwrap-work.ensures in
    rw c.fill_copy-count.ensures.rest
    (target_low c.self.inside.state.plain c.unwrap-work.result c.self.invariant.fixed is c.unwrap-zone.result
    c.unwrap-zone.ensures)

pub put_copy-written-requires-clause-pointer : goal.put_copy-written-requires-clause-pointer
put_copy-written-requires-clause-pointer g c =
    let is : c.self.inside.state.plain.job ≡ Some c.unwrap-work.result =
    rw (← c.self-inside.view_is) c.unwrap-work.ensures in
    starts_at_copied c.self.inside.state.plain c.unwrap-work.result (g.D.ZonedDisk.view c.self.inside.opening.value)
    (g.D.ZonedDisk.view c.self.inside.disk) (rw (← c.self.view_is) at c.requires.running) c.self.invariant is
    c.unwrap-zone.result c.unwrap-zone.ensures

pub invariant_of-self : goal.invariant_of-self
invariant_of-self g c =
    let is : c.self.inside.state.plain.job ≡ Some c.unwrap-work.result =
    rw (← c.self-inside.view_is) c.unwrap-work.ensures in
    kept_copy_write_failed c.self.inside.state.plain c.stop_by_call.new.self.plain c.unwrap-work.result
    c.unwrap-zone.result c.fill_copy-count.result
    (take (4096 * c.fill_copy-count.result) c.fill_copy-count.new.self.plain.buffer)
    (g.D.ZonedDisk.view c.self.inside.opening.value) (g.D.ZonedDisk.view c.self.inside.disk)
    (g.D.ZonedDisk.view c.put_copy-written.new.disk) (rw (← c.self.view_is) at c.requires.running) c.self.invariant is
    c.unwrap-zone.ensures c.fill_copy-count.ensures.copy
    (fails_write c.self.inside.state.plain c.fill_copy-count.new.self.plain
    (ap (λ (k : KeptState). k.plain) c.fill_copy-count.ensures.rest) c.fill_copy-count.ensures.size
    c.stop_by_call.new.self.plain (ap (λ (k : KeptState). k.plain) c.stop_by_call.ensures))
    (OnErr-at c.put_copy-written.result _ c.if-is_err.ensures.negation c.put_copy-written.ensures.cause)
    (OnErr-at c.put_copy-written.result _ c.if-is_err.ensures.negation c.put_copy-written.ensures.err)
    c.put_copy-written.ensures.call

pub returns-then-is_err-clause-copied : goal.returns-then-is_err-clause-copied
returns-then-is_err-clause-copied g c =
    let is : c.self.inside.state.plain.job ≡ Some c.unwrap-work.result =
    rw (← c.self-inside.view_is) c.unwrap-work.ensures in
    rw (← c.self.view_is) (
      c.unwrap-work.result,
      is,
      record {
        zone = c.unwrap-zone.result;
        count = c.fill_copy-count.result;
        bytes = take (4096 * c.fill_copy-count.result) c.fill_copy-count.new.self.plain.buffer;
        target = c.unwrap-zone.ensures;
        copy = c.fill_copy-count.ensures.copy;
        call = record {
          call = c.put_copy-written.ensures.call;
          ok = tt;
          err = OnErr-at c.put_copy-written.result _ c.if-is_err.ensures.negation c.put_copy-written.ensures.err;
          cause = OnErr-at c.put_copy-written.result _ c.if-is_err.ensures.negation c.put_copy-written.ensures.cause;
        };
        ok = tt;
        err = fails_write c.self.inside.state.plain c.fill_copy-count.new.self.plain
            (ap (λ (k : KeptState). k.plain) c.fill_copy-count.ensures.rest) c.fill_copy-count.ensures.size
            c.stop_by_call.new.self.plain (ap (λ (k : KeptState). k.plain) c.stop_by_call.ensures);
      },
    )

pub note_copy-requires-clause-fixed : goal.note_copy-requires-clause-fixed
note_copy-requires-clause-fixed g c =
    fixed_filled c.self.inside.state.plain c.fill_copy-count.new.self.plain
    (ap (λ (k : KeptState). k.plain) c.fill_copy-count.ensures.rest) c.fill_copy-count.ensures.size
    c.self.invariant.fixed

pub invariant_of-self-2 : goal.invariant_of-self-2
invariant_of-self-2 g c =
    let is : c.self.inside.state.plain.job ≡ Some c.unwrap-work.result =
    rw (← c.self-inside.view_is) c.unwrap-work.ensures in
    kept_copy_write c.self.inside.state.plain c.note_copy.new.self.plain c.unwrap-work.result
    c.unwrap-zone.result c.fill_copy-count.result
    (take (4096 * c.fill_copy-count.result) c.fill_copy-count.new.self.plain.buffer)
    (g.D.ZonedDisk.view c.self.inside.opening.value) (g.D.ZonedDisk.view c.self.inside.disk)
    (g.D.ZonedDisk.view c.put_copy-written.new.disk) (rw (← c.self.view_is) at c.requires.running) c.self.invariant is
    c.fill_copy-count.ensures.copy
    (copied_filled c.self.inside.state.plain c.fill_copy-count.new.self.plain
    (ap (λ (k : KeptState). k.plain) c.fill_copy-count.ensures.rest) c.fill_copy-count.ensures.size
    c.note_copy.new.self.plain c.unwrap-work.result c.unwrap-zone.result c.fill_copy-count.result
    c.note_copy.ensures.copied)
    (OnOk-at c.put_copy-written.result _ c.if-is_err.ensures.negation c.put_copy-written.ensures.ok)
    c.put_copy-written.ensures.call

pub returns-clause-copied : goal.returns-clause-copied
returns-clause-copied g c =
    let is : c.self.inside.state.plain.job ≡ Some c.unwrap-work.result =
    rw (← c.self-inside.view_is) c.unwrap-work.ensures in
    rw (← c.self.view_is) (
      c.unwrap-work.result,
      is,
      record {
        zone = c.unwrap-zone.result;
        count = c.fill_copy-count.result;
        bytes = take (4096 * c.fill_copy-count.result) c.fill_copy-count.new.self.plain.buffer;
        target = c.unwrap-zone.ensures;
        copy = c.fill_copy-count.ensures.copy;
        call = record {
          call = c.put_copy-written.ensures.call;
          ok = OnOk-at c.put_copy-written.result _ c.if-is_err.ensures.negation c.put_copy-written.ensures.ok;
          err = tt;
          cause = tt;
        };
        ok = copied_filled c.self.inside.state.plain c.fill_copy-count.new.self.plain
            (ap (λ (k : KeptState). k.plain) c.fill_copy-count.ensures.rest) c.fill_copy-count.ensures.size
            c.note_copy.new.self.plain c.unwrap-work.result c.unwrap-zone.result c.fill_copy-count.result
            c.note_copy.ensures.copied;
        err = tt;
      },
    )
