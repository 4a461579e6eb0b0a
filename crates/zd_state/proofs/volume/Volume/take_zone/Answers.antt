use Rattle.std.proofs.Common.{◌≡◌, ℕ, set, ap, subst}
use Rattle.zd_base.specs.declared.numbers.Why.{Why}
use Rattle.zd_disk.specs.Told.{next_count}
use Rattle.zd_disk.proofs.ToldLaws.{OnErr-at, OnOk-at}
use Rattle.zd_jobs.proofs.KeptBegins.{kept_begins}
use Rattle.zd_jobs.proofs.KeptResets.{kept_begins_reset, kept_reset_failed}
use Rattle.zd_state.specs.Seen.{KeptState}
use Rattle.zd_state.proofs.JobStarts.{begins_reset, begins_still, one_to_reset, reset_done, reset_failed}
use Rattle.zd_state.proofs.volume.Volume.take_zone.Goals as goal

pub invariant_of-self : goal.invariant_of-self
invariant_of-self g c =
    let v = c.self.inside.state.plain in
    let starts = c.begin_job.ensures.begins in
    kept_begins v c.begin_job.new.self.plain c.args.job starts.0 (g.D.ZonedDisk.view c.self.inside.opening.value)
    (g.D.ZonedDisk.view c.self.inside.disk) c.self.invariant (rw (← c.self.view_is) at c.requires.free)
    (rw (← c.self.view_is) at c.requires.possible)
    (begins_still v c.begin_job.new.self.plain c.args.job starts.0 starts.1 c.in_default.ensures.none)

pub returns-in_default-clause-reset : goal.returns-in_default-clause-reset
returns-in_default-clause-reset g c = λ zone has. absurd (c.in_default.ensures.none zone (rw (← c.self.view_is) at has))

pub invariant_of-self-then-is_err : goal.invariant_of-self-then-is_err
invariant_of-self-then-is_err g c =
    let v = c.self.inside.state.plain in
    kept_reset_failed v c.stop_by_call.new.self.plain c.in-Some.zone (g.D.ZonedDisk.view c.self.inside.opening.value)
    (g.D.ZonedDisk.view c.self.inside.disk) (g.D.ZonedDisk.view c.reset.new.self)
    (rw (← c.self.view_is) at c.requires.running) c.self.invariant c.in-Some.ensures.some.1
    (ap (λ (k : KeptState). k.plain) c.stop_by_call.ensures)
    (OnErr-at c.reset.result _ c.if-is_err.ensures.negation c.reset.ensures.cause)
    (OnErr-at c.reset.result _ c.if-is_err.ensures.negation c.reset.ensures.err) c.reset.ensures.call

pub returns-then-is_err-clause-reset : goal.returns-then-is_err-clause-reset
returns-then-is_err-clause-reset g c =
    let v = c.self.inside.state.plain in
    rw (← c.self.view_is) (λ zone has. (
      reset_failed v c.args.job.kind c.in-Some.zone zone c.in-Some.ensures.some has
          (g.D.ZonedDisk.view c.self.inside.disk) (g.D.ZonedDisk.view c.reset.new.self) c.reset.ensures.call Why.Device
          (OnErr-at c.reset.result _ c.if-is_err.ensures.negation c.reset.ensures.err)
          (OnErr-at c.reset.result _ c.if-is_err.ensures.negation c.reset.ensures.cause),
      tt,
    ))

pub invariant_of-self-2 : goal.invariant_of-self-2
invariant_of-self-2 g c =
    let v = c.self.inside.state.plain in
    let starts = c.begin_job-2.ensures.begins in
    kept_begins_reset v c.count_reset.new.self.plain c.args.job starts.0 c.in-Some.zone
    (g.D.ZonedDisk.view c.self.inside.opening.value)
    (g.D.ZonedDisk.view c.self.inside.disk) (g.D.ZonedDisk.view c.reset.new.self)
    (rw (← c.self.view_is) at c.requires.running) c.self.invariant (rw (← c.self.view_is) at c.requires.free)
    (rw (← c.self.view_is) at c.requires.possible)
    (begins_reset v c.begin_job-2.new.self.plain c.args.job starts.0 starts.1 c.in-Some.zone c.in-Some.ensures.some
    c.count_reset.new.self.plain (ap (λ (k : KeptState). k.plain) c.count_reset.ensures))
    (OnOk-at c.reset.result _ c.if-is_err.ensures.negation c.reset.ensures.ok) c.reset.ensures.call

pub returns-clause-reset : goal.returns-clause-reset
returns-clause-reset g c =
    let v = c.self.inside.state.plain in
    let starts = c.begin_job-2.ensures.begins in
    rw (← c.self.view_is) (λ zone has. (
      reset_done v c.args.job.kind c.in-Some.zone zone c.in-Some.ensures.some has
          (g.D.ZonedDisk.view c.self.inside.disk) (g.D.ZonedDisk.view c.reset.new.self) c.reset.ensures.call tt
          (OnOk-at c.reset.result _ c.if-is_err.ensures.negation c.reset.ensures.ok),
      (
        starts.0,
        begins_reset v c.begin_job-2.new.self.plain c.args.job starts.0 starts.1 zone has c.count_reset.new.self.plain
            (subst (λ (z : ℕ). c.count_reset.new.self.plain ≡ record c.begin_job-2.new.self.plain {
              pointers = set c.begin_job-2.new.self.plain.pointers z 0;
              since = next_count c.begin_job-2.new.self.plain.since;
            }) (one_to_reset v c.args.job.kind c.in-Some.zone zone c.in-Some.ensures.some has)
            (ap (λ (k : KeptState). k.plain) c.count_reset.ensures)),
      ),
    ))
