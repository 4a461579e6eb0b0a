use Rattle.std.proofs.Common.{refl}
use Rattle.zd_disk.proofs.ToldLaws.{OnErr-at, OnOk-at}
use Rattle.zd_volume.proofs.CodeCalls.{next_super, phase_after_super, super_failed, super_made}
use Rattle.zd_state.proofs.volume.Volume.put_super.Goals as goal

pub invariant_of-self : goal.invariant_of-self
invariant_of-self g c =
    let w = c.write_super-written in
    let v = c.self.inside.state.plain in
    let phase = rw (← c.self.view_is) at c.requires.phase in
    rw (c.fail.ensures.plain)
    (super_failed v (g.D.ZonedDisk.view c.self.inside.opening.value)
    (g.D.ZonedDisk.view c.self.inside.disk) (g.D.ZonedDisk.view w.new.disk)
    (rw (← c.self.view_is) at c.requires.running) c.self.invariant
    c.args.in_place phase (next_super v c.self.invariant.fixed c.args.in_place phase)
    (rw (c.first_zone-first.ensures, c.next_head-head.ensures) at w.ensures.call)
    c.args.flushes.now c.requires.flushes
    (OnErr-at w.result _ c.if-is_err.ensures.negation w.ensures.cause)
    (rw (c.first_zone-first.ensures, c.next_head-head.ensures) at
    (OnErr-at w.result _ c.if-is_err.ensures.negation w.ensures.err)))

pub returns-then-is_err-clause-call : goal.returns-then-is_err-clause-call
returns-then-is_err-clause-call g c =
    rw (← c.self.view_is) (rw (c.first_zone-first.ensures, c.next_head-head.ensures) at c.write_super-written.ensures.call)

pub invariant_of-self-2 : goal.invariant_of-self-2
invariant_of-self-2 g c =
    let w = c.write_super-written in
    let v = c.self.inside.state.plain in
    let phase = rw (← c.self.view_is) at c.requires.phase in
    rw (c.advance.ensures, c.super_after.ensures)
    (super_made v (g.D.ZonedDisk.view c.self.inside.opening.value)
    (g.D.ZonedDisk.view c.self.inside.disk) (g.D.ZonedDisk.view w.new.disk)
    (rw (← c.self.view_is) at c.requires.running) c.self.invariant
    c.args.in_place phase (next_super v c.self.invariant.fixed c.args.in_place phase)
    (rw (c.first_zone-first.ensures, c.next_head-head.ensures) at w.ensures.call)
    (rw (c.first_zone-first.ensures, c.next_head-head.ensures) at
    (OnOk-at w.result _ c.if-is_err.ensures.negation w.ensures.ok)))

pub returns-clause-step : goal.returns-clause-step
returns-clause-step g c =
    rw (← c.self.view_is, c.advance.ensures, c.super_after.ensures)
    (record {
      phase = rw (rw (← c.self.view_is) at c.requires.phase)
          (phase_after_super c.args.in_place c.self.inside.state.plain.dirty);
      rest = refl;
    })

pub returns-clause-call : goal.returns-clause-call
returns-clause-call g c =
    rw (← c.self.view_is) (rw (c.first_zone-first.ensures, c.next_head-head.ensures) at c.write_super-written.ensures.call)
