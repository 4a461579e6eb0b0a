use Rattle.std.proofs.Common.{refl}
use Rattle.zd_disk.proofs.ToldLaws.{OnErr-at, OnOk-at}
use Rattle.zd_volume.proofs.CodeCalls.{flush_failed, flush_made, phase_after_flush}
use Rattle.zd_state.proofs.volume.Volume.flush_inside.Goals as goal

pub invariant_of-self : goal.invariant_of-self
invariant_of-self g c =
    let w = c.flush-flushed in
    rw (c.fail.ensures.plain)
    (flush_failed c.self.inside.state.plain (g.D.ZonedDisk.view c.self.inside.opening.value)
    (g.D.ZonedDisk.view c.self.inside.disk) (g.D.ZonedDisk.view w.new.self)
    (rw (← c.self.view_is) at c.requires.running) c.self.invariant w.ensures.same w.ensures.call
    c.args.flushes.now c.requires.flushes (OnErr-at w.result _ c.if-is_err.ensures.negation w.ensures.cause))

pub invariant_of-self-2 : goal.invariant_of-self-2
invariant_of-self-2 g c =
    let w = c.flush-flushed in
    rw (c.advance.ensures, c.flush_after.ensures, c.phase.ensures)
    (flush_made c.self.inside.state.plain (g.D.ZonedDisk.view c.self.inside.opening.value)
    (g.D.ZonedDisk.view c.self.inside.disk) (g.D.ZonedDisk.view w.new.self)
    (rw (← c.self.view_is) at c.requires.running) c.self.invariant w.ensures.same w.ensures.call
    c.next_dirty-next.result (rw (← c.self.view_is) at c.requires.phase) c.next_dirty-next.ensures
    (OnOk-at w.result _ c.if-is_err.ensures.negation w.ensures.durable))

pub returns-clause-step : goal.returns-clause-step
returns-clause-step g c =
    rw (← c.self.view_is, c.advance.ensures, c.flush_after.ensures, c.phase.ensures)
    (record {
      phase = phase_after_flush c.self.inside.state.plain.phase c.next_dirty-next.result c.self.inside.state.plain.dirty
          (rw (← c.self.view_is) at c.requires.phase) c.next_dirty-next.ensures;
      rest = refl;
    })
