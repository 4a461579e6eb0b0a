use Rattle.zd_disk.proofs.ToldLaws.{OnErr-at, OnOk-at}
use Rattle.zd_volume.proofs.CodeCalls.{at_end, end_made, ends_as, flush_failed}
use Rattle.zd_state.proofs.volume.Volume.flush_last.Goals as goal

pub invariant_of-self : goal.invariant_of-self
invariant_of-self g c =
    let w = c.flush-flushed in
    rw (c.fail.ensures.plain)
    (flush_failed c.self.inside.state.plain (g.D.ZonedDisk.view c.self.inside.opening.value)
    (g.D.ZonedDisk.view c.self.inside.disk) (g.D.ZonedDisk.view w.new.self)
    (rw (← c.self.view_is) at c.requires.running) c.self.invariant w.ensures.same w.ensures.call
    c.args.flushes.now c.requires.flushes (OnErr-at w.result _ c.if-is_err.ensures.negation w.ensures.cause))

pub invariant_of-self-2 : goal.invariant_of-self-2
invariant_of-self-2 g c =
    let w = c.flush-flushed in
    let v = c.self.inside.state.plain in
    rw (c.end.ensures.plain)
    (end_made v (g.D.ZonedDisk.view c.self.inside.opening.value)
    (g.D.ZonedDisk.view c.self.inside.disk) (g.D.ZonedDisk.view w.new.self)
    (rw (← c.self.view_is) at c.requires.running) c.self.invariant w.ensures.same w.ensures.call
    c.args.alone (at_end v c.args.alone (rw (← c.self.view_is) at c.requires.last)) c.args.flushes.now c.requires.flushes
    _ _ _ (ends_as v c.self.invariant.fixed _ _ c.end.ensures.limbo c.end.ensures.named)
    (OnOk-at w.result _ c.if-is_err.ensures.negation w.ensures.durable))

pub returns-clause-step : goal.returns-clause-step
returns-clause-step g c =
    rw (← c.self.view_is)
    (record {
      alone = c.args.alone;
      last = rw (← c.self.view_is) at c.requires.last;
      limbo = c.end.ensures.limbo;
      rest = c.end.ensures.plain;
    })
