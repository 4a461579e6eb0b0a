use Rattle.std.proofs.Common.{refl}
use Rattle.zd_disk.proofs.ToldLaws.{OnErr-at, OnOk-at}
use Rattle.zd_volume.proofs.CodeCalls.{due_failed, due_made, phase_after_due}
use Rattle.zd_state.proofs.volume.Volume.put_block.Goals as goal

pub invariant_of-self : goal.invariant_of-self
invariant_of-self g c =
    let w = c.write_block-written in
    rw (c.fail.ensures.plain)
    (due_failed c.self.inside.state.plain (g.D.ZonedDisk.view c.self.inside.opening.value)
    (g.D.ZonedDisk.view c.self.inside.disk) (g.D.ZonedDisk.view w.new.disk)
    (rw (← c.self.view_is) at c.requires.running) c.self.invariant c.args.k c.next_dirty-next.result
    c.next_dirty-next.ensures c.args.in_place (rw (← c.self.view_is) at c.requires.due)
    (rw (c.first_zone-first.ensures, c.geometry.ensures, c.block-block.ensures) at w.ensures.call)
    c.args.flushes.now c.requires.flushes
    (OnErr-at w.result _ c.if-is_err.ensures.negation w.ensures.cause)
    (rw (c.first_zone-first.ensures, c.geometry.ensures, c.block-block.ensures) at
    (OnErr-at w.result _ c.if-is_err.ensures.negation w.ensures.err)))

pub returns-then-is_err-clause-call : goal.returns-then-is_err-clause-call
returns-then-is_err-clause-call g c =
    rw (← c.self.view_is)
    (rw (c.first_zone-first.ensures, c.geometry.ensures, c.block-block.ensures) at c.write_block-written.ensures.call)

pub invariant_of-self-2 : goal.invariant_of-self-2
invariant_of-self-2 g c =
    let w = c.write_block-written in
    rw (c.advance.ensures, c.block_after.ensures)
    (due_made c.self.inside.state.plain (g.D.ZonedDisk.view c.self.inside.opening.value)
    (g.D.ZonedDisk.view c.self.inside.disk) (g.D.ZonedDisk.view w.new.disk)
    (rw (← c.self.view_is) at c.requires.running) c.self.invariant c.args.k c.next_dirty-next.result
    c.next_dirty-next.ensures c.args.in_place (rw (← c.self.view_is) at c.requires.due)
    (rw (c.first_zone-first.ensures, c.geometry.ensures, c.block-block.ensures) at w.ensures.call)
    (rw (c.first_zone-first.ensures, c.geometry.ensures, c.block-block.ensures) at
    (OnOk-at w.result _ c.if-is_err.ensures.negation w.ensures.ok)))

pub returns-clause-step : goal.returns-clause-step
returns-clause-step g c =
    rw (← c.self.view_is, c.advance.ensures, c.block_after.ensures)
    (record {
      phase = phase_after_due c.self.inside.state.plain c.args.in_place c.args.k c.next_dirty-next.result
          (rw (← c.self.view_is) at c.requires.due) c.next_dirty-next.ensures;
      rest = refl;
    })

pub returns-clause-call : goal.returns-clause-call
returns-clause-call g c =
    rw (← c.self.view_is)
    (rw (c.first_zone-first.ensures, c.geometry.ensures, c.block-block.ensures) at c.write_block-written.ensures.call)
