use Rattle.std.proofs.Common.{◌≡◌, ◌<◌, ◌-◌, ◌^◌, false, refl, inl, inr}
use Rattle.zd_volume.specs.CommitCalls.{IsBlockDue}
use Rattle.zd_volume.specs.Uses.{dirty_from}
use Rattle.zd_volume.proofs.CallsLeft.{dirty_none}
use Rattle.zd_volume.proofs.CodeCalls.{alone_call, due_call, generation_left, phase_call, some_dirty}
use Rattle.zd_volume.proofs.CommitStarts.{kept_stopped}
use Rattle.zd_volume.proofs.Still.{only_nothing}
use Rattle.zd_state.proofs.volume.Volume.begin.Goals as goal

pub flush_last-requires-clause-last : goal.flush_last-requires-clause-last
flush_last-requires-clause-last g c =
    (c.requires.phase, rw (← c.self.view_is) (dirty_none c.self.inside.state.plain.dirty 1 c.in_default.ensures))

pub returns-in_default-clause-call : goal.returns-in_default-clause-call
returns-in_default-clause-call g c =
    let none : dirty_from c.args.self.now.plain.dirty 1 ≡ 0 =
    rw (← c.self.view_is) (dirty_none c.self.inside.state.plain.dirty 1 c.in_default.ensures) in
    phase_call c.args.self.now.plain c.flush_last.new.self.plain c.args.flushes.now c.flush_last.result
    (g.D.ZonedDisk.view c.args.self.now.disk) (g.D.ZonedDisk.view c.flush_last.new.self.disk) (inr none)
    c.flush_last.ensures.step
    (alone_call c.args.self.now.plain (g.D.ZonedDisk.view c.args.self.now.disk)
    (g.D.ZonedDisk.view c.flush_last.new.self.disk) c.requires.phase none c.flush_last.ensures.call)

pub invariant_of-self : goal.invariant_of-self
invariant_of-self g c =
    rw (c.stop.ensures)
    (kept_stopped c.self.inside.state.plain (g.D.ZonedDisk.view c.self.inside.opening.value)
    (g.D.ZonedDisk.view c.self.inside.disk) c.self.invariant)

pub returns-then-is_last_generation-clause-step : goal.returns-then-is_last_generation-clause-step
returns-then-is_last_generation-clause-step g c =
    let v = c.self.inside.state.plain in (
      c.requires.phase,
      rw (← c.self.view_is) (some_dirty v.dirty c.in-Some.k c.in-Some.ensures),
      rw (← c.self.view_is) (c.if-is_last_generation.ensures.0 refl),
      rw (← c.self.view_is, c.stop.ensures) refl,
    )

pub returns-then-is_last_generation-clause-call : goal.returns-then-is_last_generation-clause-call
returns-then-is_last_generation-clause-call g c =
    rw (← c.self.view_is) (only_nothing (g.D.ZonedDisk.view c.self.inside.disk), refl)

pub put_block-requires-clause-due : goal.put_block-requires-clause-due
put_block-requires-clause-due g c =
    let v = c.self.inside.state.plain in
    rw (← c.self.view_is)
    (inr (
      rw (← c.self.view_is) at c.requires.phase,
      c.in-Some.ensures,
      generation_left v c.self.invariant.fixed
          (λ last. (let no = c.if-is_last_generation.ensures.1 last in let f : ⊥ = cc in f)),
    ))

pub returns-clause-call : goal.returns-clause-call
returns-clause-call g c =
    let v = c.self.inside.state.plain in
    let small : v.head.generation < 2 ^ 64 - 1 = generation_left v c.self.invariant.fixed
    (λ last. (let no = c.if-is_last_generation.ensures.1 last in let f : ⊥ = cc in f)) in
    let due : IsBlockDue false v c.in-Some.k = inr (rw (← c.self.view_is) at c.requires.phase, c.in-Some.ensures, small) in
    phase_call c.args.self.now.plain c.put_block.new.self.plain c.args.flushes.now c.put_block.result
    (g.D.ZonedDisk.view c.args.self.now.disk) (g.D.ZonedDisk.view c.put_block.new.self.disk)
    (inl (rw (← c.self.view_is) small)) c.put_block.ensures.step
    (due_call c.args.self.now.plain false c.in-Some.k (g.D.ZonedDisk.view c.args.self.now.disk)
    (g.D.ZonedDisk.view c.put_block.new.self.disk) (rw (← c.self.view_is) due) c.put_block.ensures.call)
