use Rattle.std.proofs.Common.{◌≡◌, ◌+◌, ◌∙◌, ap, length, arith}
use Rattle.std.proofs.lemmas.List.{take_at}
use Rattle.zd_state.proofs.DiscardSteps.{gives_in, second_there}
use Rattle.zd_tables.specs.Held.{tables_held}
use Rattle.zd_state.proofs.state.VolumeState.give_blocks.Goals as goal

pub mark-requires-clause-second : goal.mark-requires-clause-second
mark-requires-clause-second c =
    λ changes.
    let two =
    second_there c.self.inside.tables.geometry (rw c.geometry.ensures at c.bits_block-block.ensures.shape) c.args.valid
    (tables_held c.self.inside.tables) c.in-Some.zone c.args.first (c.args.first + c.args.count)
    (rw (← c.self.view_is) at c.requires.inside) (c.give_range-changed.ensures.parts.second.0 changes) in
    let inside =
    rw (c.geometry.ensures, c.layout.ensures.value, c.self.invariant) at c.bits_block-block.ensures.inside in
    let flags = rw (← c.self.view_is) at c.requires.flags in
    let size = ap length c.deref_mut.ensures.value in
    omega (arith, two, inside, flags, size)

pub returns-in-Some-clause-gives : goal.returns-in-Some-clause-gives
returns-in-Some-clause-gives c =
    let changed = c.give_range-changed in
    let marks =
    rw (
      c.bits_block-block.ensures.value,
      c.geometry.ensures,
      c.layout.ensures.value,
      c.self.invariant,
      c.deref_mut.ensures.value,
    ) at c.mark.ensures in
    let size : length c.mark.new.flags ≡ c.self.inside.dirty.len = c.mark.ensures.size ∙ c.deref_mut.ensures.len in
    rw (← c.self.view_is, take_at c.mark.new.flags _ c.self.inside.dirty.len size)
    (gives_in c.args.valid c.self.inside.tables.geometry c.self.inside.head.layout c.args.zone c.in-Some.zone c.args.first
    (c.args.first + c.args.count) c.in-Some.is c.self.inside.tables.bytes changed.new.tables.bytes
    c.self.inside.dirty.items c.mark.new.flags changed.result (rw c.self.invariant at changed.ensures.blocks)
    (rw c.self.invariant at changed.ensures.parts) marks)
