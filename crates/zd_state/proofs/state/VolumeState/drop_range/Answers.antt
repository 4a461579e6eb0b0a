use Rattle.std.proofs.Common.{◌≡◌, ◌∙◌, ◌/◌, ap, refl}
use Rattle.zd_model.specs.Tables.{entry_of}
use Rattle.zd_state.proofs.DiscardSteps.{drops_in_steps, rules_dropped}
use Rattle.zd_state.proofs.EntryZones.{buffer_there, zone_there}
use Rattle.zd_state.specs.Seen.{KeptState}
use Rattle.zd_volume.specs.Sets.{new_tables}
use Rattle.zd_volume.specs.Volumes.{sets_of}
use Rattle.zd_state.proofs.state.VolumeState.drop_range.Goals as goal

pub give_blocks-requires-clause-zone : goal.give_blocks-requires-clause-zone
give_blocks-requires-clause-zone c =
    let v = c.args.self.now.plain in
    let chunk = c.cover-block.result.0 / c.from-zone_blocks.result in
    let entry : c.entry-entry.result ≡ entry_of (new_tables (sets_of v)) chunk =
    rw (← c.self.view_is) (rw c.self.invariant at c.entry-entry.ensures) in
    λ z names.
    zone_there v.geometry v.head.layout v.fresh c.requires.fixed.sets.new_rules chunk c.entry-entry.result entry z names

pub give_blocks-requires-2-clause-zone : goal.give_blocks-requires-2-clause-zone
give_blocks-requires-2-clause-zone c =
    let v = c.args.self.now.plain in
    let chunk = c.cover-block.result.0 / c.from-zone_blocks.result in
    let entry : c.entry-entry.result ≡ entry_of (new_tables (sets_of v)) chunk =
    rw (← c.self.view_is) (rw c.self.invariant at c.entry-entry.ensures) in
    λ z names.
    rw c.give_blocks.ensures.rest
    (buffer_there v.geometry v.head.layout v.fresh c.requires.fixed.sets.new_rules chunk c.entry-entry.result entry z
    names)

pub reclass-requires-clause-rules : goal.reclass-requires-clause-rules
reclass-requires-clause-rules c =
    let v = c.args.self.now.plain in
    let chunk = c.cover-block.result.0 / c.from-zone_blocks.result in
    let entry : c.entry-entry.result ≡ entry_of (new_tables (sets_of v)) chunk =
    rw (← c.self.view_is) (rw c.self.invariant at c.entry-entry.ensures) in
    let size : c.from-zone_blocks.result ≡ v.geometry.zone_blocks =
    rw (← c.self.view_is) (c.from-zone_blocks.ensures ∙ rw c.geometry.ensures at c.zone_blocks.ensures.value) in
    rules_dropped v c.requires.fixed c.args.piece.now c.requires.piece chunk _ c.cover-block.result.1
    (rw (c.cover-block.ensures.first, size) refl) (rw (c.cover-block.ensures.first, size) refl)
    c.cover-block.ensures.count c.entry-entry.result entry
    c.give_blocks.new.self.plain (ap (λ (k : KeptState). k.plain) c.give_blocks.ensures.rest)
    c.give_blocks.ensures.gives
    c.give_blocks-2.new.self.plain (ap (λ (k : KeptState). k.plain) c.give_blocks-2.ensures.rest)
    c.give_blocks-2.ensures.gives

pub returns-clause-dropped : goal.returns-clause-dropped
returns-clause-dropped c =
    let v = c.args.self.now.plain in
    let chunk = c.cover-block.result.0 / c.from-zone_blocks.result in
    let entry : c.entry-entry.result ≡ entry_of (new_tables (sets_of v)) chunk =
    rw (← c.self.view_is) (rw c.self.invariant at c.entry-entry.ensures) in
    let size : c.from-zone_blocks.result ≡ v.geometry.zone_blocks =
    rw (← c.self.view_is) (c.from-zone_blocks.ensures ∙ rw c.geometry.ensures at c.zone_blocks.ensures.value) in
    drops_in_steps v c.requires.fixed c.args.piece.now c.requires.piece chunk _ c.cover-block.result.1
    (rw (c.cover-block.ensures.first, size) refl) (rw (c.cover-block.ensures.first, size) refl)
    c.cover-block.ensures.count c.entry-entry.result entry
    c.give_blocks.new.self.plain (ap (λ (k : KeptState). k.plain) c.give_blocks.ensures.rest)
    c.give_blocks.ensures.gives
    c.give_blocks-2.new.self.plain (ap (λ (k : KeptState). k.plain) c.give_blocks-2.ensures.rest)
    c.give_blocks-2.ensures.gives
    c.reclass.new.self.plain (ap (λ (k : KeptState). k.plain) c.reclass.ensures.rest) c.reclass.ensures.gives
    c.enter_done.new.self.plain c.enter_done.ensures.plain
