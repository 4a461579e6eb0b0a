use Rattle.std.proofs.Common.{◌≡◌, ◌∙◌, ap, arith}
use Rattle.zd_model.specs.Tables.{entry_of}
use Rattle.zd_volume.specs.Flights.{tables_now}
use Rattle.zd_routes.proofs.FixedWrites.{length-pointers_with}
use Rattle.zd_routes.proofs.GoalLaws.{goal_data}
use Rattle.zd_state.proofs.WriteSteps.{rules_written, writes_in_steps}
use Rattle.zd_state.specs.Seen.{KeptState}
use Rattle.zd_state.proofs.state.VolumeState.map_write.Goals as goal

pub take_goal-requires : goal.take_goal-requires
take_goal-requires c =
    let v = c.args.self.now.plain in
    let names : c.entry-entry.result ≡ entry_of (tables_now v) c.range_of-chunk.result.0 =
    rw (← c.self.view_is) (rw c.self.invariant at c.entry-entry.ensures) in
    rw (names, c.range_of-chunk.ensures.chunk, c.map_blocks.ensures.rest) c.requires.route.goal

pub move_pointer-requires : goal.move_pointer-requires
move_pointer-requires c =
    let v = c.args.self.now.plain in
    let low = (goal_data v c.requires.fixed c.args.piece.now.what c.args.place c.args.zone c.requires.route).1 in
    let size = c.requires.fixed.pointers in
    rw (c.take_goal.ensures.rest, c.map_blocks.ensures.rest) (record { zone = omega (arith, low, size) })

pub reclass-requires-clause-rules : goal.reclass-requires-clause-rules
reclass-requires-clause-rules c =
    let v = c.args.self.now.plain in
    let first = c.range_of-chunk.ensures.first in
    let count = c.range_of-chunk.ensures.count in
    rules_written v c.requires.fixed c.args.piece.now c.args.place c.args.zone c.requires.route
    c.range_of-chunk.result.0 _ c.range_of-chunk.ensures.chunk (omega (arith, first, count))
    c.map_blocks.new.self.plain (ap (λ (k : KeptState). k.plain) c.map_blocks.ensures.rest) c.map_blocks.ensures.range
    c.map_blocks.ensures.marks c.take_goal.new.self.plain (ap (λ (k : KeptState). k.plain) c.take_goal.ensures.rest)
    c.move_pointer.new.self.plain (ap (λ (k : KeptState). k.plain) c.move_pointer.ensures)

pub reclass-requires-clause-pointers : goal.reclass-requires-clause-pointers
reclass-requires-clause-pointers c =
    let v = c.args.self.now.plain in
    rw (c.move_pointer.ensures, c.take_goal.ensures.rest, c.map_blocks.ensures.rest)
    (length-pointers_with v.geometry v.pointers c.args.zone _ ∙ c.requires.fixed.pointers)

pub returns-clause-wrote : goal.returns-clause-wrote
returns-clause-wrote c =
    let v = c.args.self.now.plain in
    let first = c.range_of-chunk.ensures.first in
    let count = c.range_of-chunk.ensures.count in
    writes_in_steps v c.requires.fixed c.args.piece.now c.args.place c.args.zone c.requires.route
    c.range_of-chunk.result.0 _ c.range_of-chunk.ensures.chunk (omega (arith, first, count))
    c.map_blocks.new.self.plain (ap (λ (k : KeptState). k.plain) c.map_blocks.ensures.rest) c.map_blocks.ensures.range
    c.map_blocks.ensures.marks c.take_goal.new.self.plain (ap (λ (k : KeptState). k.plain) c.take_goal.ensures.rest)
    c.move_pointer.new.self.plain (ap (λ (k : KeptState). k.plain) c.move_pointer.ensures)
    c.reclass.new.self.plain (ap (λ (k : KeptState). k.plain) c.reclass.ensures.rest)
    c.touch.new.self.plain (ap (λ (k : KeptState). k.plain) c.touch.ensures.rest)
    c.enter_write.new.self.plain c.enter_write.ensures.plain
    c.take_goal.ensures.zones c.take_goal.ensures.conv c.take_goal.ensures.order c.reclass.ensures.gives
    c.touch.ensures.order c.touch.ensures.zones c.touch.ensures.conv c.touch.ensures.numbers c.touch.ensures.classes
