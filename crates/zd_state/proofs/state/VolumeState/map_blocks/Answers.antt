use Rattle.std.proofs.Common.{◌≡◌, ap}
use Rattle.zd_model.specs.Tables.{entry_of}
use Rattle.zd_volume.specs.Flights.{tables_now}
use Rattle.zd_state.proofs.MapSteps.{fields_there, flags_there, marks_in_steps, other_inside, range_in_steps, zone_field}
use Rattle.zd_state.proofs.MapSteps.{zone_inside}
use Rattle.zd_state.specs.Seen.{KeptState}
use Rattle.zd_state.proofs.state.VolumeState.map_blocks.Goals as goal

pub map_entry-requires-clause-entry : goal.map_entry-requires-clause-entry
map_entry-requires-clause-entry c =
    let v = c.args.self.now.plain in
    let names : c.entry-entry.result ≡ entry_of (tables_now v) c.range_of-chunk.result.0 =
    rw (← c.self.view_is) (rw c.self.invariant at c.entry-entry.ensures) in
    fields_there v c.requires.fixed c.args.piece.now.what c.args.place c.args.zone c.requires.route c.requires.piece
    c.range_of-chunk.result.0 c.range_of-chunk.result.1 c.range_of-chunk.result.2 c.range_of-chunk.ensures.chunk
    c.range_of-chunk.ensures.first c.range_of-chunk.ensures.count c.entry-entry.result names

pub map_entry-requires-clause-zone : goal.map_entry-requires-clause-zone
map_entry-requires-clause-zone c =
    let v = c.args.self.now.plain in
    let names : c.entry-entry.result ≡ entry_of (tables_now v) c.range_of-chunk.result.0 =
    rw (← c.self.view_is) (rw c.self.invariant at c.entry-entry.ensures) in
    zone_field v c.requires.fixed c.args.piece.now.what c.args.place c.args.zone c.requires.route c.requires.piece
    c.range_of-chunk.result.0 c.range_of-chunk.result.1 c.range_of-chunk.result.2 c.range_of-chunk.ensures.chunk
    c.range_of-chunk.ensures.first c.range_of-chunk.ensures.count c.entry-entry.result names

pub give_blocks-requires-clause-zone : goal.give_blocks-requires-clause-zone
give_blocks-requires-clause-zone c =
    let v = c.args.self.now.plain in
    let names : c.entry-entry.result ≡ entry_of (tables_now v) c.range_of-chunk.result.0 =
    rw (← c.self.view_is) (rw c.self.invariant at c.entry-entry.ensures) in
    zone_inside v c.requires.fixed c.args.piece.now.what c.args.place c.args.zone c.requires.route c.requires.piece
    c.range_of-chunk.result.0 c.range_of-chunk.result.1 c.range_of-chunk.result.2 c.range_of-chunk.ensures.chunk
    c.range_of-chunk.ensures.first c.range_of-chunk.ensures.count c.entry-entry.result names
    c.map_entry.new.self.plain (ap (λ (k : KeptState). k.plain) c.map_entry.ensures.rest)

pub give_blocks-requires-2-clause-flags : goal.give_blocks-requires-2-clause-flags
give_blocks-requires-2-clause-flags c =
    let v = c.args.self.now.plain in
    let names : c.entry-entry.result ≡ entry_of (tables_now v) c.range_of-chunk.result.0 =
    rw (← c.self.view_is) (rw c.self.invariant at c.entry-entry.ensures) in
    flags_there v c.requires.fixed c.args.piece.now.what c.args.place c.args.zone c.requires.route c.requires.piece
    c.range_of-chunk.result.0 c.range_of-chunk.result.1 c.range_of-chunk.result.2 c.range_of-chunk.ensures.chunk
    c.range_of-chunk.ensures.first c.range_of-chunk.ensures.count c.entry-entry.result names
    c.map_entry.new.self.plain (ap (λ (k : KeptState). k.plain) c.map_entry.ensures.rest) c.map_entry.ensures.gives
    c.give_blocks.new.self.plain (ap (λ (k : KeptState). k.plain) c.give_blocks.ensures.rest) c.give_blocks.ensures.gives

pub give_blocks-requires-2-clause-zone : goal.give_blocks-requires-2-clause-zone
give_blocks-requires-2-clause-zone c =
    let v = c.args.self.now.plain in
    let names : c.entry-entry.result ≡ entry_of (tables_now v) c.range_of-chunk.result.0 =
    rw (← c.self.view_is) (rw c.self.invariant at c.entry-entry.ensures) in
    rw c.other_zone.ensures
    (other_inside v c.requires.fixed c.args.piece.now.what c.args.place c.args.zone c.requires.route c.requires.piece
    c.range_of-chunk.result.0 c.range_of-chunk.result.1 c.range_of-chunk.result.2 c.range_of-chunk.ensures.chunk
    c.range_of-chunk.ensures.first c.range_of-chunk.ensures.count c.entry-entry.result names
    c.map_entry.new.self.plain (ap (λ (k : KeptState). k.plain) c.map_entry.ensures.rest) c.map_entry.ensures.gives
    c.give_blocks.new.self.plain (ap (λ (k : KeptState). k.plain) c.give_blocks.ensures.rest) c.give_blocks.ensures.gives)

pub returns-clause-range : goal.returns-clause-range
returns-clause-range c =
    let v = c.args.self.now.plain in
    let names : c.entry-entry.result ≡ entry_of (tables_now v) c.range_of-chunk.result.0 =
    rw (← c.self.view_is) (rw c.self.invariant at c.entry-entry.ensures) in
    range_in_steps v c.requires.fixed c.args.piece.now.what c.args.place c.args.zone c.requires.route c.requires.piece
    c.range_of-chunk.result.0 c.range_of-chunk.result.1 c.range_of-chunk.result.2 c.range_of-chunk.ensures.chunk
    c.range_of-chunk.ensures.first c.range_of-chunk.ensures.count c.entry-entry.result names
    c.map_entry.new.self.plain (ap (λ (k : KeptState). k.plain) c.map_entry.ensures.rest) c.map_entry.ensures.gives
    c.give_blocks.new.self.plain (ap (λ (k : KeptState). k.plain) c.give_blocks.ensures.rest) c.give_blocks.ensures.gives
    c.give_blocks-2.new.self.plain (rw c.other_zone.ensures at c.give_blocks-2.ensures.gives)

pub returns-clause-marks : goal.returns-clause-marks
returns-clause-marks c =
    let v = c.args.self.now.plain in
    let names : c.entry-entry.result ≡ entry_of (tables_now v) c.range_of-chunk.result.0 =
    rw (← c.self.view_is) (rw c.self.invariant at c.entry-entry.ensures) in
    marks_in_steps v c.requires.fixed c.args.piece.now.what c.args.place c.args.zone c.requires.route c.requires.piece
    c.range_of-chunk.result.0 c.range_of-chunk.result.1 c.range_of-chunk.result.2 c.range_of-chunk.ensures.chunk
    c.range_of-chunk.ensures.first c.range_of-chunk.ensures.count c.entry-entry.result names
    c.map_entry.new.self.plain (ap (λ (k : KeptState). k.plain) c.map_entry.ensures.rest) c.map_entry.ensures.gives
    c.give_blocks.new.self.plain (ap (λ (k : KeptState). k.plain) c.give_blocks.ensures.rest) c.give_blocks.ensures.gives
    c.give_blocks-2.new.self.plain (rw c.other_zone.ensures at c.give_blocks-2.ensures.gives)
