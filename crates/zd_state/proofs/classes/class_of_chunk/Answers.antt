use Rattle.std.proofs.Common.{arith}
use Rattle.zd_state.proofs.EntryZones.{buffer_there, zone_there}
use Rattle.zd_state.proofs.classes.class_of_chunk.Goals as goal

pub first_valid-requires : goal.first_valid-requires
first_valid-requires c =
    zone_there _ _ _ c.requires.rules _ _ c.entry-entry.ensures _ c.in-Some-None.is-0

pub first_valid-requires-in-Some-Some : goal.first_valid-requires-in-Some-Some
first_valid-requires-in-Some-Some c =
    buffer_there _ _ _ c.requires.rules _ _ c.entry-entry.ensures _ c.in-Some-Some.is-1

pub bounds-pointers-zone-inside : goal.bounds-pointers-zone-inside
bounds-pointers-zone-inside c =
    let inside = zone_there _ _ _ c.requires.rules _ _ c.entry-entry.ensures _ c.in-Some-Some.is-0 in
    let same = c.zone-in-Some-Some.view_is in
    omega (arith, inside, same, c.requires.pointers)
