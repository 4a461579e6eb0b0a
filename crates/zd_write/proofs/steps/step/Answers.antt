use Rattle.zd_write.proofs.GivenJobs.{edges_given, place_given}
use Rattle.zd_write.proofs.steps.step.Goals as goal

pub write_and_map-requires-clause-place : goal.write_and_map-requires-clause-place
write_and_map-requires-clause-place g c =
    place_given c.args.v.now.plain c.give_up_on.new.v.plain c.start_of-chunk.result.0 c.give_up_on.ensures.gives
    c.sound.ensures c.args.piece.now.what c.in-Some.place c.in-Some.ensures.some

pub write_and_map-requires-clause-edges : goal.write_and_map-requires-clause-edges
write_and_map-requires-clause-edges g c =
    rw c.give_up_on.ensures.disk
    (edges_given c.args.v.now.plain c.give_up_on.new.v.plain c.start_of-chunk.result.0 c.give_up_on.ensures.gives
    (g.D.ZonedDisk.view c.args.v.now.disk).zones c.args.piece.now.what c.args.edges.now c.requires.edges)
