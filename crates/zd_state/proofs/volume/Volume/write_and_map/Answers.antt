use Rattle.std.proofs.Common.{◌*◌, ◌∙◌, ℕ, sym, ap, subst}
use Rattle.zd_disk.proofs.ToldLaws.{OnErr-at, OnOk-at}
use Rattle.zd_volume.specs.Volumes.{IsKeptVolume, PlainVolume}
use Rattle.zd_routes.proofs.GoalLaws.{goal_data}
use Rattle.zd_routes.proofs.KeptWrites.{kept_failed_write, kept_written}
use Rattle.zd_routes.proofs.MergedBlocks.{merged_by}
use Rattle.zd_routes.proofs.WriteGoals.{starts_told}
use Rattle.zd_state.proofs.volume.Volume.write_and_map.Goals as goal

pub put_blocks-written-requires-clause-zone : goal.put_blocks-written-requires-clause-zone
put_blocks-written-requires-clause-zone g c =
    (goal_data c.self.inside.state.plain c.self.invariant.fixed c.args.piece.now.what c.args.place c.route-zone.result
    c.route-zone.ensures).1

pub put_blocks-written-requires-clause-pointer : goal.put_blocks-written-requires-clause-pointer
put_blocks-written-requires-clause-pointer g c i there seq =
    ap (λ (n : ℕ). 8 * n) c.range_of-first.ensures.first
    ∙ starts_told c.self.inside.state.plain (g.D.ZonedDisk.view c.self.inside.opening.value)
    (g.D.ZonedDisk.view c.self.inside.disk) c.args.piece.now.what c.args.place c.route-zone.result
    (rw (← c.self.view_is) at c.requires.running) c.self.invariant c.route-zone.ensures i there seq

pub invariant_of-self : goal.invariant_of-self
invariant_of-self g c =
    let v = c.self.inside.state.plain in
    let opening = g.D.ZonedDisk.view c.self.inside.opening.value in
    let put = rw c.range_of-first.ensures.first at c.put_blocks-written.ensures.put in
    subst (λ (w : PlainVolume). IsKeptVolume w (g.D.ZonedDisk.view c.self.inside.opening.value)
    (g.D.ZonedDisk.view c.put_blocks-written.new.disk))
    (sym (rw c.put_blocks-written.ensures.same at c.enter_failed_write.ensures.plain))
    (kept_failed_write v c.args.piece.now c.args.place c.route-zone.result put.bytes opening
    (g.D.ZonedDisk.view c.self.inside.disk) (g.D.ZonedDisk.view c.put_blocks-written.new.disk)
    (rw (← c.self.view_is) at c.requires.running) c.self.invariant (rw (← c.self.view_is) at c.requires.idle)
    (rw (← c.self.view_is) at c.requires.piece)
    (merged_by v opening (g.D.ZonedDisk.view c.self.inside.disk) c.args.piece.now.what c.args.edges.now put.bytes
    (rw (← c.self.view_is) at c.requires.running) c.self.invariant (rw (← c.self.view_is) at c.requires.edges) put.fills)
    c.route-zone.ensures
    (OnErr-at c.put_blocks-written.result _ c.if-is_err.ensures.negation put.cause)
    (OnErr-at c.put_blocks-written.result _ c.if-is_err.ensures.negation put.err)
    put.call)

pub map_write-requires-clause-route : goal.map_write-requires-clause-route
map_write-requires-clause-route g c = rw c.put_blocks-written.ensures.same c.route-zone.ensures

pub invariant_of-self-2 : goal.invariant_of-self-2
invariant_of-self-2 g c =
    let v = c.self.inside.state.plain in
    let opening = g.D.ZonedDisk.view c.self.inside.opening.value in
    let put = rw c.range_of-first.ensures.first at c.put_blocks-written.ensures.put in
    kept_written v c.map_write.new.self.plain c.args.piece.now c.args.place c.route-zone.result put.bytes opening
    (g.D.ZonedDisk.view c.self.inside.disk) (g.D.ZonedDisk.view c.put_blocks-written.new.disk)
    (rw (← c.self.view_is) at c.requires.running) c.self.invariant (rw (← c.self.view_is) at c.requires.idle)
    (rw (← c.self.view_is) at c.requires.piece) (rw (← c.self.view_is) at c.requires.job)
    (merged_by v opening (g.D.ZonedDisk.view c.self.inside.disk) c.args.piece.now.what c.args.edges.now put.bytes
    (rw (← c.self.view_is) at c.requires.running) c.self.invariant (rw (← c.self.view_is) at c.requires.edges) put.fills)
    (rw c.put_blocks-written.ensures.same at c.map_write.ensures.wrote)
    (OnOk-at c.put_blocks-written.result _ c.if-is_err.ensures.negation put.ok)
    put.call

pub returns-clause-call : goal.returns-clause-call
returns-clause-call g c =
    let put = c.put_blocks-written.ensures.put in
    rw (← c.self.view_is) (record {
      stays = put.call.stays;
      calls = put.call.calls;
      read_calls = put.call.read_calls;
    })
