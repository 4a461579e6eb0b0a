use Rattle.std.proofs.Common.{All, sym, subst, ◌∙◌, ap, arith}
use Rattle.zd_base.specs.Geometry.{Shape}
use Rattle.zd_steps.specs.Queues.{IsScriptOf}
use Rattle.zd_volume.specs.Sets.{AreSets}
use Rattle.zd_volume.specs.Volumes.{PlainVolume, sets_of}
use Rattle.zd_session.specs.Sessions.{HasBlocksFor, pieces_on}
use Rattle.zd_session.proofs.BeginLaws.{begins_session, plan_script}
use Rattle.zd_session.proofs.beginning.prepare.Goals as goal

pub new-requires-clause-pieces : goal.new-requires-clause-pieces
new-requires-clause-pieces g c =
    subst (IsScriptOf 64) (sym c.in_ok-pieces.ensures)
    (plan_script c.args.volume.now.plain c.args.plan.now c.requires.plan)

pub returns-clause-kept : goal.returns-clause-kept
returns-clause-kept g c =
    let volume = c.reserve.new.self in
    let pieces = c.in_ok-pieces.pieces.items in
    let plan = c.args.plan.now in
    let same = c.in_ok-reserve.ensures.plain in
    let count = c.len.ensures in
    let room = c.in_ok-reserve.ensures.ok in
    record {
      session =
          begins_session volume.plain volume.spare volume.room (g.D.ZonedDisk.view volume.opening).zones plan
          c.requires.plan
          (subst (λ (v : PlainVolume). AreSets (sets_of v)) (sym same) c.sound.ensures.sets)
          (ap (λ (v : PlainVolume). v.history) same ∙ c.requires.new) pieces
          (c.in_ok-pieces.ensures ∙ ap (λ (v : PlainVolume). pieces_on v plan) (sym same)) c.zone_blocks.result
          c.args.actors (c.zone_blocks.ensures.value ∙ ap (λ (s : Shape). s.zone_blocks) c.geometry.ensures)
          c.in_ok-progress.progress c.in_ok-progress.ensures
          (omega (arith, room, count)) c.longest_write.result
          (subst (All (HasBlocksFor c.longest_write.result)) c.deref.ensures.value c.longest_write.ensures.most)
          (let up = room.1 in omega (arith, up));
      list_room = c.in_ok-list.ensures;
    }
