use Rattle.std.proofs.Common.{◌≡◌, List, None, sym, subst}
use Rattle.zd_model.specs.History.{HistoryEntry}
use Rattle.zd_state.specs.Seen.{Seen}
use Rattle.zd_volume.specs.FaultCounts.{AreCalm}
use Rattle.zd_replay.specs.Ends.{no_memory}
use Rattle.zd_replay.specs.Run.{RunsInTime, RunsPlan}
use Rattle.zd_replay.proofs.SessionLaws.{finished_runs, finished_timely, new_begun, unbegun_runs, unbegun_timely}
use Rattle.zd_replay.proofs.TurnLaws.{runs_alone}
use Rattle.zd_replay.proofs.plan.run_plan.Goals as goal

pub returns-in-Err-clause-runs : goal.returns-in-Err-clause-runs
returns-in-Err-clause-runs g c =
    let view = g.D.ZonedDisk.view in
    let volume = c.args.volume in
    let parts = c.parts_of-history.ensures in
    let runs = unbegun_runs view c.args.plan volume c.in-Err.volume c.in-Err.ensures.err c.requires.fresh.new
    c.sound.ensures.sets.shape c.requires.fresh.here parts.shown in
    subst (λ (h : List HistoryEntry). RunsPlan c.args.plan no_memory h volume.plain (view volume.opening)
    (view c.parts_of-history.result.1)) (sym parts.history)
    (subst (λ (d : _). RunsPlan c.args.plan no_memory c.in-Err.volume.plain.history volume.plain (view volume.opening)
    (view d)) (sym parts.disk) runs)

pub returns-in-Err-clause-timely : goal.returns-in-Err-clause-timely
returns-in-Err-clause-timely g c =
    let view = g.D.ZonedDisk.view in
    let volume = c.args.volume in
    let parts = c.parts_of-history.ensures in
    let timely = unbegun_timely view c.args.plan volume c.in-Err.volume c.in-Err.ensures.err c.requires.fresh.new
    parts.shown in
    subst (λ (h : List HistoryEntry). RunsInTime c.args.plan no_memory h volume.plain (view volume.opening)
    (view c.parts_of-history.result.1)) (sym parts.history)
    (subst (λ (d : _). RunsInTime c.args.plan no_memory c.in-Err.volume.plain.history volume.plain (view volume.opening)
    (view d)) (sym parts.disk) timely)

-- nobody else has a piece in flight
pub finish-requires : goal.finish-requires
finish-requires g c =
    c.run_alone.ensures.ended
    (new_begun c.args.plan c.args.volume c.in-Ok.session c.requires.fresh c.in-Ok.ensures.begins).alone

pub returns-clause-runs : goal.returns-clause-runs
returns-clause-runs g c =
    let view = g.D.ZonedDisk.view in
    let run = c.run_alone.new.self in
    let begun = c.in-Ok.session in
    let new = new_begun c.args.plan c.args.volume begun c.requires.fresh c.in-Ok.ensures.begins in
    let calm = subst (λ (v : Seen _). v.plain.stopped ≡ None → AreCalm v.plain.history) c.volume.ensures c.calm.ensures in
    let alone = runs_alone view begun run new c.run_alone.ensures calm in
    finished_runs view c.args.plan c.args.volume begun run c.finish.result.0.items c.finish.result.1 c.finish.result.2 1
    c.in-Ok.ensures.begins alone.runs c.finish.ensures c.sound.ensures.sets.shape

pub returns-clause-timely : goal.returns-clause-timely
returns-clause-timely g c =
    let view = g.D.ZonedDisk.view in
    let run = c.run_alone.new.self in
    let begun = c.in-Ok.session in
    let new = new_begun c.args.plan c.args.volume begun c.requires.fresh c.in-Ok.ensures.begins in
    let calm = subst (λ (v : Seen _). v.plain.stopped ≡ None → AreCalm v.plain.history) c.volume.ensures c.calm.ensures in
    let alone = runs_alone view begun run new c.run_alone.ensures calm in
    finished_timely view c.args.plan c.args.volume begun run c.finish.result.0.items c.finish.result.1 c.finish.result.2 1
    c.in-Ok.ensures.begins alone.runs c.finish.ensures alone.timely alone.opening
