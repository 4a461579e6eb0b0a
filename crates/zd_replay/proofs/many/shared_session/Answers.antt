use Rattle.std.proofs.Common.{[], refl, sym, subst, inl, inr, arith}
use Rattle.zd_open.specs.OpenedVolume.{in_blocks}
use Rattle.zd_tell.specs.Stages.RunStage.{Opening, Run}
use Rattle.zd_replay.specs.Ends.{open_outcome}
use Rattle.zd_model.specs.declared.texts.Outcome.TheVariants as outcomes
use Rattle.zd_replay.specs.Replay.{ReportsShared}
use Rattle.zd_replay.specs.Run.{RunsPlan}
use Rattle.zd_replay.proofs.EndLaws.{may_end, ran_unrefused}
use Rattle.zd_replay.proofs.RanLaws.{reports_shared}
use Rattle.zd_replay.proofs.ReportLaws.{as_alone, reports_unopened, shared_alone, unopened_comes}
use Rattle.zd_replay.proofs.many.shared_session.Goals as goal

pub returns-in-Err-clause-statuses : goal.returns-in-Err-clause-statuses
returns-in-Err-clause-statuses g c =
    inl (may_end Opening [] (open_outcome c.in-Err.fault) (λ less. refl) (unopened_comes c.in-Err.fault)
    (as_alone [] c.open_outcome.result (open_outcome c.in-Err.fault) refl c.open_outcome.ensures c.tell_alone.ensures))

pub returns-in-Err-clause-report : goal.returns-in-Err-clause-report
returns-in-Err-clause-report g c words left right script =
    let opened = c.in-Err.ensures in
    shared_alone (reports_unopened words left (g.D.ZonedDisk.view c.args.disk) c.args.plan right script c.in-Err.fault opened.err
    opened.way opened.kept opened.settled opened.cause
    (as_alone [] c.open_outcome.result (open_outcome c.in-Err.fault) refl c.open_outcome.ensures c.tell_alone.ensures))

pub returns-clause-statuses : goal.returns-clause-statuses
returns-clause-statuses g c =
    let run = c.run_shared-history.result in
    inr (may_end Run run.0.items (outcomes.Ended run.2) (λ less. absurd (omega (arith, less))) c.run_shared-history.ensures.comes
    c.tell_run.ensures.told)

pub returns-clause-refused : goal.returns-clause-refused
returns-clause-refused g c three =
    let run = c.run_shared-history.result in
    absurd (ran_unrefused (may_end Run run.0.items (outcomes.Ended run.2) (λ less. absurd (omega (arith, less)))
    c.run_shared-history.ensures.comes c.tell_run.ensures.told) three)

pub returns-clause-report : goal.returns-clause-report
returns-clause-report g c words left right script =
    let view = g.D.ZonedDisk.view in
    let volume = c.in-Ok.volume in
    let opened = c.in-Ok.ensures in
    let run = c.run_shared-history.result in
    let now = view run.1 in
    let ends = outcomes.Ended run.2 in
    let reports = reports_shared (view c.args.disk) (view volume.disk) now c.args.plan ends run.0.items
    opened.ok.image volume.plain (in_blocks opened.ok.image.pointers.items) opened.ok.opened opened.ok.values
    opened.way opened.kept
    (subst (λ (d : _). RunsPlan c.args.plan ends run.0.items volume.plain (view d) now)
    opened.ok.opening c.run_shared-history.ensures)
    words left right script c.tell_run.ensures.told in
    subst (λ (d : _). ReportsShared words left (view c.args.disk) (view d) c.tell_run.result.0.0
    (g.K.Sink.held c.args.out.now) (g.K.Sink.held c.tell_run.new.out) (g.K.Sink.faults c.args.out.now)
    (g.K.Sink.faults c.tell_run.new.out)) (sym c.tell_run.ensures.disk) reports
