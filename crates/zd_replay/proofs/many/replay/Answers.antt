use Rattle.std.proofs.Common.{◌∙◌, ℕ, List, ap, subst, Err, inl, inr, map}
use Rattle.std.specs.Prelude.{string_bytes}
use Rattle.zd_tell.proofs.TellLaws.{status_told}
use Rattle.zd_replay.specs.Replay.{ReportsShared}
use Rattle.zd_replay.proofs.CompleteLaws.{answers_shared}
use Rattle.zd_replay.proofs.EndLaws.{not_before, statuses_tell, told_source}
use Rattle.zd_replay.proofs.ReportLaws.{reports_unread, shared_alone, unread_other}
use Rattle.zd_replay.proofs.many.replay.Goals as goal

pub returns-in-Err-clause-report : goal.returns-in-Err-clause-report
returns-in-Err-clause-report g c =
    let view = g.D.ZonedDisk.view c.args.disk in
    subst (λ (words : List (List ℕ)). ReportsShared words (g.S.Source.left c.args.script.now) view view
    c.tell_alone.result.0 (g.K.Sink.held c.args.out.now) (g.K.Sink.held c.tell_alone.new.out)
    (g.K.Sink.faults c.args.out.now) (g.K.Sink.faults c.tell_alone.new.out)) c.split_actors-actors.ensures.rest
    (shared_alone (reports_unread c.in-Err.outcome c.in-Err.ensures.err c.tell_alone.ensures))

pub returns-in-Err-clause-status : goal.returns-in-Err-clause-status
returns-in-Err-clause-status g c =
    answers_shared (returns-in-Err-clause-report g c) _ _
    (λ five. c.plan_of.ensures.source (c.in-Err.is ∙ ap Err (told_source c.in-Err.outcome
    (status_told c.tell_alone.ensures) five)))

pub returns-in-Err-clause-refused : goal.returns-in-Err-clause-refused
returns-in-Err-clause-refused g c three =
    absurd (unread_other (map string_bytes c.split_actors-actors.result.1.now) (g.S.Source.left c.args.script.now)
    c.in-Err.outcome c.in-Err.ensures.err c.tell_alone.ensures (inr (inl three)))

pub returns-in-Ok-clause-report : goal.returns-in-Ok-clause-report
returns-in-Ok-clause-report g c =
    let view = g.D.ZonedDisk.view in
    subst (λ (words : List (List ℕ)). ReportsShared words (g.S.Source.left c.args.script.now) (view c.args.disk)
    (view c.shared_session.result.1) c.shared_session.result.0.0 (g.K.Sink.held c.args.out.now)
    (g.K.Sink.held c.shared_session.new.out) (g.K.Sink.faults c.args.out.now)
    (g.K.Sink.faults c.shared_session.new.out)) c.split_actors-actors.ensures.rest
    (c.shared_session.ensures.report (map string_bytes c.split_actors-actors.result.1.now)
    (g.S.Source.left c.args.script.now) c.in-Ok.ensures.command c.in-Ok.ensures.ok)

pub returns-in-Ok-clause-status : goal.returns-in-Ok-clause-status
returns-in-Ok-clause-status g c =
    answers_shared (returns-in-Ok-clause-report g c) _ _
    (λ five. absurd (not_before c.shared_session.ensures.statuses
    ((statuses_tell c.shared_session.result.0.0).before (inr (inr five)))))

pub returns-in-Ok-clause-same : goal.returns-in-Ok-clause-same
returns-in-Ok-clause-same g c before = absurd (not_before c.shared_session.ensures.statuses before)
