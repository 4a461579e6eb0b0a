use Rattle.std.proofs.lemmas.Result.{IfErr-weaker, IfOk-weaker}
use Rattle.zd_commit.proofs.CloseLaws.{closing_calls, failed_later}
use Rattle.zd_commit.proofs.closing.close.Goals as goal

pub returns-clause-calls : goal.returns-clause-calls
returns-clause-calls g c =
    let old = g.D.ZonedDisk.view c.args.v.now.disk in
    IfOk-weaker c.run_commit.result _ _
    (λ _ last. closing_calls c.args.v.now.plain c.give_up.new.v.plain c.finish.new.v.plain old
    (g.D.ZonedDisk.view c.finish.new.v.disk) (g.D.ZonedDisk.view c.run_commit.new.v.disk) c.give_up.ensures.given_up
    c.in_ok-finish.ensures.ok (rw (c.give_up.ensures.disk) at c.in_ok-finish.ensures.calls) last)
    c.run_commit.ensures.calls

pub returns-clause-cause : goal.returns-clause-cause
returns-clause-cause g c =
    IfErr-weaker c.run_commit.result _ _
    (λ why failed is. failed_later (g.D.ZonedDisk.view c.args.v.now.disk) (g.D.ZonedDisk.view c.finish.new.v.disk)
    (g.D.ZonedDisk.view c.run_commit.new.v.disk) (rw (c.give_up.ensures.disk) at c.in_ok-finish.ensures.stays)
    (failed is))
    c.run_commit.ensures.cause
