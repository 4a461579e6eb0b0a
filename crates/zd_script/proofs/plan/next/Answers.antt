use Rattle.zd_model.specs.Script.BreaksLineRule.{form}
use Rattle.std.proofs.lemmas.Result.{err_from_is_err_and}
use Rattle.zd_script.proofs.RequestLaws.{right_stands, wrong_breaks, much_breaks}
use Rattle.zd_script.proofs.plan.next.Goals as goal

pub returns-in_default-clause-err : goal.returns-in_default-clause-err
returns-in_default-clause-err c plan left full = form full c.in_default.ensures.none

pub returns-in_err-request-clause-err : goal.returns-in_err-request-clause-err
returns-in_err-request-clause-err c =
    let p = err_from_is_err_and c.from_residual.result c.from_residual.ensures.1 in
    rw (p.1, p.2) (λ plan left full. wrong_breaks plan c.args.text.now c.in-Some.rest.now c.in-Some.line c.in_err-request.field-0.0 c.in-Some.ensures.found c.in_err-request.ensures.err)

pub returns-in_default-after-clause-err : goal.returns-in_default-after-clause-err
returns-in_default-after-clause-err c plan left full =
    much_breaks plan c.args.text.now c.in-Some.rest.now c.in-Some.line c.in_ok-request.request c.args.limits
    c.in-Some.ensures.found c.in_ok-request.ensures.ok.0 c.in_ok-request.ensures.ok.1 left c.in_default-after.ensures.none

pub returns-clause-line : goal.returns-clause-line
returns-clause-line c =
    right_stands c.args.text.now c.in-Some.rest.now c.in-Some.line c.in_ok-request.request
    c.in-Some.ensures.found c.in_ok-request.ensures.ok.0 c.in_ok-request.ensures.ok.1
