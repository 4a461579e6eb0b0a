use Rattle.std.proofs.Common.{◌≡◌, ◌+◌, ◌≤◌, map, subst}
use Rattle.std.specs.Prelude.{string_bytes}
use Rattle.zd_tell.proofs.TellLaws.{done_told, fixed_told, status_told}
use Rattle.zd_admin.proofs.AskLaws.{asked_once}
use Rattle.zd_admin.proofs.RunLaws.{device_told, ends_well, keeps_when, no_usage_status, reports, reports_usage, status_says, usage_says, usage_status}
use Rattle.zd_admin.specs.Words.{IsAdminCommand}
use Rattle.zd_admin.specs.Admin.{KeepsAsked}
use Rattle.zd_admin.specs.declared.outcome.Outcome.TheVariants.{Device}
use Rattle.zd_admin.specs.declared.words.Asked.{Asked}
use Rattle.zd_admin.proofs.runs.admin.Goals as goal

pub returns-in_default-clause-usage : goal.returns-in_default-clause-usage
returns-in_default-clause-usage g c =
    (λ one. c.in_default.ensures.none, λ wrong. usage_status (fixed_told c.tell.ensures tt))

pub returns-in_default-clause-report : goal.returns-in_default-clause-report
returns-in_default-clause-report g c =
    reports_usage (map string_bytes c.args.words.now) _ _ c.in_default.ensures.none c.tell.ensures

pub returns-in_default-clause-status : goal.returns-in_default-clause-status
returns-in_default-clause-status g c =
    usage_says (map string_bytes c.args.words.now) (fixed_told c.tell.ensures tt)

pub returns-in_default-clause-kept : goal.returns-in_default-clause-kept
returns-in_default-clause-kept g c asked asks = absurd (c.in_default.ensures.none (asked, asks))

pub returns-clause-usage : goal.returns-clause-usage
returns-clause-usage g c =
    let right : IsAdminCommand (map string_bytes c.args.words.now) = (c.in-Some.asked, c.in-Some.ensures.some) in
    let ends = c.run-outcome.ensures.ended (map string_bytes c.args.words.now) c.in-Some.ensures.some in (
      λ one. absurd (no_usage_status (map string_bytes c.args.words.now) _ _ c.run-outcome.result.0 right ends.1.cause
          (status_told c.tell-status.ensures) one),
      λ wrong. absurd (wrong right),
    )

pub returns-clause-report : goal.returns-clause-report
returns-clause-report g c =
    reports (map string_bytes c.args.words.now) _ _ c.run-outcome.result.0 (c.in-Some.asked, c.in-Some.ensures.some)
    (c.run-outcome.ensures.ended (map string_bytes c.args.words.now) c.in-Some.ensures.some) c.tell-status.ensures

pub returns-clause-status : goal.returns-clause-status
returns-clause-status g c =
    let ends = c.run-outcome.ensures.ended (map string_bytes c.args.words.now) c.in-Some.ensures.some in
    status_says (map string_bytes c.args.words.now) c.in-Some.asked c.run-outcome.result.0 c.in-Some.ensures.some
    ends.1.cause c.run-outcome.ensures.leaves c.run-outcome.ensures.cause
    (done_told c.tell-status.ensures) (status_told c.tell-status.ensures)

pub returns-clause-kept : goal.returns-clause-kept
returns-clause-kept g c asked asks =
    let u = g.D.ZonedDisk.view c.args.disk in
    let v = g.D.ZonedDisk.view c.run-outcome.result.1 in
    let flushed = u.calls + 2 ≤ v.calls in
    keeps_when asked (c.run-outcome.result.0 ≡ Device → flushed) (c.tell-status.result.0 ≡ 4 → flushed) u v
    (λ told device. told (device_told c.run-outcome.result.0 c.tell-status.ensures device))
    (subst (λ (a : Asked). KeepsAsked a (c.run-outcome.result.0 ≡ Device → flushed) u v)
    (asked_once (map string_bytes c.args.words.now) c.in-Some.asked asked c.in-Some.ensures.some asks) c.run-outcome.ensures.kept)

pub returns-clause-same : goal.returns-clause-same
returns-clause-same g c one =
    let ends = c.run-outcome.ensures.ended (map string_bytes c.args.words.now) c.in-Some.ensures.some in
    absurd (no_usage_status (map string_bytes c.args.words.now) _ _ c.run-outcome.result.0 (c.in-Some.asked, c.in-Some.ensures.some)
    ends.1.cause (status_told c.tell-status.ensures) one)

pub returns-clause-complete : goal.returns-clause-complete
returns-clause-complete g c right no_device no_sink =
    let ends = c.run-outcome.ensures.ended (map string_bytes c.args.words.now) c.in-Some.ensures.some in
    ends_well (map string_bytes c.args.words.now) _ _ c.tell-status.result.0 c.run-outcome.result.0
    ends.1.cause (status_told c.tell-status.ensures)
    (λ e. no_device (c.run-outcome.ensures.cause e)) (λ e. no_sink (c.tell-status.ensures.out.sink e))
