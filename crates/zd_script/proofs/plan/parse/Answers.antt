use Rattle.std.proofs.Common.{◌≡◌, ◌+◌, length, arith}
use Rattle.zd_model.specs.Script.RefusesScript.{size}
use Rattle.zd_script.proofs.PlanLaws.{plan_stands, line_breaks, line_shortens, there_is_more, there_is_none}
use Rattle.zd_script.proofs.plan.parse.Goals as goal

pub returns-then-bytes-gt-MOST_BYTES-clause-bad : goal.returns-then-bytes-gt-MOST_BYTES-clause-bad
returns-then-bytes-gt-MOST_BYTES-clause-bad c = size c.if-bytes-gt-MOST_BYTES.true

pub returns-in-Err-clause-bad : goal.returns-in-Err-clause-bad
returns-in-Err-clause-bad c =
    let before = c.loop-rest.invariant in
    let number : c.loop-rest.line + 1 ≡ length c.loop-rest.plan + 1 = omega arith in
    let more = there_is_more c.loop-rest.rest.now c.is_empty.result c.is_empty.ensures c.loop-rest-test.true in
    line_breaks c.args.bytes.now c.loop-rest.plan c.loop-rest.rest.now c.loop-rest.limits (c.loop-rest.line + 1) before.so_far
    c.if-bytes-gt-MOST_BYTES.false number (c.in-Err.ensures.err c.loop-rest.plan before.so_far.left more)

pub loop-rest-smaller : goal.loop-rest-smaller
loop-rest-smaller c = line_shortens c.loop-rest.rest.now c.in-Ok.next.1.now c.in-Ok.next.0 c.in-Ok.ensures.line

pub returns-clause-ok : goal.returns-clause-ok
returns-clause-ok c =
    let none = there_is_none c.loop-rest.rest.now c.is_empty.result c.is_empty.ensures c.loop-rest-test.false in
    plan_stands c.args.bytes.now c.loop-rest.plan c.loop-rest.rest.now c.loop-rest.limits c.loop-rest.invariant.so_far none c.if-bytes-gt-MOST_BYTES.false
