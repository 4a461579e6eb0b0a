use Rattle.std.proofs.Common.{◌∙◌, arith}
use Rattle.zd_script.proofs.GeneratorLaws.{made_more, number_more}
use Rattle.zd_script.proofs.MadePlans.{plan_made, made_inside, made_written}
use Rattle.zd_script.proofs.generator.make.Goals as goal

pub loop-i-preserved : goal.loop-i-preserved
loop-i-preserved c =
    let before = c.loop-i.invariant in
    record {
      plan = c.in_ok-push.ensures.ok
          ∙ made_more c.args.seed c.loop-i.i c.args.blocks c.loop-i.numbers.last c.loop-i.plan c.next_request.result
          before.plan before.numbers c.next_request.ensures.value;
      numbers = c.next_request.ensures.last
          ∙ number_more c.args.seed c.loop-i.i c.loop-i.numbers.last before.numbers;
    }

pub returns-clause-plan : goal.returns-clause-plan
returns-clause-plan c =
    rw c.loop-i.invariant.plan
    (plan_made c.args.seed c.args.blocks c.requires c.loop-i.i (omega (arith, c.ranges.n.fits)))

pub returns-clause-inside : goal.returns-clause-inside
returns-clause-inside c =
    rw c.loop-i.invariant.plan (made_inside c.args.seed c.args.blocks c.requires c.loop-i.i)

pub returns-clause-script : goal.returns-clause-script
returns-clause-script c few =
    rw c.loop-i.invariant.plan
    (made_written c.args.seed c.args.blocks c.requires c.loop-i.i (omega arith) (omega (arith, c.ranges.blocks.fits)))
