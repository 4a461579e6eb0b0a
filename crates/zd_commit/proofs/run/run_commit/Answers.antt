use Rattle.std.proofs.Common.{◌∙◌, ap, arith}
use Rattle.zd_volume.specs.Volumes.{PlainVolume}
use Rattle.zd_commit.proofs.RunLaws.{fewer_left, goes_on}
use Rattle.zd_commit.proofs.run.run_commit.Goals as goal

pub loop-why-smaller : goal.loop-why-smaller
loop-why-smaller g c =
    let less = fewer_left c.loop-why.v.plain c.commit_one.new.self.plain c.sound.ensures c.in-More.ensures.step in
    omega (arith, less)

pub loop-why-preserved : goal.loop-why-preserved
loop-why-preserved g c =
    let was = c.loop-why.invariant in
    let step = c.in-More.ensures.step in (
      ap (λ (v : PlainVolume). v.stopped) step.rest ∙ was.0,
      goes_on c.args.v.now.plain (g.D.ZonedDisk.view c.args.v.now.disk) c.loop-why.v.plain c.commit_one.new.self.plain
          (g.D.ZonedDisk.view c.loop-why.v.disk) (g.D.ZonedDisk.view c.commit_one.new.self.disk) was.1 c.sound.ensures
          step c.in-More.ensures.call,
      record {
        opening = c.in-More.ensures.same.opening ∙ was.2.opening;
        room = c.in-More.ensures.same.room ∙ was.2.room;
        spare = (let a = c.in-More.ensures.same.spare in let b = was.2.spare in omega (arith, a, b));
      },
    )
