use Rattle.std.proofs.Common.{◌+◌, ◌∙◌, ap, subst, arith}
use Rattle.zd_base.specs.Geometry.{IsShape, Shape}
use Rattle.zd_tables.specs.Held.{tables_held}
use Rattle.zd_repair.specs.Repaired.{valid_total}
use Rattle.zd_repair.proofs.FewerBits.{total_most}
use Rattle.zd_repair.proofs.InvalidLaws.{twice_then}
use Rattle.zd_repair.proofs.bits.clear_twice.Goals as goal

pub overflow_add-cleared : goal.overflow_add-cleared
overflow_add-cleared c =
    let t = c.args.tables.now in
    let i = c.loop-at.invariant in
    let shape = subst IsShape c.geometry.ensures c.zone_blocks-end.ensures.shape in
    let most = total_most t.geometry (tables_held t) shape in
    let step = c.clear_run-run.ensures.count in
    let here = ap (λ (g : Shape). valid_total g (tables_held c.loop-at.tables)) i.same.geometry in
    let there = ap (λ (g : Shape). valid_total g (tables_held c.clear_run-run.new.tables)) i.same.geometry in
    let count = i.count in
    omega (arith, most, step, here, there, count, c.from-cleared.ensures)

pub loop-at-preserved : goal.loop-at-preserved
loop-at-preserved c =
    let t = c.args.tables.now in
    let i = c.loop-at.invariant in
    let step = c.clear_run-run.ensures in
    let here = ap (λ (g : Shape). valid_total g (tables_held c.loop-at.tables)) i.same.geometry in
    let there = ap (λ (g : Shape). valid_total g (tables_held c.clear_run-run.new.tables)) i.same.geometry in
    let end = c.zone_blocks-end.ensures.value in
    let size = ap (λ (g : Shape). g.zone_blocks) c.geometry.ensures in
    let now = ap (λ (g : Shape). g.zone_blocks) i.same.geometry in
    record {
      inside = (let inside = step.inside in omega (arith, inside, end, size, now));
      bits = twice_then (tables_held t) (tables_held c.loop-at.tables) (tables_held c.clear_run-run.new.tables) c.args.buffer c.args.main
          c.loop-at.at (c.loop-at.at + c.clear_run-run.result.0) c.requires.apart (omega arith) i.bits step.bits;
      count = (let more = step.count in let count = i.count in omega (arith, more, count, here, there, c.from-cleared.ensures));
      same = record { geometry = step.same.geometry ∙ i.same.geometry; layout = step.same.layout ∙ i.same.layout };
    }
