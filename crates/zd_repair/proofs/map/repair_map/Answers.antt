use Rattle.std.proofs.Common.{◌≡◌, ◌+◌, ℕ, Bool, not, cond, ◌∙◌, ap, subst, arith}
use Rattle.zd_base.specs.Geometry.{Shape}
use Rattle.zd_base.specs.declared.layout.Layout.{Layout}
use Rattle.zd_examine.specs.Roles.{AreRoles}
use Rattle.zd_model.specs.Faults.{is_right_entry}
use Rattle.zd_tables.specs.Tables.{entry_in_blocks}
use Rattle.zd_repair.specs.Repaired.{left_of, named_before}
use Rattle.zd_repair.proofs.LeftMaps.{later_more, left_more, one_if, one_most, wrong_more}
use Rattle.zd_repair.proofs.map.repair_map.Goals as goal

pub loop-chunk-preserved : goal.loop-chunk-preserved
loop-chunk-preserved c =
    let t = c.args.tables.now in
    let i = c.loop-chunk.invariant in
    let now = c.loop-chunk.tables in
    let k : ℕ = c.loop-chunk.chunk in
    let step = c.repair_entry.ensures in
    let first = entry_in_blocks t.bytes in
    let old = entry_in_blocks now.bytes in
    let new = entry_in_blocks c.repair_entry.new.tables.bytes in
    let here = subst (λ (g : Shape). new k ≡ left_of g t.layout (named_before old k) (old k)) i.same.geometry
    (subst (λ (l : Layout). new k ≡ left_of now.geometry l (named_before old k) (old k)) i.same.layout step.here) in
    let tells = subst (λ (g : Shape). c.repair_entry.result ≡ not (is_right_entry g t.layout (named_before old k) (old k))) i.same.geometry
    (subst (λ (l : Layout). c.repair_entry.result ≡ not (is_right_entry now.geometry l (named_before old k) (old k))) i.same.layout step.tells) in
    record {
      map = left_more t.geometry t.layout first old new k i.map i.later here step.others;
      later = later_more t.geometry t.layout first old new k i.map i.later here step.others;
      count = wrong_more t.geometry t.layout first old new k i.map i.later here step.others c.loop-chunk.wrong c.from-wrong.result i.count
          (c.from-wrong.ensures ∙ one_if c.repair_entry.result ∙ ap (λ (b : Bool). cond b 1 0) tells);
      few = (let one = one_most c.repair_entry.result c.from-wrong.result c.from-wrong.ensures in let few = i.few in omega (arith, one, few));
      roles = subst (λ (g : Shape). AreRoles g new (k + 1) c.repair_entry.new.roles) i.same.geometry step.roles;
      bits = λ z x. step.bits z x ∙ i.bits z x;
      same = record { geometry = step.same.geometry ∙ i.same.geometry; layout = step.same.layout ∙ i.same.layout };
    }
