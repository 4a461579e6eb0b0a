use Rattle.std.proofs.Common.{◌≢◌, ◌<◌, ◌∙◌, sym, ap, subst, arith, slice_index}
use Rattle.zd_base.specs.Geometry.{IsShape, Shape, zone_count}
use Rattle.zd_examine.specs.declared.roles.Role.{Role}
use Rattle.zd_tables.specs.Held.{tables_held}
use Rattle.zd_repair.specs.Repaired.{IsWrongBy, MakesInvalid, valid_total}
use Rattle.zd_repair.proofs.FewerBits.{total_most}
use Rattle.zd_repair.proofs.RoleBits.{buffer_apart, role_is, wrong_more}
use Rattle.zd_repair.proofs.bits.repair_bits.Goals as goal

pub repair_zone-cleared-requires-clause-role : goal.repair_zone-cleared-requires-clause-role
repair_zone-cleared-requires-clause-role c main is =
    let t = c.args.tables.now in
    let i = c.loop-zone.invariant in
    let zones = ap (λ (g : Shape). zone_count g) c.geometry.ensures in
    let low : c.loop-zone.zone < zone_count t.geometry = omega (arith, c.loop-zone-test.true, c.zones-zones.ensures.value, zones) in
    subst (λ (g : Shape). (main < zone_count g) × (main ≢ c.loop-zone.zone)) (sym i.same.geometry)
    (buffer_apart t.geometry t.layout t.bytes c.args.roles.now c.requires.map c.requires.roles c.loop-zone.zone main low
    (sym (role_is t.geometry t.layout t.bytes c.args.roles.now c.requires.map c.requires.roles c.loop-zone.zone c.index-roles-i.result low c.index-roles-i.is) ∙ is))

pub overflow_add-cleared : goal.overflow_add-cleared
overflow_add-cleared c =
    let t = c.args.tables.now in
    let i = c.loop-zone.invariant in
    let shape = subst IsShape c.geometry.ensures c.zones-zones.ensures.shape in
    let most = total_most t.geometry (tables_held t) shape in
    let step = c.repair_zone-cleared.ensures.count in
    let here = ap (λ (g : Shape). valid_total g (tables_held c.loop-zone.tables)) i.same.geometry in
    let there = ap (λ (g : Shape). valid_total g (tables_held c.repair_zone-cleared.new.tables)) i.same.geometry in
    let count = i.count in
    omega (arith, most, step, here, there, count)

pub loop-zone-preserved : goal.loop-zone-preserved
loop-zone-preserved c =
    let t = c.args.tables.now in
    let i = c.loop-zone.invariant in
    let step = c.repair_zone-cleared.ensures in
    let here = ap (λ (g : Shape). valid_total g (tables_held c.loop-zone.tables)) i.same.geometry in
    let there = ap (λ (g : Shape). valid_total g (tables_held c.repair_zone-cleared.new.tables)) i.same.geometry in
    let zones = ap (λ (g : Shape). zone_count g) c.geometry.ensures in
    let low : c.loop-zone.zone < zone_count t.geometry = omega (arith, c.loop-zone-test.true, c.zones-zones.ensures.value, zones) in
    record {
      bits = wrong_more t.geometry t.layout t.bytes c.args.roles.now c.requires.map c.requires.roles (slice_index c.args.pointers.now)
          (tables_held t) (tables_held c.loop-zone.tables) (tables_held c.repair_zone-cleared.new.tables) c.loop-zone.zone low i.bits
          (subst (λ (r : Role). MakesInvalid (IsWrongBy t.geometry (tables_held c.loop-zone.tables) r c.loop-zone.zone (slice_index c.args.pointers.now c.loop-zone.zone))
          (tables_held c.loop-zone.tables) (tables_held c.repair_zone-cleared.new.tables))
          (role_is t.geometry t.layout t.bytes c.args.roles.now c.requires.map c.requires.roles c.loop-zone.zone c.index-roles-i.result low c.index-roles-i.is)
          (subst (λ (g : Shape). MakesInvalid (IsWrongBy g (tables_held c.loop-zone.tables) c.index-roles-i.result c.loop-zone.zone (slice_index c.args.pointers.now c.loop-zone.zone))
          (tables_held c.loop-zone.tables) (tables_held c.repair_zone-cleared.new.tables)) i.same.geometry step.bits));
      count = (let more = step.count in let count = i.count in omega (arith, more, count, here, there));
      same = record { geometry = step.same.geometry ∙ i.same.geometry; layout = step.same.layout ∙ i.same.layout };
    }
