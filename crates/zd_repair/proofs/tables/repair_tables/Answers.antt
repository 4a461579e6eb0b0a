use Rattle.std.proofs.Common.{◌≡◌, ◌+◌, ℕ, sym, ap, ◌∙◌, subst, arith, slice_index}
use Rattle.zd_base.specs.Geometry.{Shape, zone_count}
use Rattle.zd_base.specs.declared.layout.Layout.{Layout}
use Rattle.zd_examine.specs.Roles.{AreRoles}
use Rattle.zd_model.specs.Tables.{MapFollowsRules, Tables, is_valid}
use Rattle.zd_tables.specs.Held.{tables_held}
use Rattle.zd_tables.specs.Tables.{entries_in, entry_in_blocks}
use Rattle.zd_tables.proofs.TableSteps.{tables_there}
use Rattle.zd_repair.specs.Repaired.{valid_total}
use Rattle.zd_repair.proofs.LeftTables.{cleared_at, is_left, map_rules, written_over, wrong_left}
use Rattle.zd_repair.proofs.FewerBits.{total_same}
use Rattle.zd_repair.proofs.tables.repair_tables.Goals as goal

pub repair_bits-bits-requires-clause-map : goal.repair_bits-bits-requires-clause-map
repair_bits-bits-requires-clause-map c =
    let t = c.args.tables.now in
    let mid = c.repair_map-entries.new.tables in
    let same = c.repair_map-entries.ensures.same in
    subst (λ (g : Shape). MapFollowsRules g mid.layout (entries_in mid.layout mid.bytes)) (sym same.geometry)
    (subst (λ (l : Layout). MapFollowsRules t.geometry l (entries_in l mid.bytes)) (sym same.layout)
    (map_rules t.geometry t.layout (slice_index c.args.pointers.now) t.bytes mid.bytes c.repair_map-entries.ensures.map))

pub returns-clause-left : goal.returns-clause-left
returns-clause-left c =
    let t = c.args.tables.now in
    let mid = c.repair_map-entries.new.tables in
    let next = c.repair_bits-bits.new.tables in
    let map = c.repair_map-entries.ensures in
    let pointers = slice_index c.args.pointers.now in
    let there = tables_there t mid map.same in
    let bits_stay = subst (λ (u : Tables). (z x : ℕ) → is_valid u z x ≡ is_valid (tables_held t) z x) there map.bits in
    let zones = ap (λ (g : Shape). zone_count g) c.geometry.ensures in
    let roles = c.deref.ensures.value
    ∙ written_over c.in_ok-roles.roles.items c.repair_map-entries.new.roles c.in_ok-roles.roles.len
    (omega (arith, map.roles.named.count, c.in_ok-roles.ensures.len, c.zones-zones.ensures.value, zones)) in
    is_left t.geometry t.layout pointers t.bytes mid.bytes map.map c.deref.result.now
    (subst (AreRoles t.geometry (entry_in_blocks mid.bytes) t.layout.chunks) (sym roles) map.roles) bits_stay (tables_held next)
    (cleared_at mid.bytes c.deref.result.now pointers (tables_held next) map.same.geometry map.same.layout c.repair_bits-bits.ensures.bits)

pub returns-clause-counts : goal.returns-clause-counts
returns-clause-counts c =
    let t = c.args.tables.now in
    let mid = c.repair_map-entries.new.tables in
    let next = c.repair_bits-bits.new.tables in
    let map = c.repair_map-entries.ensures in
    let pointers = slice_index c.args.pointers.now in
    let there = tables_there t mid map.same in
    let bits_stay = subst (λ (u : Tables). (z x : ℕ) → is_valid u z x ≡ is_valid (tables_held t) z x) there map.bits in
    let zones = ap (λ (g : Shape). zone_count g) c.geometry.ensures in
    let roles = c.deref.ensures.value
    ∙ written_over c.in_ok-roles.roles.items c.repair_map-entries.new.roles c.in_ok-roles.roles.len
    (omega (arith, map.roles.named.count, c.in_ok-roles.ensures.len, c.zones-zones.ensures.value, zones)) in
    record {
      entries = map.count ∙ wrong_left t.geometry t.layout pointers t.bytes mid.bytes map.map c.deref.result.now
          (subst (AreRoles t.geometry (entry_in_blocks mid.bytes) t.layout.chunks) (sym roles) map.roles) bits_stay (tables_held next)
          (cleared_at mid.bytes c.deref.result.now pointers (tables_held next) map.same.geometry map.same.layout c.repair_bits-bits.ensures.bits);
      bits = subst (λ (g : Shape). valid_total g (tables_held next) + c.repair_bits-bits.result ≡ valid_total g (tables_held mid)) map.same.geometry
          c.repair_bits-bits.ensures.count ∙ total_same t.geometry (tables_held mid) (tables_held t) map.bits;
    }
