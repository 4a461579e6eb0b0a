use Rattle.std.proofs.Common.{◌≡◌, ℕ, ◌++◌, take, drop, length, ap, sym, ◌∙◌, subst, arith}
use Rattle.std.proofs.Math.Seq.{take-append_seam}
use Rattle.zd_model.proofs.FaultLaws.{map_follows}
use Rattle.zd_tables.specs.Tables.{entries_in, entry_in_blocks}
use Rattle.zd_examine.specs.Roles.{AreRoles}
use Rattle.zd_examine.proofs.RoleLaws.{flags_are}
use Rattle.zd_examine.proofs.examining.test_tables.Goals as goal

pub first_bad_bit-requires-clause-map : goal.first_bad_bit-requires-clause-map
first_bad_bit-requires-clause-map c =
    map_follows c.args.geometry.now c.args.layout.now (entries_in c.args.layout.now c.args.blocks.now) (sym c.first_bad_chunk.ensures.value ∙ c.in_default-first_bad_chunk.is)

pub returns-in-Ok-named_zones-clause-named : goal.returns-in-Ok-named_zones-clause-named
returns-in-Ok-named_zones-clause-named c =
    let roles = c.first_bad_chunk.new.roles in
    let size = c.in-Ok.ensures.len in
    let zones = c.zones.ensures.value in
    let len : c.in-Ok.roles.len ≡ length roles = omega (arith, size, zones, c.in_default-first_bad_chunk.ensures.roles.named.count) in
    let same : c.first_bad_chunk.new.roles ≡ c.deref-2.result.now = sym (c.deref-2.ensures.value
    ∙ ap (λ (n : ℕ). take n (roles ++ drop (length roles) c.in-Ok.roles.items)) len ∙ take-append_seam roles (drop (length roles) c.in-Ok.roles.items)) in
    c.in-Ok-named_zones.ensures
    ∙ flags_are c.args.geometry.now (entry_in_blocks c.args.blocks.now) c.args.layout.now.chunks c.deref-2.result.now
    (subst (AreRoles c.args.geometry.now (entry_in_blocks c.args.blocks.now) c.args.layout.now.chunks) same c.in_default-first_bad_chunk.ensures.roles)
