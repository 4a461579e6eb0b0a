use Rattle.std.proofs.Common.{◌<◌, ◌∙◌, sym, subst, arith}
use Rattle.zd_base.specs.declared.layout.Layout.{Layout}
use Rattle.zd_tables.specs.Tables.{entry_in_blocks}
use Rattle.zd_repair.proofs.LeftEntries.{held_entry}
use Rattle.zd_repair.proofs.LeftMaps.{buffer_has_role, roles_now, zone_has_role}
use Rattle.zd_repair.proofs.map.repair_entry.Goals as goal

pub give_roles-requires-clause-zone : goal.give_roles-requires-clause-zone
give_roles-requires-clause-zone c =
    let t = c.args.tables.now in
    let drop = c.drop_wrong-was_wrong.ensures in
    let now = c.drop_wrong-was_wrong.new.tables in
    let low : c.args.chunk < now.layout.chunks = subst (λ (l : Layout). c.args.chunk < l.chunks) (sym drop.same.layout) c.requires.chunk in
    let is = c.entry-entry.ensures ∙ held_entry now.geometry now.layout now.bytes c.args.chunk low in
    zone_has_role t.geometry t.layout (entry_in_blocks t.bytes) (entry_in_blocks now.bytes) c.args.chunk c.args.roles.now drop.here
    (λ k less. drop.others k (omega (arith, less))) c.requires.roles c.entry-entry.result is

pub give_roles-requires-clause-buffer : goal.give_roles-requires-clause-buffer
give_roles-requires-clause-buffer c =
    let t = c.args.tables.now in
    let drop = c.drop_wrong-was_wrong.ensures in
    let now = c.drop_wrong-was_wrong.new.tables in
    let low : c.args.chunk < now.layout.chunks = subst (λ (l : Layout). c.args.chunk < l.chunks) (sym drop.same.layout) c.requires.chunk in
    let is = c.entry-entry.ensures ∙ held_entry now.geometry now.layout now.bytes c.args.chunk low in
    buffer_has_role t.geometry t.layout (entry_in_blocks t.bytes) (entry_in_blocks now.bytes) c.args.chunk c.args.roles.now drop.here
    (λ k less. drop.others k (omega (arith, less))) c.requires.roles c.entry-entry.result is

pub returns-clause-roles : goal.returns-clause-roles
returns-clause-roles c =
    let t = c.args.tables.now in
    let drop = c.drop_wrong-was_wrong.ensures in
    let now = c.drop_wrong-was_wrong.new.tables in
    let low : c.args.chunk < now.layout.chunks = subst (λ (l : Layout). c.args.chunk < l.chunks) (sym drop.same.layout) c.requires.chunk in
    let is = c.entry-entry.ensures ∙ held_entry now.geometry now.layout now.bytes c.args.chunk low in
    roles_now t.geometry t.layout (entry_in_blocks t.bytes) (entry_in_blocks now.bytes) c.args.chunk c.args.roles.now drop.here
    (λ k less. drop.others k (omega (arith, less))) c.requires.roles c.entry-entry.result is _ c.give_roles.ensures
