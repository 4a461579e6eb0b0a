use Rattle.std.proofs.Common.{ℕ, List, not, sym, ap, ◌∙◌, subst}
use Rattle.zd_base.specs.Geometry.{IsShape, Shape}
use Rattle.zd_examine.specs.Roles.{AreNamed}
use Rattle.zd_map.specs.Numbers.{NamesZones}
use Rattle.zd_tables.specs.Tables.{entry_in_blocks}
use Rattle.zd_repair.specs.Repaired.{named_before}
use Rattle.zd_repair.proofs.LeftEntries.{corrected_as, corrected_none, corrected_some, held_entry, left_if_right, left_names}
use Rattle.zd_repair.proofs.map.drop_wrong.Goals as goal

pub set_entry-requires-clause-zones : goal.set_entry-requires-clause-zones
set_entry-requires-clause-zones c =
    let t = c.args.tables.now in
    let earlier : List ℕ = named_before (entry_in_blocks t.bytes) c.args.chunk in
    let named = subst (λ (g : Shape). AreNamed g earlier c.args.roles.now) (sym c.geometry.ensures) c.requires.roles in
    let entry = c.entry-entry.ensures ∙ held_entry t.geometry t.layout t.bytes c.args.chunk c.requires.chunk in
    let is = corrected_as earlier c.corrected.result c.geometry.ensures c.layout.ensures.value entry (c.corrected.ensures earlier named) in
    let why = corrected_some t.geometry t.layout earlier (entry_in_blocks t.bytes c.args.chunk) c.corrected.result is c.in-Some.left c.in-Some.is in
    subst NamesZones (sym why.1) (left_names t.geometry t.layout earlier (entry_in_blocks t.bytes c.args.chunk)
    (subst IsShape c.geometry.ensures c.zone_blocks-zone_blocks.ensures.shape) why.0)

pub returns-in-None-clause-here : goal.returns-in-None-clause-here
returns-in-None-clause-here c =
    let t = c.args.tables.now in
    let earlier : List ℕ = named_before (entry_in_blocks t.bytes) c.args.chunk in
    let named = subst (λ (g : Shape). AreNamed g earlier c.args.roles.now) (sym c.geometry.ensures) c.requires.roles in
    let entry = c.entry-entry.ensures ∙ held_entry t.geometry t.layout t.bytes c.args.chunk c.requires.chunk in
    let is = corrected_as earlier c.corrected.result c.geometry.ensures c.layout.ensures.value entry (c.corrected.ensures earlier named) in
    sym (left_if_right t.geometry t.layout earlier (entry_in_blocks t.bytes c.args.chunk)
    (corrected_none t.geometry t.layout earlier (entry_in_blocks t.bytes c.args.chunk) c.corrected.result is c.in-None.is))

pub returns-in-None-clause-tells : goal.returns-in-None-clause-tells
returns-in-None-clause-tells c =
    let t = c.args.tables.now in
    let earlier : List ℕ = named_before (entry_in_blocks t.bytes) c.args.chunk in
    let named = subst (λ (g : Shape). AreNamed g earlier c.args.roles.now) (sym c.geometry.ensures) c.requires.roles in
    let entry = c.entry-entry.ensures ∙ held_entry t.geometry t.layout t.bytes c.args.chunk c.requires.chunk in
    let is = corrected_as earlier c.corrected.result c.geometry.ensures c.layout.ensures.value entry (c.corrected.ensures earlier named) in
    sym (ap not (corrected_none t.geometry t.layout earlier (entry_in_blocks t.bytes c.args.chunk) c.corrected.result is c.in-None.is))

pub returns-in-Some-clause-here : goal.returns-in-Some-clause-here
returns-in-Some-clause-here c =
    let t = c.args.tables.now in
    let earlier : List ℕ = named_before (entry_in_blocks t.bytes) c.args.chunk in
    let named = subst (λ (g : Shape). AreNamed g earlier c.args.roles.now) (sym c.geometry.ensures) c.requires.roles in
    let entry = c.entry-entry.ensures ∙ held_entry t.geometry t.layout t.bytes c.args.chunk c.requires.chunk in
    let is = corrected_as earlier c.corrected.result c.geometry.ensures c.layout.ensures.value entry (c.corrected.ensures earlier named) in
    c.set_entry.ensures.blocks.here
    ∙ (corrected_some t.geometry t.layout earlier (entry_in_blocks t.bytes c.args.chunk) c.corrected.result is c.in-Some.left c.in-Some.is).1

pub returns-in-Some-clause-tells : goal.returns-in-Some-clause-tells
returns-in-Some-clause-tells c =
    let t = c.args.tables.now in
    let earlier : List ℕ = named_before (entry_in_blocks t.bytes) c.args.chunk in
    let named = subst (λ (g : Shape). AreNamed g earlier c.args.roles.now) (sym c.geometry.ensures) c.requires.roles in
    let entry = c.entry-entry.ensures ∙ held_entry t.geometry t.layout t.bytes c.args.chunk c.requires.chunk in
    let is = corrected_as earlier c.corrected.result c.geometry.ensures c.layout.ensures.value entry (c.corrected.ensures earlier named) in
    sym (ap not (corrected_some t.geometry t.layout earlier (entry_in_blocks t.bytes c.args.chunk) c.corrected.result is c.in-Some.left c.in-Some.is).0)
