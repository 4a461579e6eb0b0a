use Rattle.std.proofs.Common.{◌≡◌, ◌≤◌, ◌<◌, ◌+◌, ◌*◌, ◌/◌, ℕ, Bool, true, false, not, ◌&&◌, List, min, refl, sym, ap, ap₂, ◌∙◌, subst, inl, arith}
use Rattle.std.proofs.lemmas.Bool.{false≢true}
use borrow.Author.Tests.{le-leb, lt-leb}
use Rattle.std.specs.Prelude.{find}
use Rattle.std.specs.List.{range_with_len}
use Rattle.zd_model.specs.Faults.{has}
use Rattle.zd_model.specs.Tables.{is_set, is_valid, named_zones}
use Rattle.zd_examine.specs.Bits.{in_both, is_bad}
use Rattle.zd_examine.specs.Roles.{GivesRole, is_unnamed}
use Rattle.zd_examine.specs.declared.roles.Role.{Role}
use Rattle.zd_tables.specs.Tables.{entry_in_blocks, tables_in}
use Rattle.zd_examine.proofs.BadLaws.{is_zone, unnamed_bad, conventional_bad, sequential_bad, buffer_bad, valid_is}
use Rattle.zd_examine.proofs.FindLaws.{find_none, first_from, same_find}
use Rattle.zd_examine.proofs.bitmap.first_bad_block.Goals as goal

-- a zone that is unnamed or not by its role is so by the map
unnamed : (b : Bool) → true ≡ not b → b ≡ false
unnamed true e = absurd (false≢true (sym e))
unnamed false e = refl

named : (b : Bool) → false ≡ not b → b ≡ true
named true e = refl
named false e = absurd (false≢true e)

and_no : (b : Bool) → (b && false) ≡ false
and_no true = refl
and_no false = refl

and_yes : (b : Bool) → (b && true) ≡ b
and_yes true = refl
and_yes false = refl

pub returns-in-Unnamed : goal.returns-in-Unnamed
returns-in-Unnamed c pointers at =
    let g = c.args.geometry.now in
    let l = c.args.layout.now in
    let bytes = c.args.blocks.now in
    let z : ℕ = c.args.zone in
    let size = c.zone_blocks-zone_blocks.ensures.value in
    let none = unnamed (has (named_zones (tables_in g l bytes)) z) (ap is_unnamed (sym c.in-Unnamed.is) ∙ c.requires.role.unnamed) in
    first_from (is_bad g pointers (tables_in g l bytes) z) c.bits-valid.result.now 0 c.zone_blocks-zone_blocks.result c.first_valid.result
    (λ x early high. absurd (let wrong : ⊥ = omega arith in wrong))
    (λ x late high. unnamed_bad g l bytes pointers c.requires.map z x none ∙ valid_is g l bytes pointers c.requires.map z x c.requires.zone ∙ ap (λ (bits : List ℕ). is_set bits x) (sym c.bits-valid.ensures.value))
    c.first_valid.ensures.some c.first_valid.ensures.none
    ∙ ap (λ n. find (is_bad g pointers (tables_in g l bytes) z) (range_with_len 0 n)) size

pub returns-in-Main : goal.returns-in-Main
returns-in-Main c pointers at =
    let g = c.args.geometry.now in
    let l = c.args.layout.now in
    let bytes = c.args.blocks.now in
    let z : ℕ = c.args.zone in
    let is : is_unnamed c.args.role ≡ false = ap is_unnamed c.in-Main.is in
    let has_name = named (has (named_zones (tables_in g l bytes)) z) (sym is ∙ c.requires.role.unnamed) in
    let given = c.requires.role.given is in
    let main = subst (λ (r : Role). GivesRole z r (entry_in_blocks bytes given.0)) c.in-Main.is given.2 in
    let low : z < g.conv = omega (arith, c.if-zone-conv.true, c.conv.ensures.value) in
    sym (find_none (is_bad g pointers (tables_in g l bytes) z) 0 g.zone_blocks
    (λ x from high. conventional_bad g l bytes pointers c.requires.map z x given.0 has_name given.1 main low))

pub returns-in-Main-2 : goal.returns-in-Main-2
returns-in-Main-2 c pointers at =
    let g = c.args.geometry.now in
    let l = c.args.layout.now in
    let bytes = c.args.blocks.now in
    let z : ℕ = c.args.zone in
    let size = c.zone_blocks-zone_blocks.ensures.value in
    let is : is_unnamed c.args.role ≡ false = ap is_unnamed c.in-Main-2.is in
    let has_name = named (has (named_zones (tables_in g l bytes)) z) (sym is ∙ c.requires.role.unnamed) in
    let given = c.requires.role.given is in
    let main = subst (λ (r : Role). GivesRole z r (entry_in_blocks bytes given.0)) c.in-Main-2.is given.2 in
    let seq : g.conv ≤ z = omega (arith, c.if-zone-conv.false, c.conv.ensures.value) in
    let from : c.min.result ≡ min (c.args.pointer / 8) c.zone_blocks-zone_blocks.result = c.min.ensures in
    let bad = λ (x : ℕ). sequential_bad g l bytes pointers c.requires.map z x given.0 has_name given.1 main seq in
    first_from (is_bad g pointers (tables_in g l bytes) z) c.bits-valid.result.now c.min.result c.zone_blocks-zone_blocks.result c.first_valid-in-Main-2.result
    (λ x early high. bad x ∙ ap (λ (b : Bool). is_valid (tables_in g l bytes) z x && not b) (le-leb (8 * x + 8) (pointers z) (omega arith)) ∙ and_no (is_valid (tables_in g l bytes) z x))
    (λ x late high. bad x ∙ ap (λ (b : Bool). is_valid (tables_in g l bytes) z x && not b) (lt-leb (8 * x + 8) (pointers z) (omega arith)) ∙ and_yes (is_valid (tables_in g l bytes) z x)
    ∙ valid_is g l bytes pointers c.requires.map z x c.requires.zone ∙ ap (λ (bits : List ℕ). is_set bits x) (sym c.bits-valid.ensures.value))
    c.first_valid-in-Main-2.ensures.some c.first_valid-in-Main-2.ensures.none
    ∙ ap (λ n. find (is_bad g pointers (tables_in g l bytes) z) (range_with_len 0 n)) size

pub bits-in_main-requires-clause-zone : goal.bits-in_main-requires-clause-zone
bits-in_main-requires-clause-zone c =
    let bytes = c.args.blocks.now in
    let z : ℕ = c.args.zone in
    let given = c.requires.role.given (ap is_unnamed c.in-Buffer.is) in
    let role = subst (λ (r : Role). GivesRole z r (entry_in_blocks bytes given.0)) c.in-Buffer.is given.2 in
    is_zone c.args.geometry.now c.args.layout.now bytes (λ i. 0) c.requires.map given.0 c.in-Buffer.main given.1 (inl role.0)

pub returns-in-Buffer : goal.returns-in-Buffer
returns-in-Buffer c pointers at =
    let g = c.args.geometry.now in
    let l = c.args.layout.now in
    let bytes = c.args.blocks.now in
    let z : ℕ = c.args.zone in
    let main : ℕ = c.in-Buffer.main in
    let size = c.zone_blocks-zone_blocks.ensures.value in
    let is : is_unnamed c.args.role ≡ false = ap is_unnamed c.in-Buffer.is in
    let has_name = named (has (named_zones (tables_in g l bytes)) z) (sym is ∙ c.requires.role.unnamed) in
    let given = c.requires.role.given is in
    let role = subst (λ (r : Role). GivesRole z r (entry_in_blocks bytes given.0)) c.in-Buffer.is given.2 in
    let there = is_zone g l bytes pointers c.requires.map given.0 main given.1 (inl role.0) in
    c.first_in_both.ensures
    ∙ ap (λ n. find (in_both c.bits-valid.result.now c.bits-in_main.result.now) (range_with_len 0 n)) size
    ∙ sym (same_find (is_bad g pointers (tables_in g l bytes) z) (in_both c.bits-valid.result.now c.bits-in_main.result.now) 0 g.zone_blocks
    (λ x low high. buffer_bad g l bytes pointers c.requires.map z x main given.0 has_name given.1 role.0 role.1
    ∙ ap₂ (λ (a b : Bool). a && b)
    (valid_is g l bytes pointers c.requires.map z x c.requires.zone ∙ ap (λ (bits : List ℕ). is_set bits x) (sym c.bits-valid.ensures.value))
    (valid_is g l bytes pointers c.requires.map main x there ∙ ap (λ (bits : List ℕ). is_set bits x) (sym c.bits-in_main.ensures.value))))
