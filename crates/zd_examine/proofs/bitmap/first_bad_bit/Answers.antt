use Rattle.std.proofs.Common.{◌≡◌, ◌-◌, ◌+◌, ◌<◌, ◌++◌, ℕ, suc, Some, None, refl, sym, ap, ◌∙◌, arith}
use Rattle.std.specs.Prelude.{find, slice_index}
use Rattle.std.specs.List.{flat_map, range_with_len}
use Rattle.zd_base.specs.Geometry.{Shape, zone_count}
use Rattle.zd_examine.specs.Bits.{bad_block}
use Rattle.zd_examine.proofs.Pairs.{is_bad_pair, pairs_of}
use Rattle.zd_tables.specs.Tables.{tables_in}
use Rattle.zd_examine.proofs.FindLaws.{row_none, row_some}
use Rattle.zd_examine.proofs.bitmap.first_bad_bit.Goals as goal

-- the next zone comes first
next_zone : (g : Shape) (z : ℕ) → z < zone_count g
    → flat_map (pairs_of g) (range_with_len z (zone_count g - z)) ≡ pairs_of g z ++ flat_map (pairs_of g) (range_with_len (z + 1) (zone_count g - (z + 1)))
next_zone g z low = ap (λ n. flat_map (pairs_of g) (range_with_len z n)) (let e : zone_count g - z ≡ suc (zone_count g - (z + 1)) = omega arith in e)

pub returns-in-Some : goal.returns-in-Some
returns-in-Some c =
    let g = c.args.geometry.now in
    let t = tables_in g c.args.layout.now c.args.blocks.now in
    let pointers : ℕ → ℕ = slice_index c.args.pointers.now in
    let z : ℕ = c.loop-zone.zone in
    let low : z < zone_count g = omega (arith, c.loop-zone-test.true, c.zones-zone-end.ensures.value) in
    let found : bad_block g pointers t z ≡ Some c.in-Some.block = sym (c.first_bad_block-bad.ensures pointers refl) ∙ c.in-Some.is in
    sym (c.loop-zone.invariant ∙ ap (find (is_bad_pair g pointers t)) (next_zone g z low)
    ∙ row_some (is_bad_pair g pointers t) z c.in-Some.block (range_with_len 0 g.zone_blocks) _ found)

pub loop-zone-preserved : goal.loop-zone-preserved
loop-zone-preserved c =
    let g = c.args.geometry.now in
    let t = tables_in g c.args.layout.now c.args.blocks.now in
    let pointers : ℕ → ℕ = slice_index c.args.pointers.now in
    let z : ℕ = c.loop-zone.zone in
    let low : z < zone_count g = omega (arith, c.loop-zone-test.true, c.zones-zone-end.ensures.value) in
    let none : bad_block g pointers t z ≡ None = sym (c.first_bad_block-bad.ensures pointers refl) ∙ c.in_default.is in
    c.loop-zone.invariant ∙ ap (find (is_bad_pair g pointers t)) (next_zone g z low)
    ∙ row_none (is_bad_pair g pointers t) z (range_with_len 0 g.zone_blocks) _ none
