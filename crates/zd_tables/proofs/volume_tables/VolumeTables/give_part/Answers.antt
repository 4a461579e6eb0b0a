-- A bitmap block was lent and changed, and its count stands again in its place.
use Rattle.std.proofs.Common.{◌≡◌, ◌+◌, ◌*◌, ◌<◌, ◌≤◌, min, ℕ, List, length, sym, ap, ◌∙◌, subst, arith}
use Rattle.zd_base.specs.Geometry.{per, zone_count}
use Rattle.zd_bits.specs.Bits.{GivesOnly, Tells}
use Rattle.zd_tables.specs.Counts.{IsCounted, part_blocks}
use Rattle.zd_tables.specs.Held.{HeldTables}
use Rattle.zd_sets.proofs.BlockLaws.{block_size}
use Rattle.zd_tables.proofs.GivenLaws.{sets_lent}
use Rattle.zd_tables.proofs.TableSteps.{part_held}
use Rattle.zd_tables.proofs.volume_tables.VolumeTables.give_part.Goals as goal

pub invariant_of-self : goal.invariant_of-self
invariant_of-self c =
    let some : c.args.from < c.args.to = omega (arith, c.requires.order, c.if-from-to.false) in
    let inside : c.args.part < zone_count c.self.inside.geometry * per c.self.inside.geometry =
    subst (λ (h : HeldTables). c.args.part < zone_count h.geometry * per h.geometry) (sym c.self.view_is)
    (c.requires.part some) in
    let fits : 4096 * (1 + c.self.inside.layout.map_blocks + c.args.part + 1) ≤ length c.self.inside.blocks =
    omega (arith, c.self.invariant.size, inside) in
    let size : length c.give_bits-changed.new.bits ≡ 4096 =
    c.give_bits-changed.ensures.size
    ∙ ap (λ (bits : List ℕ). length bits) c.block_mut-bits.ensures.value
    ∙ block_size c.self.inside.blocks (1 + c.self.inside.layout.map_blocks + c.args.part) fits in
    let end : c.min-end.result ≡ part_blocks c.self.inside.geometry =
    c.min-end.ensures ∙ ap (λ n. min n 32768) c.zone_blocks.ensures.value in
    part_held c.self.inside.geometry c.self.inside.layout c.self.inside.blocks c.give_bits-changed.new.bits
    c.self.inside.counts.items c.self.invariant size c.args.part c.give_bits-changed.new.count inside
    (subst (λ (n : ℕ). IsCounted c.give_bits-changed.new.bits n c.give_bits-changed.new.count) end
    c.give_bits-changed.ensures.counted)

pub returns-clause-blocks : goal.returns-clause-blocks
returns-clause-blocks c =
    let some : c.args.from < c.args.to = omega (arith, c.requires.order, c.if-from-to.false) in
    let inside : c.args.part < zone_count c.self.inside.geometry * per c.self.inside.geometry =
    subst (λ (h : HeldTables). c.args.part < zone_count h.geometry * per h.geometry) (sym c.self.view_is)
    (c.requires.part some) in
    let fits : 4096 * (1 + c.self.inside.layout.map_blocks + c.args.part + 1) ≤ length c.self.inside.blocks =
    omega (arith, c.self.invariant.size, inside) in
    let lent = c.block_mut-bits.ensures.value in
    let size : length c.give_bits-changed.new.bits ≡ 4096 =
    c.give_bits-changed.ensures.size ∙ ap (λ (bits : List ℕ). length bits) lent
    ∙ block_size c.self.inside.blocks (1 + c.self.inside.layout.map_blocks + c.args.part) fits in
    rw (← c.self.view_is)
    (sets_lent c.args.bit (1 + c.self.inside.layout.map_blocks + c.args.part) c.args.from c.args.to
    c.self.inside.blocks c.give_bits-changed.new.bits c.give_bits-changed.result fits size
    (subst (λ (bits : List ℕ). GivesOnly c.args.bit c.args.from c.args.to bits c.give_bits-changed.new.bits)
    lent c.give_bits-changed.ensures.bits)
    (subst (λ (bits : List ℕ). Tells c.give_bits-changed.result c.args.bit bits c.args.from c.args.to) lent
    c.give_bits-changed.ensures.value)
    (λ stays. c.give_bits-changed.ensures.same stays ∙ lent))
