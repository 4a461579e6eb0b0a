-- What is counted is counted after a change.
use Rattle.std.proofs.Common.{◌≡◌, ◌+◌, ◌-◌, ◌≤◌, ℕ, Bool, true, false, List, subst, refl, arith}
use Rattle.zd_bits.specs.Bits.{GivesOnly}
use Rattle.zd_bits.proofs.BetweenLaws.{weight_of-le}
use Rattle.zd_tables.proofs.PartLaws.{range_weight, set_weight, set_counted, cleared_counted}
use Rattle.zd_tables.proofs.part.give_bits.Goals as goal

pub overflow_sub-others : goal.overflow_sub-others
overflow_sub-others c =
    omega (
      arith,
      c.weight_in.ensures,
      range_weight c.args.bits.now c.args.bits.now c.args.from c.args.to c.args.end c.requires.order
          c.requires.range c.args.count.now c.requires.counted,
    )

-- a range as it is handed to `set_range`
given : (bit : Bool) (from to : ℕ) (old new : List ℕ) → from ≤ to
    → GivesOnly bit from (from + (to - from)) old new → GivesOnly bit from to old new
given bit from to old new order gives =
    (let e : from + (to - from) ≡ to = omega arith in subst (λ n. GivesOnly bit from n old new) e gives)

pub overflow_add-count : goal.overflow_add-count
overflow_add-count c =
    let some = c.if-changed.ensures.value.0 refl in
    let gives = given true c.args.from c.args.to c.args.bits.now c.set_range-changed.new.bits c.requires.order
    c.set_range-changed.ensures.bits in
    let weight = set_weight c.args.bits.now c.set_range-changed.new.bits c.args.from c.args.to c.args.end
    c.requires.order c.requires.range c.args.count.now c.requires.counted (omega (arith, some.1, some.2)) gives in
    let most = weight_of-le c.set_range-changed.new.bits c.args.end in
    record { fits = rw c.weight_in.ensures (omega (arith, weight, most, c.ranges.end.fits)) }

pub returns-then-changed-clause-counted : goal.returns-then-changed-clause-counted
returns-then-changed-clause-counted c =
    let some = c.if-changed.ensures.value.0 refl in
    let gives = given true c.args.from c.args.to c.args.bits.now c.set_range-changed.new.bits c.requires.order
    c.set_range-changed.ensures.bits in
    rw c.weight_in.ensures
    (set_counted c.args.bits.now c.set_range-changed.new.bits c.args.from c.args.to c.args.end c.requires.order
    c.requires.range c.args.count.now c.requires.counted (omega (arith, some.1, some.2)) gives
    c.first_with.result c.first_with.ensures)

pub returns-else-bit-clause-counted : goal.returns-else-bit-clause-counted
returns-else-bit-clause-counted c =
    let gives = given false c.args.from c.args.to c.args.bits.now c.clear_range-changed.new.bits
    c.requires.order c.clear_range-changed.ensures.bits in
    rw c.weight_in.ensures
    (cleared_counted c.args.bits.now c.clear_range-changed.new.bits c.args.from c.args.to c.args.end
    c.requires.order c.requires.range c.args.count.now c.requires.counted gives
    c.first_without-count.result c.first_without-count.ensures)
