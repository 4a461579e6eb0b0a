use Rattle.std.proofs.Common.{◌≡◌, true, false, refl, sym, ◌∙◌, inl, inr, arith}
use Rattle.std.proofs.lemmas.Bool.{cases_lt}
use Rattle.zd_examine.specs.Bits.{in_both}
use Rattle.zd_examine.proofs.FindLaws.{find_none, find_some}
use Rattle.zd_examine.proofs.bitmap.first_in_both.Goals as goal

pub returns-then-valid : goal.returns-then-valid
returns-then-valid c =
    let first = c.in-Some.ensures.some in
    let there : in_both c.args.bits.now c.args.others.now c.in-Some.block ≡ true = rw (first.valid, sym c.valid.ensures ∙ c.if-valid.true) refl in
    sym (find_some (in_both c.args.bits.now c.args.others.now) 0 c.args.end c.in-Some.block (omega arith) (omega (arith, first.high)) there
    (λ i low high. elim (cases_lt i c.loop-block.at) [
      | inl earlier ↦ c.loop-block.invariant.before i earlier
      | inr later ↦ (let not : in_both c.args.bits.now c.args.others.now i ≡ false = rw (first.before i later high) refl in not)
    ]))

pub returns : goal.returns
returns c =
    let none = c.in_default.ensures.none in
    sym (find_none (in_both c.args.bits.now c.args.others.now) 0 c.args.end
    (λ i low high. elim (cases_lt i c.loop-block.at) [
      | inl earlier ↦ c.loop-block.invariant.before i earlier
      | inr later ↦ (let not : in_both c.args.bits.now c.args.others.now i ≡ false = rw (none i later (omega (arith, high))) refl in not)
    ]))
