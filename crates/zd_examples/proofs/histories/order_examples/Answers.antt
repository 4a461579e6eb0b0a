use Rattle.std.proofs.Common.{◌≡◌, ℕ, zero, suc, refl, arith, [], eqb, false}
use borrow.Author.Tests.{ne_eqb}
use Rattle.zd_examples.proofs.histories.order_examples.Goals as goal

-- a caller above 2 is neither 1 nor 2
not_one : (n : ℕ) → eqb 1 (suc (suc (suc n))) ≡ false
not_one n = ne_eqb 1 (suc (suc (suc n))) (λ e. omega arith)

not_two : (n : ℕ) → eqb 2 (suc (suc (suc n))) ≡ false
not_two n = ne_eqb 2 (suc (suc (suc n))) (λ e. omega arith)

pub returns-clause-planned : goal.returns-clause-planned
returns-clause-planned c zero = (_, refl)
returns-clause-planned c (suc zero) = (_, refl)
returns-clause-planned c (suc (suc zero)) = (_, refl)
returns-clause-planned c (suc (suc (suc n))) = rw (not_one n, not_two n) ([], refl)

pub returns-clause-other : goal.returns-clause-other
returns-clause-other c zero = (_, refl)
returns-clause-other c (suc zero) = (_, refl)
returns-clause-other c (suc (suc zero)) = (_, refl)
returns-clause-other c (suc (suc (suc n))) = rw (not_one n, not_two n) ([], refl)

pub returns-clause-part : goal.returns-clause-part
returns-clause-part c zero = (_, refl)
returns-clause-part c (suc zero) = (_, refl)
returns-clause-part c (suc (suc zero)) = (_, refl)
returns-clause-part c (suc (suc (suc n))) = rw (not_one n, not_two n) ([], refl)

pub returns-clause-past : goal.returns-clause-past
returns-clause-past c zero = (_, refl)
returns-clause-past c (suc n) = rw (ne_eqb 0 (suc n) (λ e. omega arith)) ([], refl)
