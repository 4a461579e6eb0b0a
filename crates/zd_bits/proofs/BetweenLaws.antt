-- The weight of a range, and what a change of a range makes of weights.
use Rattle.std.proofs.Common.{◌≡◌, ℕ, zero, suc, ◌+◌, ◌-◌, ◌*◌, ◌/◌, ◌%◌, ◌<◌, ◌≤◌, Bool, true, false, cond, List, length, take, drop, get_or, refl, sym, ap, ap₂, ◌∙◌, arith}
use Rattle.std.specs.List.{range_with_len, count_by}
use Rattle.std.specs.Int.{bit_at}
use Rattle.std.proofs.lemmas.List.{get_or-drop, length-drop, take_all}
use Rattle.std.proofs.lemmas.List.FromFn.{length-range_with_len}
use Rattle.std.proofs.lemmas.List.Sums.{count_by-le-length, sum_by-append, sum_by-cons}
use Rattle.std.specs.Prelude.{◌==◌}
use Rattle.zd_model.specs.Tables.{is_set}
use Rattle.zd_bits.specs.Bits.{AllAre, GivesOnly, weight_between, weight_of}
use Rattle.zd_bits.proofs.CountLaws.{range_split, weight_split}

-- two ranges of as many numbers, that pass place by place
pub count_alike : (f g : ℕ → Bool) (a b n : ℕ) → ((k : ℕ) → k < n → f (a + k) ≡ g (b + k))
    → count_by f (range_with_len a n) ≡ count_by g (range_with_len b n)
count_alike f g a b zero same = refl
count_alike f g a b (suc n) same =
    let first : f a ≡ g b =
    (let x : a ≡ a + 0 = omega arith in ap f x) ∙ same 0 (omega arith)
    ∙ (let y : b + 0 ≡ b = omega arith in ap g y) in
    sum_by-cons (λ (x : ℕ). cond (f x) 1 0) a (range_with_len (a + 1) n)
    ∙ ap₂ (λ (p : Bool) (k : ℕ). cond p 1 0 + k) first
    (count_alike f g (a + 1) (b + 1) n (λ k low.
    (let x : a + 1 + k ≡ a + suc k = omega arith in ap f x)
    ∙ same (suc k) (omega arith)
    ∙ (let y : b + suc k ≡ b + 1 + k = omega arith in ap g y)))
    ∙ sym (sum_by-cons (λ (x : ℕ). cond (g x) 1 0) b (range_with_len (b + 1) n))

-- one range after another
pub count_split : (f : ℕ → Bool) (a m n : ℕ)
    → count_by f (range_with_len a (m + n)) ≡ count_by f (range_with_len a m) + count_by f (range_with_len (a + m) n)
count_split f a m n =
    ap (count_by f) (range_split a m n)
    ∙ sum_by-append (λ (x : ℕ). cond (f x) 1 0) (range_with_len a m) (range_with_len (a + m) n)

-- a range in which all pass
count_all : (n a : ℕ) → count_by (λ _. true) (range_with_len a n) ≡ n
count_all zero a = refl
count_all (suc n) a = sum_by-cons (λ (x : ℕ). 1) a (range_with_len (a + 1) n) ∙ omega (arith, count_all n (a + 1))

-- and one in which none does
count_none : (n a : ℕ) → count_by (λ _. false) (range_with_len a n) ≡ 0
count_none zero a = refl
count_none (suc n) a =
    (let e = sum_by-cons (λ (x : ℕ). 0) a (range_with_len (a + 1) n) in omega (arith, e, count_none n (a + 1)))

dropped : (bits : List ℕ) (k n : ℕ) → is_set (drop k bits) n ≡ is_set bits (8 * k + n)
dropped bits k n =
    let byte : k + n / 8 ≡ (8 * k + n) / 8 = omega arith in
    let place : n % 8 ≡ (8 * k + n) % 8 = omega arith in
    ap₂ (λ (b p : ℕ). bit_at b p == 1) (get_or-drop k bits (n / 8) 0 ∙ ap (λ i. get_or bits i 0) byte) place

-- the bits from a byte on
weight_dropped : (bits : List ℕ) (k from end : ℕ) → 8 * k ≤ from → from ≤ end
    → weight_of (drop k bits) (end - 8 * k) ≡ weight_of (drop k bits) (from - 8 * k) + weight_between bits from end
unfolding weight_between
weight_dropped bits k from end low order =
    let whole : end - 8 * k ≡ from - 8 * k + (end - from) = omega arith in
    ap (weight_of (drop k bits)) whole
    ∙ weight_split (drop k bits) (from - 8 * k) (end - from)
    ∙ ap (λ n. weight_of (drop k bits) (from - 8 * k) + n)
    (count_alike (is_set (drop k bits)) (is_set bits) (from - 8 * k) from (end - from) (λ i _.
    dropped bits k (from - 8 * k + i)
    ∙ (let e : 8 * k + (from - 8 * k + i) ≡ from + i = omega arith in ap (is_set bits) e)))

-- the bits from the byte of a block on
pub weight_rest_of : (bits : List ℕ) (from end : ℕ) → from ≤ end
    → weight_of (take (length bits - from / 8) (drop (from / 8) bits)) (end - from / 8 * 8)
    ≡ weight_of (take (length bits - from / 8) (drop (from / 8) bits)) (from % 8) + weight_between bits from end
weight_rest_of bits from end order =
    let rest : take (length bits - from / 8) (drop (from / 8) bits) ≡ drop (from / 8) bits =
    take_all (length bits - from / 8) (drop (from / 8) bits) (omega (arith, length-drop (from / 8) bits)) in
    let high : end - from / 8 * 8 ≡ end - 8 * (from / 8) = omega arith in
    let low : from - 8 * (from / 8) ≡ from % 8 = omega arith in
    ap₂ weight_of rest high
    ∙ weight_dropped bits (from / 8) from end (omega arith) order
    ∙ ap (λ n. n + weight_between bits from end) (ap₂ weight_of (sym rest) low)

-- three ranges, one after another
pub weight_three : (bits : List ℕ) (from to end : ℕ) → from ≤ to → to ≤ end
    → weight_of bits end ≡ weight_of bits from + weight_between bits from to + weight_between bits to end
unfolding weight_between
weight_three bits from to end first second =
    let whole : end ≡ to + (end - to) = omega arith in
    let part : to ≡ from + (to - from) = omega arith in
    ap (weight_of bits) whole
    ∙ weight_split bits to (end - to)
    ∙ ap (λ n. n + count_by (is_set bits) (range_with_len to (end - to)))
    (ap (weight_of bits) part ∙ weight_split bits from (to - from))

-- where two have the same bits, they have the same weight
between_alike : (old new : List ℕ) (from end : ℕ) → ((n : ℕ) → from ≤ n → n < end → is_set new n ≡ is_set old n)
    → weight_between new from end ≡ weight_between old from end
unfolding weight_between
between_alike old new from end same =
    count_alike (is_set new) (is_set old) from from (end - from)
    (λ k low. same (from + k) (omega arith) (omega arith))

weight_alike : (old new : List ℕ) (end : ℕ) → ((n : ℕ) → n < end → is_set new n ≡ is_set old n)
    → weight_of new end ≡ weight_of old end
unfolding weight_of
weight_alike old new end same =
    count_alike (is_set new) (is_set old) 0 0 end (λ k low. (let e : 0 + k ≡ k = omega arith in rw e (same k low)))

all_valid : (bits : List ℕ) (from end : ℕ) → AllAre true bits from end → weight_between bits from end ≡ end - from
unfolding weight_between
all_valid bits from end all =
    count_alike (is_set bits) (λ _. true) from from (end - from) (λ k low. all (from + k) (omega arith) (omega arith))
    ∙ count_all (end - from) from

none_valid : (bits : List ℕ) (from end : ℕ) → AllAre false bits from end → weight_between bits from end ≡ 0
unfolding weight_between
none_valid bits from end all =
    count_alike (is_set bits) (λ _. false) from from (end - from)
    (λ k low. all (from + k) (omega arith) (omega arith))
    ∙ count_none (end - from) from

-- there are no more valid blocks than blocks
pub weight_of-le : (bits : List ℕ) (end : ℕ) → weight_of bits end ≤ end
unfolding weight_of
weight_of-le bits end =
    omega (arith, count_by-le-length (is_set bits) (range_with_len 0 end), length-range_with_len 0 end)

-- A RANGE IS GIVEN ONE BIT
module _ (old new : List ℕ) (from to end : ℕ) (order : from ≤ to) (inside : to ≤ end) where
  outside : (bit : Bool) → GivesOnly bit from to old new
      → weight_of new end + weight_between old from to ≡ weight_of old end + weight_between new from to
  outside bit gives =
      let now = weight_three new from to end order inside in
      let before = weight_three old from to end order inside in
      let low = weight_alike old new from gives.below in
      let high = between_alike old new to end (λ n a _. gives.behind n a) in
      omega (arith, now, before, low, high)

  pub weight_set : GivesOnly true from to old new
      → weight_of new end + weight_between old from to ≡ weight_of old end + (to - from)
  weight_set gives = outside true gives ∙ ap (λ n. weight_of old end + n) (all_valid new from to gives.inside)

  pub weight_cleared : GivesOnly false from to old new
      → weight_of new end + weight_between old from to ≡ weight_of old end
  weight_cleared gives = (let e = none_valid new from to gives.inside in omega (arith, outside false gives, e))
