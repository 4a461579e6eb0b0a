-- How many blocks are valid once some are made invalid.
use Rattle.std.proofs.Common.{◌≡◌, ◌≢◌, ◌⊎◌, ℕ, zero, suc, ◌+◌, ◌*◌, ◌<◌, ◌≤◌, Bool, true, false, cond, refl, sym, ap, ap₂, ◌∙◌, subst, inl, inr, arith, count_by, get_or, sum_by}
use Rattle.std.proofs.lemmas.Bool.{cases_eq, cases_lt, false≢true}
use Rattle.std.proofs.Math.Nat.{mul-le-mul_left}
use Rattle.std.proofs.lemmas.List.FromFn.{length-range_with_len}
use Rattle.std.proofs.lemmas.List.Sums.{count_by-le-length, sum_by-cons, sum_by-le, sum_by-le-sum_by}
use Rattle.std.specs.List.{range_with_len}
use Rattle.zd_base.specs.Geometry.{IsShape, Shape, zone_count}
use Rattle.zd_model.specs.Tables.{Tables, is_valid}
use Rattle.zd_tables.specs.Changes.{ChangesBits}
use Rattle.zd_tables.specs.Held.{valid_count}
use Rattle.zd_repair.proofs.LeftMaps.{passing_as}
use Rattle.zd_repair.specs.Repaired.{IsInRange, MakesInvalid, valid_total}

-- a stronger test counts no more
count_fewer : (p q : ℕ → Bool) → ((k : ℕ) → p k ≡ true → q k ≡ true) → (a n : ℕ)
    → count_by p (range_with_len a n) ≤ count_by q (range_with_len a n)
count_fewer p q less a n =
    sum_by-le-sum_by (λ k. cond (p k) 1 0) (λ k. cond (q k) 1 0) (range_with_len a n) (λ k. by_test k (p k) (q k) refl refl)
  where
    by_test : (k : ℕ) (b c : Bool) → p k ≡ b → q k ≡ c → cond (p k) 1 0 ≤ cond (q k) 1 0
    by_test k false c is also = rw is (omega arith)
    by_test k true true is also = rw (is, also) (omega arith)
    by_test k true false is also = absurd (false≢true (sym also ∙ less k is))

-- numbers that are the same have the same sum
sum_as : (f h : ℕ → ℕ) (a n : ℕ) → ((k : ℕ) → a ≤ k → h k ≡ f k) → sum_by h (range_with_len a n) ≡ sum_by f (range_with_len a n)
sum_as f h a zero same = refl
sum_as f h a (suc n) same =
    sum_by-cons h a (range_with_len (a + 1) n)
    ∙ ap₂ (λ (x y : ℕ). x + y) (same a (omega arith)) (sum_as f h (a + 1) n (λ k low. same k (omega (arith, low))))
    ∙ sym (sum_by-cons f a (range_with_len (a + 1) n))

-- a sum in which one number is less
sum_less : (f h : ℕ → ℕ) (z r : ℕ) → h z + r ≡ f z → ((y : ℕ) → y ≢ z → h y ≡ f y) → (a n : ℕ) → a ≤ z → z < a + n
    → sum_by h (range_with_len a n) + r ≡ sum_by f (range_with_len a n)
sum_less f h z r here others a zero low high = absurd (omega (arith, low, high))
sum_less f h z r here others a (suc n) low high =
    let old = sum_by-cons f a (range_with_len (a + 1) n) in
    let new = sum_by-cons h a (range_with_len (a + 1) n) in
    elim (cases_lt a z) [
      | inl later ↦
          let rest = sum_less f h z r here others (a + 1) n (omega (arith, later)) (omega (arith, high)) in
          let one = others a (λ e. omega (arith, e, later)) in
          omega (arith, rest, one, old, new)
      | inr late ↦
          let is : a ≡ z = omega (arith, low, late) in
          let rest = sum_as f h (a + 1) n (λ k more. others k (λ e. omega (arith, e, more, is))) in
          let one = subst (λ (y : ℕ). h y + r ≡ f y) (sym is) here in
          omega (arith, rest, one, old, new)
    ]

-- the blocks of a disk
pub total_most : (g : Shape) (t : Tables) → IsShape g → valid_total g t ≤ 4294967296
total_most g t shape =
    let each : (z : ℕ) → valid_count g.zone_blocks t z ≤ g.zone_blocks = λ (z : ℕ). (
    let most = count_by-le-length (is_valid t z) (range_with_len 0 g.zone_blocks) in
    let size = length-range_with_len 0 g.zone_blocks in
    omega (arith, most, size)) in
    let all = sum_by-le (valid_count g.zone_blocks t) g.zone_blocks (range_with_len 0 (zone_count g)) (λ i d low. each (get_or (range_with_len 0 (zone_count g)) i d)) in
    let zones = ap (λ (n : ℕ). n * g.zone_blocks) (length-range_with_len 0 (zone_count g)) in
    let few = shape.count.most in
    let size = shape.size.most in
    let one = mul-le-mul_left (zone_count g) size in
    omega (arith, all, zones, few, one)

-- a range of blocks of one zone is made invalid
module _ (g : Shape) (old new : Tables) (zone from end : ℕ) (order : from ≤ end) (changes : ChangesBits false zone from end old new) where
  fewer_here : (z x : ℕ) → is_valid new z x ≡ true → is_valid old z x ≡ true
  fewer_here z x valid = elim (cases_eq z zone) [
    | inl here ↦ elim (cases_lt x from) [
      | inl below ↦ by_same z x (outside z x here (inl below)) valid
      | inr above ↦ elim (cases_lt x end) [
        | inl inside ↦ absurd (false≢true (sym (subst (λ (y : ℕ). is_valid new y x ≡ false) (sym here) (changes.inside x above inside)) ∙ valid))
        | inr past ↦ by_same z x (outside z x here (inr past)) valid
      ]
    ]
    | inr other ↦ by_same z x (changes.others z x other) valid
  ]
    where
      outside : (z x : ℕ) → z ≡ zone → (x < from) ⊎ (end ≤ x) → is_valid new z x ≡ is_valid old z x
      outside z x here out = subst (λ (y : ℕ). is_valid new y x ≡ is_valid old y x) (sym here) (changes.outside x out)

      by_same : (z x : ℕ) → is_valid new z x ≡ is_valid old z x → is_valid new z x ≡ true → is_valid old z x ≡ true
      by_same z x same valid = sym same ∙ valid

  pub range_invalid : MakesInvalid (IsInRange zone from end) old new
  range_invalid = record {
    gone = λ z x at. subst (λ (y : ℕ). is_valid new y x ≡ false) (sym at.0) (changes.inside x at.1 at.2);
    others = λ z x out. elim (cases_eq z zone) [
      | inl here ↦ subst (λ (y : ℕ). is_valid new y x ≡ is_valid old y x) (sym here) (elim (cases_lt x from) [
        | inl below ↦ changes.outside x (inl below)
        | inr above ↦ elim (cases_lt x end) [
          | inl inside ↦ absurd (out (here, above, inside))
          | inr past ↦ changes.outside x (inr past)
        ]
      ])
      | inr other ↦ changes.others z x other
    ];
    fewer = fewer_here;
    entries = changes.entries;
  }

  pub count_low : valid_count g.zone_blocks new zone ≤ valid_count g.zone_blocks old zone
  count_low = count_fewer (is_valid new zone) (is_valid old zone) (fewer_here zone) 0 g.zone_blocks

  pub total_less : (r : ℕ) → zone < zone_count g → valid_count g.zone_blocks new zone + r ≡ valid_count g.zone_blocks old zone
      → valid_total g new + r ≡ valid_total g old
  total_less r low here =
      sum_less (valid_count g.zone_blocks old) (valid_count g.zone_blocks new) zone r here
      (λ y other. passing_as (is_valid new y) (is_valid old y) g.zone_blocks (λ x low. changes.others y x other))
      0 (zone_count g) (omega arith) (omega (arith, low))

-- bits that are the same have the same count
pub total_same : (g : Shape) (a b : Tables) → ((z x : ℕ) → is_valid a z x ≡ is_valid b z x) → valid_total g a ≡ valid_total g b
total_same g a b same =
    sum_as (valid_count g.zone_blocks b) (valid_count g.zone_blocks a) 0 (zone_count g)
    (λ z low. passing_as (is_valid a z) (is_valid b z) g.zone_blocks (λ x less. same z x))
