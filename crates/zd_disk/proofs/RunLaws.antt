-- How runs of blocks follow each other.
use Rattle.std.proofs.Common.{◌≡◌, ◌⊎◌, ℕ, zero, suc, ◌+◌, ◌-◌, ◌*◌, ◌/◌, ◌%◌, ◌<◌, ◌≤◌, max, Bool, true, false, cond, List, [], ◌∷◌, ◌++◌, count_by, inl, inr, refl, ap, ap₂, ◌∙◌, subst, arith}
use Rattle.std.specs.List.{range_with_len}
use Rattle.std.proofs.Math.Nat.{mod-le}
use Rattle.std.proofs.lemmas.Bool.{cases_lt, eq-eqb, eqb-true, ne_eqb}
use Rattle.std.proofs.lemmas.List.Sums.{sum_by-append}
use Rattle.std.proofs.lemmas.Nat.{div-mul-add, mod-mul-add, div-add-mod'}
use Rattle.zd_base.specs.Geometry.{Shape}
use Rattle.zd_disk.specs.Runs.{run_count, starts_run}

-- the jth block after block b, in the same zone
pub place_in_zone : (b j w : ℕ) → b % w + j < w → ((b + j) / w ≡ b / w) × ((b + j) % w ≡ b % w + j)
place_in_zone b j w inside =
    let whole = div-add-mod' b w in
    let at : b + j ≡ b / w * w + (b % w + j) = omega (arith, whole) in (
      ap (λ n. n / w) at ∙ div-mul-add (b / w) w (b % w + j) inside,
      ap (λ n. n % w) at ∙ mod-mul-add (b / w) w (b % w + j) inside,
    )

-- the first block of the next zone
next_zone : (b j w : ℕ) → 0 < w → b % w + j ≡ w → (b + j) % w ≡ 0
next_zone b j w some end =
    let whole = div-add-mod' b w in
    let at : b + j ≡ (b / w + 1) * w + 0 = omega (arith, whole, end) in
    ap (λ n. n % w) at ∙ mod-mul-add (b / w + 1) w 0 some

range_then : (a n m : ℕ) → range_with_len a (n + m) ≡ range_with_len a n ++ range_with_len (a + n) m
range_then a zero m = ap₂ (λ (k l : ℕ). range_with_len k l) (let e : a ≡ a + 0 = omega arith in e) (let e : 0 + m ≡ m = omega arith in e)
range_then a (suc n) m =
    ap (range_with_len a) (let e : suc n + m ≡ suc (n + m) = omega arith in e)
    ∙ ap (λ (xs : List ℕ). a ∷ xs) (range_then (a + 1) n m
    ∙ ap (λ (k : ℕ). range_with_len (a + 1) n ++ range_with_len k m) (let e : a + 1 + n ≡ a + suc n = omega arith in e))

-- numbers that pass a test, counted in two parts
pub count_then : (p : ℕ → Bool) (a m b : ℕ) → a ≤ m → m ≤ b
    → count_by p (range_with_len a (b - a)) ≡ count_by p (range_with_len a (m - a)) + count_by p (range_with_len m (b - m))
count_then p a m b low high =
    let size : b - a ≡ m - a + (b - m) = omega arith in
    let at : a + (m - a) ≡ m = omega arith in
    ap (λ (n : ℕ). count_by p (range_with_len a n)) size
    ∙ ap (count_by p) (range_then a (m - a) (b - m))
    ∙ sum_by-append (λ k. cond (p k) 1 0) (range_with_len a (m - a)) (range_with_len (a + (m - a)) (b - m))
    ∙ ap (λ (k : ℕ). count_by p (range_with_len a (m - a)) + count_by p (range_with_len k (b - m))) at

-- none of them does
pub count_none : (p : ℕ → Bool) (a n : ℕ) → ((k : ℕ) → a ≤ k → k < a + n → p k ≡ false) → count_by p (range_with_len a n) ≡ 0
count_none p a zero none = refl
count_none p a (suc n) none =
    sum_by-append (λ k. cond (p k) 1 0) (a ∷ []) (range_with_len (a + 1) n)
    ∙ ap₂ (λ (x y : ℕ). x + y)
    (ap {B = ℕ} (λ (b : Bool). 0 + cond b 1 0) (none a (omega arith) (omega arith)))
    (count_none p (a + 1) n (λ k low high. none k (omega arith) (omega arith)))

module _ (g : Shape) (some : 0 < g.zone_blocks) (from i : ℕ) (low : from ≤ i) (starts : starts_run g from i ≡ true) where
  here : (i - max from (i - i % g.zone_blocks)) % 32 ≡ 0
  here = eqb-true _ _ starts

  -- inside a run none begins
  inside : (d : ℕ) → i % g.zone_blocks + d < g.zone_blocks
      → i + d - max from (i + d - (i + d) % g.zone_blocks) ≡ i - max from (i - i % g.zone_blocks) + d
  inside d within =
      let place = (place_in_zone i d g.zone_blocks within).1 in
      let least = mod-le i g.zone_blocks in
      omega (arith, place, least, low)

  none_starts : (d : ℕ) → 0 < d → d < 32 → i % g.zone_blocks + d < g.zone_blocks → starts_run g from (i + d) ≡ false
  none_starts d more few within =
      ne_eqb _ _ (λ e. let away = inside d within in let base = here in absurd (omega (arith, away, base, e)))

  -- a run is one more
  pub run_more : (r : ℕ) → 0 < r → r ≤ 32 → i % g.zone_blocks + r ≤ g.zone_blocks → run_count g from (i + r) ≡ run_count g from i + 1
  run_more r more few within =
      let first : count_by (starts_run g from) (range_with_len i 1) ≡ 1 = ap {B = ℕ} (λ (b : Bool). 0 + cond b 1 0) starts in
      let rest = count_none (starts_run g from) (i + 1) (i + r - (i + 1)) (λ k above below.
      let at : i + (k - i) ≡ k = omega arith in
      subst (λ (n : ℕ). starts_run g from n ≡ false) at (none_starts (k - i) (omega arith) (omega arith) (omega arith))) in
      let one = count_then (starts_run g from) i (i + 1) (i + r) (omega arith) (omega arith) in
      let single : i + 1 - i ≡ 1 = omega arith in
      let alone = ap (λ (n : ℕ). count_by (starts_run g from) (range_with_len i n)) single in
      let all = count_then (starts_run g from) from i (i + r) low (omega arith) in
      omega (arith, first, rest, one, alone, all)

  -- and the next one begins after it
  pub run_next : (r : ℕ) → 0 < r → (r ≡ 32) ⊎ (i % g.zone_blocks + r ≡ g.zone_blocks) → i % g.zone_blocks + r ≤ g.zone_blocks
      → starts_run g from (i + r) ≡ true
  run_next r more whole within = eq-eqb _ _ (elim whole [
    | inl full ↦ elim (cases_lt (i % g.zone_blocks + r) g.zone_blocks) [
      | inl less ↦ let away = inside r less in let base = here in omega (arith, away, base, full)
      | inr past ↦ let zero = next_zone i r g.zone_blocks some (omega arith) in omega (arith, zero, low)
    ]
    | inr end ↦ let zero = next_zone i r g.zone_blocks some end in omega (arith, zero, low)
  ])
