-- The weight of a zone and its first valid block, by what is counted of the parts of its bitmap.
use Rattle.std.proofs.Common.{◌≡◌, ◌≢◌, ℕ, zero, suc, ◌+◌, ◌*◌, ◌-◌, ◌/◌, ◌%◌, ◌<◌, ◌≤◌, min, Bool, true, false, cond, List, length, get_or, Option, Some, None, inl, inr, refl, sym, ap, ap₂, ◌∙◌, subst, arith}
use Rattle.std.proofs.lemmas.Bool.{cases_Bool, cases_lt, false≢true}
use Rattle.std.proofs.Math.Nat.{mul_comm}
use Rattle.std.proofs.lemmas.List.{get_or_read_under}
use Rattle.std.proofs.lemmas.List.FromFn.{length-range_with_len}
use Rattle.std.proofs.lemmas.List.Sums.{count_by-le-length}
use Rattle.std.proofs.lemmas.Nat.{mul-add-lt}
use Rattle.std.specs.List.{range_with_len, count_by, find}
use Rattle.std.specs.Prelude.{option_map}
use Rattle.zd_base.specs.Geometry.{IsShape, Shape, per, zone_count}
use Rattle.zd_base.specs.declared.layout.Layout.{Layout}
use Rattle.zd_bits.specs.Bits.{AllAre, weight_of}
use Rattle.zd_bits.proofs.BetweenLaws.{count_alike, count_split}
use Rattle.zd_model.specs.Tables.{Tables, is_set, is_valid}
use Rattle.zd_model.proofs.FaultLaws.{none_some, some_is}
use Rattle.zd_sets.specs.Blocks.{blocks_of}
use Rattle.zd_tables.specs.Tables.{bits_in_blocks, tables_in}
use Rattle.zd_tables.specs.Changes.{bits_block}
use Rattle.zd_tables.specs.Counts.{AreHeld, CountsValid, IsCounted, count_at, part_blocks}
use Rattle.zd_tables.specs.Held.{HeldTables, first_valid_block, tables_held, valid_count}
use Rattle.zd_tables.specs.declared.part.PartCount.{PartCount}
use Rattle.zd_tables.proofs.TableLaws.{bit_by_block, valid_is}
use Rattle.zd_tables.proofs.ZoneParts.{one_or_two}

-- what is found in a range is the first that passes
module _ (f : ℕ → Bool) where
  abbrev IsFound : ℕ → ℕ → Option ℕ → Type 0
  IsFound a n o =
      ((k : ℕ) → o ≡ Some k → (a ≤ k) × (k < a + n) × (f k ≡ true) × ((m : ℕ) → a ≤ m → m < k → f m ≡ false))
      × (o ≡ None → (m : ℕ) → a ≤ m → m < a + n → f m ≡ false)

  found_is : (a n : ℕ) (o : Option ℕ) → IsFound a n o → o ≡ find f (range_with_len a n)
  found_is a zero None is = refl
  found_is a zero (Some k) is = (let at = is.0 k refl in absurd (omega (arith, at.0, at.1)))
  found_is a (suc n) None is = elim (cases_Bool (f a)) [
    | inl passes ↦ absurd (false≢true (sym (is.1 refl a (omega arith) (omega arith)) ∙ passes))
    | inr fails ↦
        found_is (a + 1) n None
        (λ k e. absurd (none_some k e), λ _ m low high. is.1 refl m (omega arith) (omega arith))
        ∙ sym (ap (λ (b : Bool). cond b (Some a) (find f (range_with_len (a + 1) n))) fails)
  ]
  found_is a (suc n) (Some k) is =
      let at = is.0 k refl in
      elim (cases_Bool (f a)) [
        | inl passes ↦ elim (cases_lt a k) [
          | inl before ↦ absurd (false≢true (sym (at.3 a (omega arith) before) ∙ passes))
          | inr there ↦
              let same : k ≡ a = omega (arith, there, at.0) in
              ap (λ (i : ℕ). Some i) same
              ∙ sym (ap (λ (b : Bool). cond b (Some a) (find f (range_with_len (a + 1) n))) passes)
        ]
        | inr fails ↦
            let off : k ≢ a = λ e. false≢true (sym fails ∙ ap f (sym e) ∙ at.2) in
            found_is (a + 1) n (Some k) (
              λ j e. (
                  let same = some_is k j e in (
                    omega (arith, at.0, off, same),
                    omega (arith, at.1, same),
                    ap f (sym same)
                        ∙ at.2,
                    λ m low high. at.3 m (omega (arith, low)) (omega (arith, high, same)),
                  )),
              λ e. absurd (none_some k (sym e)),
            )
            ∙ sym (ap (λ (b : Bool). cond b (Some a) (find f (range_with_len (a + 1) n))) fails)
      ]

-- A ZONE, by what is counted of its blocks below 32,768 and of the others
module _ (b : ℕ) (t : Tables) (zone : ℕ) (first second : PartCount)
    (one : CountsValid t zone 0 (min b 32768) first) (two : CountsValid t zone 32768 b second) where
  pub weight_is : first.weight + second.weight ≡ valid_count b t zone
  weight_is = elim (cases_lt 32768 b) [
    | inl many ↦
        ap₂ (λ (x y : ℕ). x + y)
        (one.weight ∙ (let e : min b 32768 - 0 ≡ 32768 = omega arith in
        ap (λ n. count_by (is_valid t zone) (range_with_len 0 n)) e)) two.weight
        ∙ sym ((let e : b ≡ 32768 + (b - 32768) = omega arith in
        ap (λ n. count_by (is_valid t zone) (range_with_len 0 n)) e)
        ∙ count_split (is_valid t zone) 0 32768 (b - 32768))
    | inr few ↦
        ap₂ (λ (x y : ℕ). x + y)
        (one.weight ∙ (let e : min b 32768 - 0 ≡ b = omega arith in
        ap (λ n. count_by (is_valid t zone) (range_with_len 0 n)) e))
        (two.weight ∙ (let e : b - 32768 ≡ 0 = omega arith in
        ap (λ n. count_by (is_valid t zone) (range_with_len 32768 n)) e))
        ∙ (let e : valid_count b t zone + 0 ≡ valid_count b t zone = omega arith in e)
  ]

  pub weight_few : first.weight + second.weight ≤ b
  weight_few =
      omega (arith, weight_is, count_by-le-length (is_valid t zone) (range_with_len 0 b), length-range_with_len 0 b)

  pub first_part : (n : ℕ) → first.first ≡ Some n → Some n ≡ first_valid_block b t zone
  first_part n is =
      let at = one.some n is in
      found_is (is_valid t zone) 0 b (Some n) (
        λ k e. (
            let same = some_is n k e in (
              omega arith,
              omega (arith, at.0, same),
              ap (is_valid t zone) (let back : k ≡ 0 + n = omega (arith, same) in back) ∙ at.1,
              λ m low high. at.2 m low (omega (arith, high, same)),
            )),
        λ e. absurd (none_some n (sym e)),
      )

  pub second_part : first.first ≡ None → option_map (λ n. 32768 + n) second.first ≡ first_valid_block b t zone
  second_part none = by_second second.first refl
    where
      rest : (m : ℕ) → m < b → m < 32768 → is_valid t zone m ≡ false
      rest m low near = one.none none m (omega arith) (omega (arith, low, near))

      by_second : (o : Option ℕ) → second.first ≡ o → option_map (λ n. 32768 + n) o ≡ first_valid_block b t zone
      by_second None is = found_is (is_valid t zone) 0 b None (
        λ k e. absurd (none_some k e),
        λ _ m _ low. elim (cases_lt m 32768) [
          | inl near ↦ rest m (omega (arith, low)) near
          | inr far ↦ two.none is m far (omega (arith, low))
        ],
      )
      by_second (Some n) is =
          let at = two.some n is in
          found_is (is_valid t zone) 0 b (Some (32768 + n)) (
            λ k e. (
                let same = some_is (32768 + n) k e in (
                  omega arith,
                  omega (arith, at.0, same),
                  ap (is_valid t zone) (sym same) ∙ at.1,
                  λ m low high. elim (cases_lt m 32768) [
                    | inl near ↦ rest m (omega (arith, high, same, at.0)) near
                    | inr far ↦ at.2 m far (omega (arith, high, same))
                  ],
                )),
            λ e. absurd (none_some (32768 + n) (sym e)),
          )

  pub second_low : (n : ℕ) → second.first ≡ Some n → 32768 + n < b
  second_low n is = (two.some n is).0

module _ (g : Shape) (l : Layout) (bytes : List ℕ) (counts : List PartCount) (held : AreHeld g l bytes counts)
    (zone part : ℕ) (low : zone < zone_count g) (at : part ≡ zone * per g) where
  -- a part of the zone, and what is counted of it
  counted_part : (k : ℕ) → k < per g → IsCounted (blocks_of bytes (bits_block g l zone + k) 1) (part_blocks g)
      (count_at counts (part + k))
  counted_part k inside =
      let first : 1 + l.map_blocks + (zone * per g + k) ≡ bits_block g l zone + k = omega arith in
      rw at (subst (λ (b : ℕ). IsCounted (blocks_of bytes b 1) (part_blocks g)
      (count_at counts (zone * per g + k))) first
      (held.each (zone * per g + k)
      (let at_most = mul-add-lt zone (per g) k (zone_count g) low inside in
      omega (arith, at_most, mul_comm (zone_count g) (per g)))))

  bit_of_part : (k x : ℕ) → k < per g → x < 32768
      → is_set (bits_in_blocks g l bytes zone) (32768 * k + x) ≡ is_set
      (blocks_of bytes (bits_block g l zone + k) 1) x
  bit_of_part k x inside small =
      bit_by_block g l bytes zone (32768 * k + x) (omega (arith, inside, small))
      ∙ ap₂ (λ (i y : ℕ). is_set (blocks_of bytes (bits_block g l zone + i) 1) y)
      (let e : (32768 * k + x) / 32768 ≡ k = omega (arith, small) in e)
      (let e : (32768 * k + x) % 32768 ≡ x = omega (arith, small) in e)

  -- its blocks from `from` on, below `end`, are those of the part
  module _ (k from end : ℕ) (inside : k < per g) (start : from ≡ 32768 * k) (size : end ≡ from + part_blocks g) where
    same_bit : (x : ℕ) → x < part_blocks g → is_valid (tables_in g l bytes) zone (from + x) ≡ is_set
        (blocks_of bytes (bits_block g l zone + k) 1) x
    same_bit x small =
        valid_is g l bytes zone (from + x) low
        ∙ ap (λ (y : ℕ). is_set (bits_in_blocks g l bytes zone) y)
        (let e : from + x ≡ 32768 * k + x = omega (arith, start) in e)
        ∙ bit_of_part k x inside (omega (arith, small))

    invalid : (n m : ℕ) → n ≤ part_blocks g → AllAre false (blocks_of bytes (bits_block g l zone + k) 1) 0 n
        → from ≤ m → m < from + n
        → is_valid (tables_in g l bytes) zone m ≡ false
    invalid n m few all a b =
        let back : m ≡ from + (m - from) = omega (arith, a) in
        ap (is_valid (tables_in g l bytes) zone) back ∙ same_bit (m - from) (omega (arith, a, b, few))
        ∙ all (m - from) (omega arith) (omega (arith, a, b))

    weighs : weight_of (blocks_of bytes (bits_block g l zone + k) 1) (part_blocks g)
        ≡ count_by (is_valid (tables_in g l bytes) zone) (range_with_len from (end - from))
    unfolding weight_of
    weighs =
        let many : end - from ≡ part_blocks g = omega (arith, size) in
        sym (ap (λ n. count_by (is_valid (tables_in g l bytes) zone) (range_with_len from n)) many
        ∙ count_alike (is_valid (tables_in g l bytes) zone)
        (is_set (blocks_of bytes (bits_block g l zone + k) 1)) from 0 (part_blocks g) (λ x small.
        same_bit x small ∙ (let e : x ≡ 0 + x = omega arith in
        ap (is_set (blocks_of bytes (bits_block g l zone + k) 1)) e)))

    pub counts_valid : CountsValid (tables_in g l bytes) zone from end (count_at counts (part + k))
    counts_valid =
        let is = counted_part k inside in
        record {
          weight = is.weight ∙ weighs;
          some = λ n e. (
              let first = is.some n e in (
                omega (arith, first.high, size),
                same_bit n first.high
                    ∙ first.valid,
                λ m a b. invalid n m (omega (arith, first.high)) first.before a b,
              ));
          none = λ e m a b. invalid (part_blocks g) m (omega arith) (is.none e) a (omega (arith, b, size));
        }

-- nothing is counted of no blocks
pub counts_nothing : (t : Tables) (zone from end : ℕ) → end ≤ from
    → CountsValid t zone from end (record { weight = 0; first = None })
counts_nothing t zone from end none = record {
  weight = sym (let e : end - from ≡ 0 = omega (arith, none) in
      ap (λ n. count_by (is_valid t zone) (range_with_len from n)) e);
  some = λ n e. absurd (none_some n e);
  none = λ _ x a b. absurd (omega (arith, none, a, b));
}

-- what is counted of both parts of a zone
module _ (h : HeldTables) (counts : List PartCount) (held : AreHeld h.geometry h.layout h.bytes counts)
    (shape : IsShape h.geometry)
    (zone part : ℕ) (low : zone < zone_count h.geometry) (at : part ≡ zone * per h.geometry)
    (first : PartCount) (is_first : first ≡ get_or counts part first) where
  some_part : 1 ≤ per h.geometry
  some_part = omega arith

  part_low : (k : ℕ) → k < per h.geometry → part + k < length counts
  part_low k inside =
      let at_most = mul-add-lt zone (per h.geometry) k (zone_count h.geometry) low inside in
      omega (arith, at_most, mul_comm (zone_count h.geometry) (per h.geometry), held.parts, at)

  read_part : (k : ℕ) (x : PartCount) → k < per h.geometry → x ≡ get_or counts (part + k) x
      → count_at counts (part + k) ≡ x
  read_part k x inside is =
      sym (get_or_read_under counts (part + k) (length counts) x (record { weight = 0; first = None }) is
      (part_low k inside) refl)

  pub first_counts : CountsValid (tables_held h) zone 0 (part_blocks h.geometry) first
  first_counts =
      let there : count_at counts (part + 0) ≡ first =
      read_part 0 first (omega arith)
      (let e : part ≡ part + 0 = omega arith in is_first ∙ ap (λ n. get_or counts n first) e) in
      subst (λ (x : PartCount). CountsValid (tables_held h) zone 0 (part_blocks h.geometry) x) there
      (counts_valid h.geometry h.layout h.bytes counts held zone part low at 0 0 (part_blocks h.geometry)
      (omega arith) (omega arith) (omega arith))

  pub no_second : per h.geometry ≡ 1 → CountsValid (tables_held h) zone 32768 h.geometry.zone_blocks
      (record { weight = 0; first = None })
  no_second one = counts_nothing (tables_held h) zone 32768 h.geometry.zone_blocks
      (elim (one_or_two h.geometry shape) [
        | inl few ↦ few.0
        | inr two ↦ absurd (omega (arith, one, two.1))
      ])

  pub second_counts : per h.geometry ≢ 1 → (second : PartCount) → second ≡ get_or counts (part + 1) second
      → CountsValid (tables_held h) zone 32768 h.geometry.zone_blocks second
  second_counts more second is_second = elim (one_or_two h.geometry shape) [
    | inl one ↦ absurd (more one.1)
    | inr two ↦
        subst (λ (x : PartCount). CountsValid (tables_held h) zone 32768 h.geometry.zone_blocks x)
        (read_part 1 second (omega (arith, two.1)) is_second)
        (counts_valid h.geometry h.layout h.bytes counts held zone part low at 1 32768 h.geometry.zone_blocks
        (omega (arith, two.1)) (omega arith) (omega (arith, two.0)))
  ]
