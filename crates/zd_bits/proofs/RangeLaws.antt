-- Ranges of blocks: one bit or the other, two ranges that meet, a byte written.
use Rattle.std.proofs.Common.{◌≡◌, ◌≢◌, ◌⊎◌, inl, inr, ℕ, zero, suc, ◌+◌, ◌-◌, ◌*◌, ◌/◌, ◌%◌, ◌<◌, ◌≤◌, ◌^◌, Bool, true, false, not, ◌||◌, List, length, get_or, set, eqb, sym, ap, ◌∙◌, arith}
use Rattle.std.proofs.Common.{get_or-set_same, get_or-set_other}
use Rattle.std.specs.Int.{bit_at}
use Rattle.std.proofs.lemmas.Bool.{cases_Bool, cases_lt, cases_eq, or_cases, eqb-true, eqb-false, not-true, not-false}
use Rattle.std.proofs.lemmas.Nat.Bits.{bit_at-lt, same_from_bits_below}
use Rattle.zd_model.specs.Tables.{is_set}
use Rattle.zd_bits.specs.Bits.{AllAre, SomeIs, Tells, GivesOnly}

one_or_other : (a b : Bool) → (a ≡ b) ⊎ (a ≡ not b)
one_or_other true true = inl (cc)
one_or_other true false = inr (cc)
one_or_other false true = inr (cc)
one_or_other false false = inl (cc)

or_parts : (x y : Bool) → (x || y) ≡ false → (x ≡ false) × (y ≡ false)
or_parts true y e = let f : ⊥ = cc in absurd f
or_parts false y e = (cc, e)

all_or_some_of : (bit : Bool) (bits : List ℕ) (from n : ℕ) → AllAre bit bits from (from + n) ⊎ SomeIs (not bit) bits from (from + n)
all_or_some_of bit bits from zero = inl (λ k low high. absurd (omega arith))
all_or_some_of bit bits from (suc n) =
    elim (all_or_some_of bit bits from n) [
      | inl all ↦ elim (one_or_other (is_set bits (from + n)) bit) [
        | inl same ↦ inl (λ k low high. elim (cases_eq k (from + n)) [
          | inl here ↦ ap (is_set bits) here ∙ same
          | inr other ↦ all k low (omega arith)
        ])
        | inr other ↦ inr (from + n, omega arith, omega arith, other)
      ]
      | inr some ↦ inr (some.0, some.1, omega arith, some.3)
    ]

-- all blocks of a range have a bit, or one has the other
pub all_or_some : (bit : Bool) (bits : List ℕ) (from end : ℕ) → from ≤ end → AllAre bit bits from end ⊎ SomeIs (not bit) bits from end
all_or_some bit bits from end order =
    let e : from + (end - from) ≡ end = omega arith in
    rw e at (all_or_some_of bit bits from (end - from))

-- two ranges that meet, given the same bit one after the other
pub given_both : {bit : Bool} {a b c : ℕ} {x y z : List ℕ} → a ≤ b → b ≤ c → GivesOnly bit a b x y → GivesOnly bit b c y z → GivesOnly bit a c x z
given_both {bit} {a} {b} {c} {x} {y} {z} ab bc first second = record {
  inside = λ n low high. elim (cases_lt n b) [
    | inl before ↦ second.below n before ∙ first.inside n low before
    | inr after ↦ second.inside n after high
  ];
  below = λ n low. second.below n (omega arith) ∙ first.below n low;
  behind = λ n high. second.behind n high ∙ first.behind n (omega arith);
}

-- what is told of both
pub tells_both : {p q bit : Bool} {a b c : ℕ} {x y : List ℕ} → a ≤ b → b ≤ c → Tells p bit x a b → GivesOnly bit a b x y → Tells q bit y b c → Tells (p || q) bit x a c
tells_both {p} {q} {bit} {a} {b} {c} {x} {y} ab bc first change second = record {
  changes = λ e. elim (or_cases p q e) [
    | inl one ↦ let s = first.changes one in (s.0, s.1, omega arith, s.3)
    | inr two ↦ let s = second.changes two in (s.0, omega arith, s.2, sym (change.behind s.0 s.1) ∙ s.3)
  ];
  keeps = λ e n low high.
      let parts = or_parts p q e in
      elim (cases_lt n b) [
        | inl before ↦ first.keeps parts.0 n low before
        | inr after ↦ sym (change.behind n after) ∙ second.keeps parts.1 n after high
      ];
}

same_bit : (x y : ℕ) → x < 2 → y < 2 → eqb x 1 ≡ eqb y 1 → x ≡ y
same_bit x y p q e = elim (cases_Bool (eqb y 1)) [
  | inl one ↦ let a : x ≡ 1 = eqb-true x 1 (e ∙ one) in let b : y ≡ 1 = eqb-true y 1 one in omega arith
  | inr other ↦ let a : x ≢ 1 = eqb-false x 1 (e ∙ other) in let b : y ≢ 1 = eqb-false y 1 other in omega arith
]

bits_of_byte : (bits : List ℕ) (i k : ℕ) → k < 8 → is_set bits (8 * i + k) ≡ eqb (bit_at (get_or bits i 0) k) 1
bits_of_byte bits i k small =
    let d : (8 * i + k) / 8 ≡ i = omega arith in
    let m : (8 * i + k) % 8 ≡ k = omega arith in
    rw (d, m)

-- a byte whose blocks have the bits of before is that of before
same_byte : (x y : List ℕ) (i : ℕ) → get_or x i 0 < 2 ^ 8 → get_or y i 0 < 2 ^ 8 → ((n : ℕ) → is_set x n ≡ is_set y n) → get_or x i 0 ≡ get_or y i 0
same_byte x y i p q same =
    same_from_bits_below 8 (get_or x i 0) (get_or y i 0) p q
    (λ k small. same_bit (bit_at (get_or x i 0) k) (bit_at (get_or y i 0) k) (bit_at-lt (get_or x i 0) k) (bit_at-lt (get_or y i 0) k)
    (sym (bits_of_byte x i k small) ∙ same (8 * i + k) ∙ bits_of_byte y i k small))

same_blocks : (bits : List ℕ) (i b : ℕ) → i < length bits → get_or bits i 0 ≡ b → (n : ℕ) → is_set bits n ≡ is_set (set bits i b) n
same_blocks bits i b inside e n =
    let byte : get_or bits (n / 8) 0 ≡ get_or (set bits i b) (n / 8) 0 = elim (cases_eq (n / 8) i) [
      | inl here ↦ rw (here, get_or-set_same) e
      | inr other ↦ rw get_or-set_other
    ] in
    rw byte

no_other : (bit : Bool) (old new : List ℕ) (from end : ℕ) → GivesOnly bit from end old new → AllAre bit old from end → (n : ℕ) → is_set new n ≡ is_set old n
no_other bit old new from end change all n = elim (cases_lt n from) [
  | inl before ↦ change.below n before
  | inr after ↦ elim (cases_lt n end) [
    | inl within ↦ change.inside n after within ∙ sym (all n after within)
    | inr behind ↦ change.behind n behind
  ]
]

-- a byte written changes a block of the range exactly where it differs from the byte before
pub byte_tells : (bit : Bool) (bits : List ℕ) (from end i b : ℕ) → from ≤ end → i < length bits → get_or bits i 0 < 2 ^ 8 → b < 2 ^ 8 → GivesOnly bit from end bits (set bits i b) → Tells (not (eqb (get_or bits i 0) b)) bit bits from end
byte_tells bit bits from end i b order inside fits new_fits change =
    let new : List ℕ = set bits i b in
    let here : get_or new i 0 ≡ b = get_or-set_same bits i b 0 inside in
    let unchanged : get_or bits i 0 ≡ b → AllAre bit bits from end =
    λ e n low high. same_blocks bits i b inside e n ∙ change.inside n low high in
    record {
      changes = λ e. elim (all_or_some bit bits from end order) [
        | inl all ↦
            let other : get_or bits i 0 ≢ b = eqb-false (get_or bits i 0) b (not-true (eqb (get_or bits i 0) b) e) in
            let new_is : get_or new i 0 < 2 ^ 8 = rw here new_fits in
            absurd (other (same_byte bits new i fits new_is (λ n. sym (no_other bit bits new from end change all n)) ∙ here))
        | inr some ↦ some
      ];
      keeps = λ e. unchanged (eqb-true (get_or bits i 0) b (not-false (eqb (get_or bits i 0) b) e));
    }
