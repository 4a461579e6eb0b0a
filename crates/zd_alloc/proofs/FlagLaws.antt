-- A flag of a word put and taken, and the least one found.
use Rattle.std.proofs.Common.{◌≡◌, ◌≢◌, inl, inr, ℕ, ◌+◌, ◌*◌, ◌/◌, ◌%◌, ◌<◌, ◌≤◌, ◌^◌, Bool, true, false, not, List, length, get_or, set, nat_eq, w64, bit_and, bit_or, refl, sym, ap, ◌∙◌, arith, slice_index, true≢false, rules, get_or-set_same, get_or-set_other}
use Rattle.std.specs.Int.{bit_at, bit_not, trailing_zeros}
use Rattle.std.proofs.lemmas.List.{get_or_read, get_or_past}
use Rattle.std.proofs.lemmas.Bool.{cases_lt, cases_eq}
use Rattle.std.proofs.lemmas.Nat.Bits.{bit_at-zero, bit_at-trailing_zeros, bit_at_set_same, bit_at_set_other, bit_at_clear_same, bit_at_clear_other}
use Rattle.zd_alloc.specs.Flags.{has_number, GivesFlag, IsLeast, HasNone, IsSummed}

-- what an index of a list gives
pub word_is : (words : List ℕ) (i w : ℕ) → i < length words → w ≡ get_or words i w → w ≡ slice_index words i
word_is words i w inside is = get_or_read words i w inside is 0

-- a word of which one bit alone changes gives its number a flag
pub word_gives : (words : List ℕ) (n w b : ℕ) → n / 64 < length words → bit_at w (n % 64) ≡ b → ((k : ℕ) → k < 64 → k ≢ n % 64 → bit_at w k ≡ bit_at (slice_index words (n / 64)) k) → GivesFlag (nat_eq b 1) n words (set words (n / 64) w)
word_gives words n w b inside there others = record {
  there = ap (λ (x : ℕ). nat_eq (bit_at x (n % 64)) 1) (get_or-set_same words (n / 64) w 0 inside) ∙ ap (λ (x : ℕ). nat_eq x 1) there;
  others = λ m apart. elim (cases_eq (m / 64) (n / 64)) [
    | inl same ↦
        let here : get_or (set words (n / 64) w) (m / 64) 0 ≡ w = rw same (get_or-set_same words (n / 64) w 0 inside) in
        let was : bit_at w (m % 64) ≡ bit_at (slice_index words (m / 64)) (m % 64) =
        rw same (others (m % 64) (omega arith) (λ e. apart (omega arith))) in
        ap (λ (x : ℕ). nat_eq (bit_at x (m % 64)) 1) here ∙ ap (λ (x : ℕ). nat_eq x 1) was
    | inr other ↦ ap (λ (x : ℕ). nat_eq (bit_at x (m % 64)) 1) (get_or-set_other words (n / 64) (m / 64) w 0 other)
  ];
}

pub raised : (words : List ℕ) (n : ℕ) → n / 64 < length words → GivesFlag true n words (set words (n / 64) (bit_or (slice_index words (n / 64)) (1 * 2 ^ (n % 64) % 2 ^ 64)))
raised words n inside =
    let small : n % 64 < 64 = omega arith in
    word_gives words n _ 1 inside (bit_at_set_same w64 (slice_index words (n / 64)) (n % 64) small)
    (λ k low apart. bit_at_set_other w64 (slice_index words (n / 64)) (n % 64) small k apart)

raised_some : (w k : ℕ) → k < 64 → 0 < bit_or w (1 * 2 ^ k % 2 ^ 64)
raised_some w k small = elim (cases_eq (bit_or w (1 * 2 ^ k % 2 ^ 64)) 0) [
  | inl e ↦
      let one : bit_at (bit_or w (1 * 2 ^ k % 2 ^ 64)) k ≡ 1 = bit_at_set_same w64 w k small in
      let none : bit_at (bit_or w (1 * 2 ^ k % 2 ^ 64)) k ≡ 0 = ap (λ (x : ℕ). bit_at x k) e ∙ bit_at-zero k in
      absurd (omega (arith, one, none))
  | inr some ↦ omega (arith, some)
]

-- its word isn't 0
pub raised_there : (words : List ℕ) (n w : ℕ) → n / 64 < length words → 0 < slice_index (set words (n / 64) (bit_or w (1 * 2 ^ (n % 64) % 2 ^ 64))) (n / 64)
raised_there words n w inside =
    rw (get_or-set_same words (n / 64) (bit_or w (1 * 2 ^ (n % 64) % 2 ^ 64)) 0 inside) (raised_some w (n % 64) (omega arith))

pub lowered : (words : List ℕ) (n : ℕ) → n / 64 < length words → GivesFlag false n words (set words (n / 64) (bit_and (slice_index words (n / 64)) (bit_not w64 (1 * 2 ^ (n % 64) % 2 ^ 64))))
lowered words n inside =
    let small : n % 64 < 64 = omega arith in
    word_gives words n _ 0 inside (bit_at_clear_same w64 (slice_index words (n / 64)) (n % 64) small)
    (λ k low apart. bit_at_clear_other w64 (slice_index words (n / 64)) (n % 64) small k low apart)

-- a word that is 0 has no number
word_none : (words : List ℕ) (m : ℕ) → slice_index words (m / 64) ≡ 0 → has_number words m ≡ false
word_none words m e = ap (λ (x : ℕ). nat_eq (bit_at x (m % 64)) 1) e ∙ ap (λ (x : ℕ). nat_eq x 1) (bit_at-zero (m % 64))

-- the least flag of the first word that isn't 0 is the least number
pub least_is : (words : List ℕ) (i w : ℕ) → w ≡ slice_index words i → 0 < w → w < 2 ^ 64 → ((j : ℕ) → j < i → slice_index words j ≡ 0) → IsLeast words (64 * i + trailing_zeros w64 w)
least_is words i w is some fits before =
    let t = bit_at-trailing_zeros w64 w some fits in
    let k : ℕ = trailing_zeros w64 w in
    let low : k < 64 = t.0 in
    let word : (64 * i + k) / 64 ≡ i = omega arith in
    let place : (64 * i + k) % 64 ≡ k = omega arith in
    record {
      there = rw (word, place, ← is, t.1) refl;
      least = λ m less. elim (cases_lt (m / 64) i) [
        | inl early ↦ word_none words m (before (m / 64) early)
        | inr late ↦
            let same : m / 64 ≡ i = omega arith in
            let zero : bit_at (slice_index words (m / 64)) (m % 64) ≡ 0 = rw (same, ← is) (t.2 (m % 64) (omega arith)) in
            ap (λ (x : ℕ). nat_eq x 1) zero
      ];
    }

-- words of zeros have no number
pub none_in : (words : List ℕ) → ((j : ℕ) → slice_index words j ≡ 0) → HasNone words
none_in words zeros m = word_none words m (zeros (m / 64))

-- a test for 0 turned
zero_not : (w : ℕ) → w ≡ 0 → not (nat_eq w 0) ≡ false
zero_not w e = ap (λ (x : ℕ). not (nat_eq x 0)) e

some_not : (w : ℕ) → 0 < w → not (nat_eq w 0) ≡ true
some_not w some = elim (cases_eq w 0) [ inl e ↦ absurd (omega (arith, e, some)) | inr ne ↦ search (rules, ne) ]

-- a word whose flag in the summary is down is 0
pub summed_zero : (words summary : List ℕ) (i : ℕ) → IsSummed words summary → has_number summary i ≡ false → slice_index words i ≡ 0
summed_zero words summary i sums down = elim (cases_eq (slice_index words i) 0) [
  | inl e ↦ e
  | inr ne ↦ absurd (true≢false (sym (some_not (slice_index words i) (omega (arith, ne))) ∙ sym (sums.tells i) ∙ down))
]

-- a word whose flag is up isn't
pub summed_some : (words summary : List ℕ) (i : ℕ) → IsSummed words summary → has_number summary i ≡ true → 0 < slice_index words i
summed_some words summary i sums up = elim (cases_eq (slice_index words i) 0) [
  | inl e ↦ absurd (true≢false (sym up ∙ sums.tells i ∙ zero_not (slice_index words i) e))
  | inr ne ↦ omega (arith, ne)
]

-- it is one of the words
pub some_inside : (words : List ℕ) (i : ℕ) → 0 < slice_index words i → i < length words
some_inside words i some = elim (cases_lt i (length words)) [
  | inl less ↦ less
  | inr past ↦ absurd (omega (arith, some, get_or_past words i 0 past))
]

-- all words before the first that the summary names are 0
pub summed_before : (words summary : List ℕ) (i : ℕ) → IsSummed words summary → IsLeast summary i → (j : ℕ) → j < i → slice_index words j ≡ 0
summed_before words summary i sums first j less = summed_zero words summary j sums (first.least j less)

pub summed_none : (words summary : List ℕ) → IsSummed words summary → HasNone summary → HasNone words
summed_none words summary sums none = none_in words (λ j. summed_zero words summary j sums (none j))

-- after a change of word i alone, whose flag in the summary was given as it is now
pub summed_after : (words summary words' summary' : List ℕ) (i : ℕ) (flag : Bool) → IsSummed words summary → length words' ≡ length words → length summary' ≡ length summary → ((j : ℕ) → j ≢ i → slice_index words' j ≡ slice_index words j) → GivesFlag flag i summary summary' → not (nat_eq (slice_index words' i) 0) ≡ flag → IsSummed words' summary'
summed_after words summary words' summary' i flag sums e1 e2 others gives now = record {
  tells = λ j. elim (cases_eq j i) [
    | inl same ↦ rw same (gives.there ∙ sym now)
    | inr other ↦ gives.others j other ∙ sums.tells j ∙ ap (λ (x : ℕ). not (nat_eq x 0)) (sym (others j other))
  ];
  room = omega (arith, sums.room, e1, e2);
  few = omega (arith, sums.few, e2);
}

-- after a change that raised a flag of word i
pub summed_raised : (words summary words' summary' : List ℕ) (i : ℕ) → IsSummed words summary → length words' ≡ length words → length summary' ≡ length summary → ((j : ℕ) → j ≢ i → slice_index words' j ≡ slice_index words j) → GivesFlag true i summary summary' → 0 < slice_index words' i → IsSummed words' summary'
summed_raised words summary words' summary' i sums e1 e2 others gives some =
    summed_after words summary words' summary' i true sums e1 e2 others gives (some_not (slice_index words' i) some)

-- after a change that left word i 0
pub summed_zeroed : (words summary words' summary' : List ℕ) (i : ℕ) → IsSummed words summary → length words' ≡ length words → length summary' ≡ length summary → ((j : ℕ) → j ≢ i → slice_index words' j ≡ slice_index words j) → GivesFlag false i summary summary' → slice_index words' i ≡ 0 → IsSummed words' summary'
summed_zeroed words summary words' summary' i sums e1 e2 others gives zero =
    summed_after words summary words' summary' i false sums e1 e2 others gives (zero_not (slice_index words' i) zero)

-- after a change that left word i some of its flags
pub summed_lowered : (words summary words' : List ℕ) (i : ℕ) → IsSummed words summary → length words' ≡ length words → ((j : ℕ) → j ≢ i → slice_index words' j ≡ slice_index words j) → slice_index words' i ≤ slice_index words i → 0 < slice_index words' i → IsSummed words' summary
summed_lowered words summary words' i sums e others less some = record {
  tells = λ j. elim (cases_eq j i) [
    | inl same ↦
        rw same
        (sums.tells i ∙ some_not (slice_index words i) (omega (arith, less, some)) ∙ sym (some_not (slice_index words' i) some))
    | inr other ↦ sums.tells j ∙ ap (λ (x : ℕ). not (nat_eq x 0)) (sym (others j other))
  ];
  room = omega (arith, sums.room, e);
  few = sums.few;
}
