-- A number's text is what its digits are, and begins with no zero but in 0.
use Rattle.std.proofs.Common.{◌≡◌, ◌≢◌, ℕ, zero, suc, ◌+◌, ◌-◌, ◌*◌, ◌/◌, ◌%◌, ◌<◌, ◌≤◌, Bool, true, false, List, [], ◌∷◌, ◌++◌, length, Option, Some, None, IfNone, not, cond, subst, get_or, take, drop, refl, sym, ap, ap₂, ◌∙◌, arith, take-append-drop, add-one, ltb as nat_lt}
use Rattle.std.proofs.lemmas.List.{append_assoc, append-nil, get_or-take, get_or_default, length-take}
use Rattle.std.proofs.lemmas.List.Quantifiers.{position-Some}
use Rattle.std.proofs.lemmas.Iterator.Adapters.{position_from-zero}
use Rattle.std.proofs.lemmas.Bool.Decides.{nat_tests}
use Rattle.std.proofs.Math.Seq.{drop-cons}
use borrow.Author.Tests.{ltb-true, ltb-false}
use Rattle.std.specs.List.{All, position, position_from}
use Rattle.std.specs.Char.{is_ascii_digit, IsAsciiDigit}
use Rattle.zd_model.specs.Text.{last_digits, numeral}
use Rattle.zd_model.proofs.TextLaws.{IsDigit, AllDigits, numeral-writes, same_ends, same_numeral, no_end}
use Rattle.zd_script.specs.Number.{BeginsOther, HasNumber, value_after}

-- so many digits stand in front, and no digit behind them
pub record BeginsDigits (text : List ℕ) (count : ℕ) : Type 0 where
  pub within : count ≤ length text
  pub digits : All IsAsciiDigit (take count text)
  pub ends : BeginsOther (drop count text)

pub all_digits : (xs : List ℕ) → All IsAsciiDigit xs → AllDigits xs
all_digits [] h = tt
all_digits (x ∷ xs) h =
    let digit : IsAsciiDigit x = h 0 0 (omega arith) in
    (record { low = digit.0; high = omega arith }, all_digits xs (λ k d l. h (suc k) d (omega arith)))

-- the text of a number under a test whether it has one digit
abbrev tested : Bool → ℕ → ℕ → List ℕ
tested b most n = elim b [ true ↦ (48 + n) ∷ [] | false ↦ last_digits most (n / 10) ++ (48 + n % 10) ∷ [] ]

one_text : (most n : ℕ) (b : Bool) → nat_lt n 10 ≡ b → n < 10 → tested b most n ≡ (48 + n) ∷ []
one_text most n true e h = refl
one_text most n false e h = absurd (let large = ltb-false n 10 e in omega arith)

more_text : (most n : ℕ) (b : Bool) → nat_lt n 10 ≡ b → 10 ≤ n → tested b most n ≡ last_digits most (n / 10) ++ (48 + n % 10) ∷ []
more_text most n true e h = absurd (let small = ltb-true n 10 e in omega arith)
more_text most n false e h = refl

-- how many digits there may be doesn't matter where there are enough
same_tested : (k l n : ℕ) (b : Bool) → nat_lt n 10 ≡ b → n < suc k → n < suc l → ((m : ℕ) → m < k → m < l → last_digits k m ≡ last_digits l m) → tested b k n ≡ tested b l n
same_tested k l n true e h g same = refl
same_tested k l n false e h g same = let large = ltb-false n 10 e in ap (λ xs. xs ++ (48 + n % 10) ∷ []) (same (n / 10) (omega arith) (omega arith))

last_digits-same : (k l n : ℕ) → n < k → n < l → last_digits k n ≡ last_digits l n
last_digits-same zero l n h g = absurd (omega arith)
last_digits-same (suc k) zero n h g = absurd (omega arith)
last_digits-same (suc k) (suc l) n h g = same_tested k l n (nat_lt n 10) refl h g (last_digits-same k l)

pub numeral_one : (n : ℕ) → n < 10 → numeral n ≡ (48 + n) ∷ []
unfolding numeral
numeral_one n h = rw add-one (one_text n n (nat_lt n 10) refl h)

numeral_last : (n : ℕ) → 10 ≤ n → numeral n ≡ numeral (n / 10) ++ (48 + n % 10) ∷ []
unfolding numeral
numeral_last n h = rw (add-one n) (more_text n n (nat_lt n 10) refl h ∙ ap (λ xs. xs ++ (48 + n % 10) ∷ []) (last_digits-same n (n / 10 + 1) (n / 10) (omega arith) (omega arith)))

numeral-push : (n c : ℕ) → 0 < n → IsDigit c → numeral n ++ c ∷ [] ≡ numeral (n * 10 + (c - 48))
numeral-push n c h digit =
    let m : ℕ = n * 10 + (c - 48) in
    let front : m / 10 ≡ n = omega arith in
    let last : 48 + m % 10 ≡ c = omega arith in
    sym (numeral_last m (omega arith) ∙ ap₂ (λ (k b : ℕ). numeral k ++ b ∷ []) front last)

-- more digits behind a number that isn't 0
numeral-after : (n : ℕ) (digits : List ℕ) → 0 < n → AllDigits digits → numeral n ++ digits ≡ numeral (value_after n digits)
numeral-after n [] h all = append-nil (numeral n)
numeral-after n (c ∷ digits) h all =
    sym (append_assoc (numeral n) (c ∷ []) digits) ∙ ap (λ xs. xs ++ digits) (numeral-push n c h all.0)
    ∙ numeral-after (n * 10 + (c - 48)) digits (omega arith) all.1

-- a digit, and digits without a zero in front, are their number's text
pub one_digit : (xs : List ℕ) → All IsAsciiDigit xs → length xs ≡ 1 → numeral (value_after 0 xs) ≡ xs
one_digit [] all one = absurd (omega arith)
one_digit (c ∷ d ∷ xs) all one = absurd (omega arith)
one_digit (c ∷ []) all one =
    let digit = all 0 0 (omega arith) in
    let value : 0 * 10 + (c - 48) ≡ c - 48 = omega arith in
    let back : 48 + (c - 48) ≡ c = omega arith in
    rw value (numeral_one (c - 48) (omega arith) ∙ ap (λ (b : ℕ). b ∷ []) back)

pub more_digits : (xs : List ℕ) → All IsAsciiDigit xs → 0 < length xs → get_or xs 0 0 ≢ 48 → numeral (value_after 0 xs) ≡ xs
more_digits [] all some first = absurd (omega arith)
more_digits (c ∷ xs) all some first =
    let digits = all_digits (c ∷ xs) all in
    let digit = digits.0 in
    let value : 0 * 10 + (c - 48) ≡ c - 48 = omega arith in
    let back : 48 + (c - 48) ≡ c = omega arith in
    rw value (sym (ap (λ (b : ℕ). b ∷ xs) (sym back) ∙ ap (λ ys. ys ++ xs) (sym (numeral_one (c - 48) (omega arith))) ∙ numeral-after (c - 48) xs (omega arith) digits.1))

pub value_after-push : (n : ℕ) (digits : List ℕ) (c : ℕ) → value_after n (digits ++ c ∷ []) ≡ value_after n digits * 10 + (c - 48)
value_after-push n [] c = refl
value_after-push n (d ∷ digits) c = value_after-push (n * 10 + (d - 48)) digits c

-- a text's first byte, which is larger than '0'
record Head (xs : List ℕ) : Type 0 where
  first : ℕ
  others : List ℕ
  is : xs ≡ first ∷ others
  large : 48 < first

head_tested : (most n : ℕ) (b : Bool) → nat_lt n 10 ≡ b → 0 < n → n < suc most → ((m : ℕ) → 0 < m → m < most → Head (last_digits most m)) → Head (tested b most n)
head_tested most n true e h g head = record { first = 48 + n; others = []; is = refl; large = omega arith }
head_tested most n false e h g head =
    let large = ltb-false n 10 e in
    let front = head (n / 10) (omega arith) (omega arith) in
    record { first = front.first; others = front.others ++ (48 + n % 10) ∷ []; is = ap (λ xs. xs ++ (48 + n % 10) ∷ []) front.is; large = front.large }

last_digits-head : (most n : ℕ) → 0 < n → n < most → Head (last_digits most n)
last_digits-head zero n h g = absurd (omega arith)
last_digits-head (suc most) n h g = head_tested most n (nat_lt n 10) refl h g (last_digits-head most)

pub numeral_zero : numeral 0 ≡ 48 ∷ []
unfolding numeral
numeral_zero = refl

-- no number has an empty text
pub numeral_full : (n : ℕ) → numeral n ≡ [] → ⊥
unfolding numeral
numeral_full zero e = cc
numeral_full (suc n) e = let head = last_digits-head (suc n + 1) (suc n) (omega arith) (omega arith) in let is = head.is in cc

-- a zero in front is the whole number
pub no_zero_in_front : (n : ℕ) (xs : List ℕ) → numeral n ≡ xs → 1 < length xs → get_or xs 0 0 ≡ 48 → ⊥
unfolding numeral
no_zero_in_front zero xs e more first = let one = ap length e in omega arith
no_zero_in_front (suc n) xs e more first =
    let head = last_digits-head (suc n + 1) (suc n) (omega arith) (omega arith) in
    let same = ap (λ (ys : List ℕ). get_or ys 0 0) (sym e ∙ head.is) in
    let large = head.large in
    omega arith

-- a number in front is all the digits in front
pub record IsFront (text : List ℕ) (count n : ℕ) (rest : List ℕ) : Type 0 where
  pub digits : numeral n ≡ take count text
  pub after : rest ≡ drop count text

where_other : (byte : ℕ) → (IsAsciiDigit byte → ⊥) → IsDigit byte → ⊥
where_other byte other digit = let high = digit.high in other (digit.low, omega arith)

ends_same : (xs ys rest more : List ℕ) → AllDigits xs → AllDigits ys → BeginsOther rest → BeginsOther more → xs ++ rest ≡ ys ++ more → (xs ≡ ys) × (rest ≡ more)
ends_same xs ys [] more all each out over e = absurd out
ends_same xs ys (s ∷ rest) [] all each out over e = absurd over
ends_same xs ys (s ∷ rest) (t ∷ more) all each out over e =
    let same = same_ends xs ys s t rest more all each (where_other s out) (where_other t over) e in
    (same.digits, ap₂ (λ (z : ℕ) (zs : List ℕ). z ∷ zs) same.byte same.after)

pub number_is_front : (text : List ℕ) (count n : ℕ) (rest : List ℕ) → BeginsDigits text count → HasNumber text n rest → IsFront text count n rest
number_is_front text count n rest begins has =
    let same = ends_same (numeral n) (take count text) rest (drop count text) (numeral-writes n).digits (all_digits (take count text) begins.digits) has.ends begins.ends (sym has.is ∙ sym (take-append-drop count text)) in
    record { digits = same.0; after = same.1 }

-- digits alone have no number in front
pub no_number : (text : List ℕ) (n : ℕ) (rest : List ℕ) → AllDigits text → HasNumber text n rest → ⊥
no_number text n rest all has = by_end rest has.ends has.is
  where
    by_end : (more : List ℕ) → BeginsOther more → text ≡ numeral n ++ more → ⊥
    by_end [] ends is = ends
    by_end (s ∷ more) ends is = no_end (numeral n) s more text all (where_other s ends) (sym is)

-- one number stands in front
pub same_number : (text : List ℕ) (m n : ℕ) (rest more : List ℕ) → HasNumber text m rest → HasNumber text n more → (m ≡ n) × (rest ≡ more)
same_number text m n rest more one two = by_ends rest more one.ends two.ends (sym one.is ∙ two.is)
  where
    by_ends : (xs ys : List ℕ) → BeginsOther xs → BeginsOther ys → numeral m ++ xs ≡ numeral n ++ ys → (m ≡ n) × (xs ≡ ys)
    by_ends [] ys out over e = absurd out
    by_ends (s ∷ xs) [] out over e = absurd over
    by_ends (s ∷ xs) (t ∷ ys) out over e =
        let same = same_numeral m n s t xs ys (where_other s out) (where_other t over) e in
        (same.number, ap₂ (λ (z : ℕ) (zs : List ℕ). z ∷ zs) same.byte same.after)

pub where_none : {X : Type 0} (o : Option X) (P : Type 0) → P → IfNone o P
where_none None P h = h
where_none (Some x) P h = tt

abbrev other : ℕ → Bool
other byte = not (is_ascii_digit byte)

is_digit : (c : ℕ) → other c ≡ false → IsAsciiDigit c
is_digit c e = grind (arith, nat_tests)

no_digit : (c : ℕ) → other c ≡ true → IsAsciiDigit c → ⊥
no_digit c e digit = grind (arith, nat_tests)

in_front : (text : List ℕ) (i k d : ℕ) → k < length (take i text) → i < length text → IsAsciiDigit (get_or text k 0) → IsAsciiDigit (get_or (take i text) k d)
in_front text i k d l h digit =
    let before : k < i = omega (arith, length-take {A = ℕ}) in
    subst IsAsciiDigit (sym (get_or-take i text k d before ∙ get_or_default text k d 0 (omega arith))) digit

-- the digits before the first other byte
pub begins_digits : (text : List ℕ) (count : ℕ) → Some count ≡ position other text → BeginsDigits text count
begins_digits text count e =
    let first = position-Some other text count 0 (sym e) in
    record {
      within = omega (arith, first.0);
      digits = λ k d l. in_front text count k d l first.0 (is_digit (get_or text k 0) (first.2 k (omega (arith, length-take {A = ℕ}))));
      ends = subst BeginsOther (sym (drop-cons text count 0 first.0)) (no_digit (get_or text count 0) first.1);
    }

first_is_digit : (x i : ℕ) (xs : List ℕ) (b : Bool) → other x ≡ b → cond b (Some i) (position_from other (i + 1) xs) ≡ None → (position_from other (i + 1) xs ≡ None → AllDigits xs) → AllDigits (x ∷ xs)
first_is_digit x i xs true is e others = absurd (let f : ⊥ = cc in f)
first_is_digit x i xs false is e others = let digit = is_digit x is in (record { low = digit.0; high = omega (arith, digit.1) }, others e)

all_are_digits : (xs : List ℕ) (i : ℕ) → position_from other i xs ≡ None → AllDigits xs
all_are_digits [] i e = tt
all_are_digits (x ∷ xs) i e = first_is_digit x i xs (other x) refl e (all_are_digits xs (i + 1))

-- no other byte
pub digits_alone : (text : List ℕ) → None ≡ position other text → AllDigits text
digits_alone text e = all_are_digits text 0 (sym (position_from-zero other text) ∙ sym e)
