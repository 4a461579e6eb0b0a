-- The fields of a line, from left to right.
use Rattle.std.proofs.Common.{◌≡◌, ℕ, zero, suc, ◌+◌, ◌<◌, List, [], ◌∷◌, ◌++◌, length, map, refl, sym, ap, ap₂, ◌∙◌, arith, subst}
use Rattle.std.proofs.lemmas.List.{append_assoc, append-nil, length-append, map-append}
use Rattle.std.proofs.lemmas.Grind.{flat_map-append}
use Rattle.zd_model.specs.Text.{numeral}
use Rattle.zd_model.proofs.TextLaws.{tail_is}
use Rattle.zd_script.specs.Number.{BeginsOther, HasField, fields, told}
use Rattle.zd_script.proofs.NumberLaws.{same_number}

-- so many more fields are left of a line
pub record GoesOn (rest : List ℕ) (count : ℕ) (tail : List ℕ) : Type 0 where
  pub more : List ℕ
  pub count_is : length more ≡ count
  pub is : rest ≡ fields more ++ 10 ∷ tail

-- so many fields were taken, and these values were told of them; what else a text of all fields holds is left
pub record HasFields (all : ℕ) (text rest : List ℕ) (taken : ℕ) (values : List ℕ) : Type 0 where
  pub numbers : List ℕ
  pub count : length numbers ≡ taken
  pub is : text ≡ fields numbers ++ rest
  pub values_are : values ≡ map told numbers
  pub others : (ns tail : List ℕ) → length ns ≡ all → text ≡ fields ns ++ 10 ∷ tail → (left : ℕ) × (left + taken ≡ all) × GoesOn rest left tail

pub no_fields : (all : ℕ) (text : List ℕ) → HasFields all text text 0 []
no_fields all text = record {
  numbers = [];
  count = refl;
  is = refl;
  values_are = refl;
  others = λ ns tail size is. (all, omega arith, record { more = ns; count_is = size; is = is });
}

-- the next field of a line
record HasNext (rest : List ℕ) (count : ℕ) (tail : List ℕ) : Type 0 where
  number : ℕ
  behind : List ℕ
  field : HasField rest number behind
  on : GoesOn behind count tail

begins_other : (more tail : List ℕ) → BeginsOther (fields more ++ 10 ∷ tail)
begins_other [] tail = λ digit. let low = digit.0 in omega arith
begins_other (n ∷ more) tail = λ digit. let low = digit.0 in omega arith

next_of : (rest more tail : List ℕ) (count : ℕ) → length more ≡ count + 1 → rest ≡ fields more ++ 10 ∷ tail → HasNext rest count tail
next_of rest [] tail count size is = absurd (omega arith)
next_of rest (n ∷ more) tail count size is = record {
  number = n;
  behind = fields more ++ 10 ∷ tail;
  field = record { is = is ∙ ap (λ xs. 32 ∷ xs) (append_assoc (numeral n) (fields more) (10 ∷ tail)); ends = begins_other more tail };
  on = record { more = more; count_is = omega arith; is = refl };
}

same_field : (text : List ℕ) (m n : ℕ) (rest more : List ℕ) → HasField text m rest → HasField text n more → rest ≡ more
same_field text m n rest more one two =
    (same_number (numeral m ++ rest) m n rest more (record { is = refl; ends = one.ends }) (record { is = tail_is 32 32 _ _ (sym one.is ∙ two.is); ends = two.ends })).1

fields-push : (ns : List ℕ) (n : ℕ) (rest : List ℕ) → fields (ns ++ n ∷ []) ++ rest ≡ fields ns ++ 32 ∷ (numeral n ++ rest)
fields-push ns n rest =
    ap (λ xs. xs ++ rest) (flat_map-append (λ k. 32 ∷ numeral k) ns (n ∷ [])) ∙ append_assoc (fields ns) (32 ∷ (numeral n ++ [])) rest
    ∙ ap (λ xs. fields ns ++ 32 ∷ (xs ++ rest)) (append-nil (numeral n))

what_is_left : (rest after tail : List ℕ) (all taken n left : ℕ) → taken < all → HasField rest n after → left + taken ≡ all → GoesOn rest left tail → (less : ℕ) × (less + (taken + 1) ≡ all) × GoesOn after less tail
what_is_left rest after tail all taken n zero some field count on = absurd (omega arith)
what_is_left rest after tail all taken n (suc left) some field count on =
    let size = on.count_is in
    let next = next_of rest on.more tail left (omega arith) on.is in
    (left, omega arith, subst (λ xs. GoesOn xs left tail) (same_field rest next.number n next.behind after next.field field) next.on)

-- one more field
pub one_more_field : (all : ℕ) (text rest after : List ℕ) (taken : ℕ) (values : List ℕ) (n value : ℕ) → HasFields all text rest taken values → taken < all → HasField rest n after → value ≡ told n → HasFields all text after (taken + 1) (values ++ value ∷ [])
one_more_field all text rest after taken values n value had some field is_told =
    let count = had.count in record {
      numbers = had.numbers ++ n ∷ [];
      count = omega (arith, length-append had.numbers (n ∷ []));
      is = had.is ∙ ap (λ xs. fields had.numbers ++ xs) field.is ∙ sym (fields-push had.numbers n after);
      values_are = ap₂ (λ (xs : List ℕ) (v : ℕ). xs ++ v ∷ []) had.values_are is_told ∙ sym (map-append told had.numbers (n ∷ []));
      others = λ ns tail size is. let on = had.others ns tail size is in what_is_left rest after tail all taken n on.0 some field on.1 on.2;
    }

-- no field where one more is wanted
pub no_more_field : (all : ℕ) (text rest : List ℕ) (taken : ℕ) (values : List ℕ) → HasFields all text rest taken values → taken < all → ((n : ℕ) (after : List ℕ) → HasField rest n after → ⊥) → (ns tail : List ℕ) → length ns ≡ all → text ≡ fields ns ++ 10 ∷ tail → ⊥
no_more_field all text rest taken values had some none ns tail size is =
    let on = had.others ns tail size is in by_left on.0 on.1 on.2
  where
    by_left : (left : ℕ) → left + taken ≡ all → GoesOn rest left tail → ⊥
    by_left zero count more = absurd (omega arith)
    by_left (suc left) count more =
        let many = more.count_is in
        let next = next_of rest more.more tail left (omega arith) more.is in none next.number next.behind next.field
