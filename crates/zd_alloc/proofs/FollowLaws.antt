-- What a touch and new numbers leave of the order of numbers.
use Rattle.std.proofs.Common.{◌≡◌, ◌≢◌, inl, inr, ℕ, zero, suc, ◌+◌, ◌^◌, ◌<◌, ◌≤◌, Bool, false, cond, leb, List, [], ◌∷◌, ◌++◌, length, get_or, set, slice_index, Option, None, replicate, refl, sym, ap, subst, ◌∙◌, arith}
use Rattle.std.specs.List.{All, range_with_len}
use Rattle.std.proofs.lemmas.Bool.{cases_eq, not-true, eqb-false}
use Rattle.std.proofs.lemmas.Bool.Decides.{nat_tests}
use Rattle.std.proofs.lemmas.List.{get_or-set_same, get_or-set_other, length-set, get_or-replicate, length-replicate}
use Rattle.std.proofs.lemmas.List.Elements.{All-push, All-filter, filter_passes}
use Rattle.std.proofs.lemmas.List.Sums.{sum_by-cons}
use Rattle.std.proofs.lemmas.List.Kept.{AllPairs-filter}
use Rattle.std.proofs.lemmas.List.Quantifiers.{all_pairs_push}
use Rattle.std.proofs.lemmas.List.FromFn.{get_or-range_with_len, length-range_with_len}
use Rattle.zd_alloc.proofs.OrderLaws.{times-append, times_same, times_other, times_within}
use Rattle.zd_alloc.specs.Links.{times}
use Rattle.zd_alloc.specs.Order.{is_other, without}
use Rattle.zd_alloc.specs.declared.job_class.JobClass.{JobClass}
use Rattle.zd_alloc.specs.declared.job_class.JobClass.TheVariants.{Append, Move, Merge, Empty}
use Rattle.zd_alloc.specs.declared.least_tree.TheConstants.{NEVER}
use Rattle.zd_alloc.specs.Candidates.{standings, is_class, has_class, ClassLists, list_of, AreListed, IsInOrder, Follows, KeepsRising, HasNoSuch, is_from, count_from}

-- how often chunks stand in a list without one
times_out : (chunk : ℕ) (xs : List ℕ) → times chunk (without chunk xs) ≡ 0
times_out chunk [] = refl
times_out chunk (x ∷ xs) = let rest = times_out chunk xs in grind (arith, nat_tests)

times_left : (chunk c : ℕ) (xs : List ℕ) → c ≢ chunk → times c (without chunk xs) ≡ times c xs
times_left chunk c [] ne = refl
times_left chunk c (x ∷ xs) ne = let rest = times_left chunk c xs ne in grind (arith, nat_tests)

-- numbers that keep their order are in the order in which they were
pub still_in_order : (order old new : List ℕ) → KeepsRising old new → IsInOrder order old → IsInOrder order new
still_in_order order old new keeps is =
    let inside : All (λ c. c < length old) order = is.inside in
    record {
      once = λ c less. is.once c (omega (arith, less, keeps.count));
      inside = λ k d less. omega (arith, inside k d less, keeps.count);
      rises = λ i j d less within.
          keeps.rises (get_or order i d) (get_or order j d) (inside i d (omega (arith, less, within))) (inside j d within)
          (is.rises i j d less within);
    }

-- one chunk has a greater number than all now
module _ (chunk number : ℕ) (old : List ℕ) (above : (c : ℕ) → c < length old → slice_index old c < number) (inside : chunk < length old) where
  abbrev new : List ℕ
  new = set old chunk number

  same : length new ≡ length old
  same = length-set old chunk number

  here : slice_index new chunk ≡ number
  here = get_or-set_same old chunk number 0 inside

  there : (c : ℕ) → c ≢ chunk → slice_index new c ≡ slice_index old c
  there c ne = get_or-set_other old chunk c number 0 ne

  -- a chunk of the order, other than the one that is touched
  abbrev IsOther : ℕ → Type 0
  IsOther c = (c < length old) × (c ≢ chunk)

  others : (order : List ℕ) → All (λ (c : ℕ). c < length old) order → All IsOther (without chunk order)
  others order all k d less =
      (All-filter (is_other chunk) (λ (c : ℕ). c < length old) order all k d less, eqb-false _ chunk (not-true _ (filter_passes (is_other chunk) order k d less)))

  once_last : (order : List ℕ) → IsInOrder order old → (c : ℕ) → c < length new → times c (without chunk order ++ chunk ∷ []) ≡ 1
  once_last order is c less =
      let rest = without chunk order in
      let sum = times-append c rest (chunk ∷ []) in
      elim (cases_eq c chunk) [
        | inl e ↦
            let out : times c rest ≡ 0 = subst (λ (d : ℕ). times d rest ≡ 0) (sym e) (times_out chunk order) in
            omega (arith, sum, out, times_same c chunk [] (sym e))
        | inr ne ↦
            omega (arith, sum, times_left chunk c order ne, is.once c (omega (arith, less, same)), times_other c chunk [] (λ e. ne (sym e)))
      ]

  pub in_order_last : (order : List ℕ) → IsInOrder order old → IsInOrder (without chunk order ++ chunk ∷ []) new
  in_order_last order is =
      let rest = without chunk order in
      let other = others order is.inside in
      record {
        once = once_last order is;
        inside = All-push (λ (c : ℕ). c < length new) rest chunk (λ k d less. omega (arith, same, (other k d less).0)) (omega (arith, same, inside));
        rises = all_pairs_push (λ (a b : ℕ). slice_index new a < slice_index new b) rest chunk
            (λ i j d less within.
            let first = other i d (omega (arith, less, within)) in
            let second = other j d within in
            let rises = AllPairs-filter (λ (a b : ℕ). slice_index old a < slice_index old b) (is_other chunk) order is.rises i j d less within in
            omega (arith, there (get_or rest i d) first.1, there (get_or rest j d) second.1, rises))
            (λ k d less.
            let at = other k d less in
            omega (arith, here, there (get_or rest k d) at.1, above (get_or rest k d) at.0));
      }

-- a touch, after which the numbers before it may be new
pub follows : (chunk number : ℕ) (old mid : List ℕ) → KeepsRising old mid → ((c : ℕ) → c < length mid → slice_index mid c < number) → chunk < length mid → Follows chunk old (set mid chunk number)
follows chunk number old mid keeps above inside order next is puts =
    subst (λ (xs : List ℕ). IsInOrder xs (set mid chunk number)) (sym puts.others_first)
    (in_order_last chunk number mid above inside order (still_in_order order old mid keeps is))

-- at the start the numbers are those of the chunks
number_at : (n i d : ℕ) → i < n → slice_index (range_with_len 0 n) (get_or (range_with_len 0 n) i d) ≡ i
number_at n i d less =
    let at : get_or (range_with_len 0 n) i d ≡ i = get_or-range_with_len 0 n i d less ∙ omega arith in
    ap (slice_index (range_with_len 0 n)) at ∙ get_or-range_with_len 0 n i 0 less ∙ omega arith

pub started_in_order : (n : ℕ) → IsInOrder (range_with_len 0 n) (range_with_len 0 n)
started_in_order n =
    let size = length-range_with_len 0 n in
    record {
      once = λ c less. times_within c 0 n (omega arith) (omega (arith, less, size));
      inside = λ k d less. omega (arith, less, size, get_or-range_with_len 0 n k d (omega (arith, less, size)));
      rises = λ i j d less inside.
          omega (arith, less, number_at n i d (omega (arith, less, inside, size)), number_at n j d (omega (arith, inside, size)));
    }

no_class : (class : JobClass) → is_class class None ≡ false
no_class Append = refl
no_class Move = refl
no_class Merge = refl
no_class Empty = refl

-- where no chunk has a class, no class has a number
pub started_listed : (n : ℕ) (lists : ClassLists) → n < 2 ^ 32 → ((class : JobClass) → list_of lists class ≡ replicate n NEVER) → AreListed (standings (replicate n None) (range_with_len 0 n) n) lists
started_listed n lists few are =
    let none-class : Option JobClass = None in
    let size = length-replicate n none-class in
    record {
      few = omega (arith, few, size);
      same = length-range_with_len 0 n ∙ sym size;
      below = λ c less. omega (arith, less, size, get_or-range_with_len 0 n c 0 (omega (arith, less, size)));
      last = omega (arith, few);
      sizes = λ class. ap length (are class) ∙ length-replicate n NEVER ∙ sym size;
      tells = λ class c less.
          let inside : c < n = omega (arith, less, size) in
          let none : has_class (replicate n None) class c ≡ false =
          ap (is_class class) (get_or-replicate n c None None inside) ∙ no_class class in
          ap (λ (xs : List ℕ). slice_index xs c) (are class) ∙ get_or-replicate n c NEVER 0 inside
          ∙ ap (λ (b : Bool). cond b (slice_index (range_with_len 0 n) c) NEVER) (sym none);
    }

-- how many numbers are counted, once one of them is lowered to the bound
counted : (bound x : ℕ) (xs : List ℕ) → count_from bound (x ∷ xs) ≡ cond (leb bound x) 1 0 + count_from bound xs
counted bound x xs = sum_by-cons (λ (n : ℕ). cond (leb bound n) 1 0) x xs

fewer_from : (bound : ℕ) (numbers : List ℕ) → count_from (bound + 1) numbers ≤ count_from bound numbers
fewer_from bound [] = omega arith
fewer_from bound (x ∷ xs) =
    let rest = fewer_from bound xs in
    let now = counted (bound + 1) x xs in
    let was = counted bound x xs in
    grind (arith, nat_tests)

pub count_lowered : (bound : ℕ) (numbers : List ℕ) (chunk : ℕ) → chunk < length numbers → bound ≤ slice_index numbers chunk → count_from (bound + 1) (set numbers chunk bound) + 1 ≤ count_from bound numbers
count_lowered bound [] chunk less from = absurd (omega (arith, less))
count_lowered bound (x ∷ xs) zero less from =
    let rest = fewer_from bound xs in
    let now = counted (bound + 1) bound xs in
    let was = counted bound x xs in
    grind (arith, nat_tests)
count_lowered bound (x ∷ xs) (suc chunk) less from =
    let rest = count_lowered bound xs chunk (omega (arith, less)) from in
    let now = counted (bound + 1) x (set xs chunk bound) in
    let was = counted bound x xs in
    grind (arith, nat_tests)

pub count_none : (bound : ℕ) (numbers : List ℕ) → HasNoSuch (is_from bound numbers) numbers → count_from (bound + 1) numbers ≡ 0
count_none bound [] none = refl
count_none bound (x ∷ xs) none =
    let first : leb bound x ≡ false = none 0 (omega arith) in
    let rest = count_none bound xs (λ c less. none (suc c) (omega (arith, less))) in
    let now = counted (bound + 1) x xs in
    grind (arith, nat_tests)
