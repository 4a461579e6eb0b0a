-- Which chunk comes first in use order, by the numbers of the last writes.
use Rattle.std.proofs.Common.{◌≡◌, ◌⊎◌, inl, inr, ℕ, zero, suc, ◌<◌, ◌≤◌, Bool, true, cond, ltb, ◌||◌, List, [], ◌∷◌, length, slice_index, Option, Some, None, refl, sym, ap, subst, ◌∙◌, arith}
use Rattle.std.specs.List.{find, All, AllPairs, Contains}
use Rattle.std.specs.Option.{IfNone}
use Rattle.std.proofs.lemmas.Bool.{cases_Bool, both_ways, or_cases, or_from, or_left, or_right, ltb-true, ltb-false, cond_both}
use Rattle.std.proofs.lemmas.List.Elements.{All-head, All-tail, Contains-append_right}
use Rattle.std.proofs.Math.Nat.{le_trans, le_of_lt}
use Rattle.zd_alloc.proofs.OrderLaws.{split_at}
use Rattle.zd_alloc.specs.Links.{times}
use Rattle.zd_alloc.specs.LeastTree.{HasNoPlace}
use Rattle.zd_alloc.specs.declared.job_class.JobClass.{JobClass}
use Rattle.zd_alloc.specs.declared.least_tree.TheConstants.{NEVER}
use Rattle.zd_alloc.specs.Candidates.{Standings, ClassLists, list_of, has_class, AreListed, IsFirstSuch, HasNoSuch, IsOldestSuch}

-- along a list the numbers rise
abbrev Rises : List ℕ → List ℕ → Type 0
Rises numbers order = AllPairs (λ first second. slice_index numbers first < slice_index numbers second) order

rises_tail : (numbers : List ℕ) (x : ℕ) (xs : List ℕ) → Rises numbers (x ∷ xs) → Rises numbers xs
rises_tail numbers x xs rises i j d less inside = rises (suc i) (suc j) d (omega (arith, less)) (omega (arith, inside))

-- a chunk of the list is its first, or stands in the rest, where it has a greater number
first_or_rest : (numbers : List ℕ) (chunk x : ℕ) (xs : List ℕ) → Rises numbers (x ∷ xs) → Contains (x ∷ xs) chunk → (x ≡ chunk) ⊎ (Contains xs chunk × (slice_index numbers x < slice_index numbers chunk))
first_or_rest numbers chunk x xs rises (zero, inside, at) = inl at
first_or_rest numbers chunk x xs rises (suc k, inside, at) =
    let above = rises 0 (suc k) chunk (omega arith) inside in
    inr ((k, omega (arith, inside), at), subst (λ (y : ℕ). slice_index numbers x < slice_index numbers y) at above)

find_first : (test : ℕ → Bool) (numbers : List ℕ) (chunk : ℕ) (order : List ℕ) → IsFirstSuch test numbers chunk → All (λ (c : ℕ). c < length numbers) order → Rises numbers order → Contains order chunk → Some chunk ≡ find test order
find_first test numbers chunk [] first inside rises here = absurd (omega (arith, here.1))
find_first test numbers chunk (x ∷ xs) first inside rises here =
    let P : ℕ → Type 0 = λ (c : ℕ). c < length numbers in
    elim (first_or_rest numbers chunk x xs rises here) [
      | inl e ↦
          let passes : test x ≡ true = ap test e ∙ first.passes in
          subst (λ (b : Bool). Some chunk ≡ cond b (Some x) (find test xs)) (sym passes) (ap (λ (c : ℕ). Some c) (sym e))
      | inr rest ↦ elim (cases_Bool (test x)) [
        | inl passes ↦ absurd (omega (arith, rest.1, first.least x (All-head P x xs inside) passes))
        | inr fails ↦
            subst (λ (b : Bool). Some chunk ≡ cond b (Some x) (find test xs)) (sym fails)
            (find_first test numbers chunk xs first (All-tail P x xs inside) (rises_tail numbers x xs rises) rest.0)
      ]
    ]

find_none : (test : ℕ → Bool) (numbers order : List ℕ) → HasNoSuch test numbers → All (λ (c : ℕ). c < length numbers) order → None ≡ find test order
find_none test numbers [] none inside = refl
find_none test numbers (x ∷ xs) none inside =
    let P : ℕ → Type 0 = λ (c : ℕ). c < length numbers in
    subst (λ (b : Bool). None ≡ cond b (Some x) (find test xs)) (sym (none x (All-head P x xs inside)))
    (find_none test numbers xs none (All-tail P x xs inside))

contains_once : (chunk : ℕ) (order : List ℕ) → times chunk order ≡ 1 → Contains order chunk
contains_once chunk order once =
    let split = split_at chunk order (omega (arith, once)) in
    subst (λ (xs : List ℕ). Contains xs chunk) (sym split.is)
    (Contains-append_right split.before (chunk ∷ split.after) chunk (0, omega arith, refl))

-- the chunk with the least number is the first in use order
pub oldest_is : (test : ℕ → Bool) (numbers : List ℕ) (chunk : ℕ) → IsFirstSuch test numbers chunk → IsOldestSuch test numbers (Some chunk)
oldest_is test numbers chunk first order is =
    find_first test numbers chunk order first is.inside is.rises (contains_once chunk order (is.once chunk first.inside))

pub none_is : (test : ℕ → Bool) (numbers : List ℕ) → HasNoSuch test numbers → IsOldestSuch test numbers None
none_is test numbers none order is = find_none test numbers order none is.inside

-- where no place of a class has a number, no chunk has the class
pub no_such : (s : Standings) (lists : ClassLists) (class : JobClass) → AreListed s lists → HasNoPlace (list_of lists class) → HasNoSuch (has_class s.classes class) s.numbers
no_such s lists class is none chunk inside =
    let here : chunk < length s.classes = omega (arith, inside, is.same) in
    let past = none chunk (omega (arith, here, is.sizes class)) in
    let below = is.below chunk here in
    elim (cases_Bool (has_class s.classes class chunk)) [
      | inl has ↦
          let e : slice_index (list_of lists class) chunk ≡ slice_index s.numbers chunk =
          is.tells class chunk here ∙ ap (λ (b : Bool). cond b (slice_index s.numbers chunk) NEVER) has in
          absurd (omega (arith, e, past, below, is.last))
      | inr fails ↦ fails
    ]

pub IfNone-then : {T : Type 0} (o : Option T) {P Q : Type 0} → (P → Q) → IfNone o P → IfNone o Q
IfNone-then None f is = f is
IfNone-then (Some x) f is = is

-- the first chunk of either of two tests, of which each has its first
module _ (p q : ℕ → Bool) (numbers : List ℕ) where
  abbrev passes_either : ℕ → Bool
  passes_either chunk = p chunk || q chunk

  first_left : (a : ℕ) → IsFirstSuch p numbers a → ((c : ℕ) → c < length numbers → q c ≡ true → slice_index numbers a ≤ slice_index numbers c) → IsFirstSuch passes_either numbers a
  first_left a first least = record {
    inside = first.inside;
    passes = or_left (p a) (q a) first.passes;
    least = λ c inside passes. elim (or_cases (p c) (q c) passes) [
      | inl does ↦ first.least c inside does
      | inr does ↦ least c inside does
    ];
  }

  first_right : (b : ℕ) → IsFirstSuch q numbers b → ((c : ℕ) → c < length numbers → p c ≡ true → slice_index numbers b ≤ slice_index numbers c) → IsFirstSuch passes_either numbers b
  first_right b first least = record {
    inside = first.inside;
    passes = or_right (p b) (q b) first.passes;
    least = λ c inside passes. elim (or_cases (p c) (q c) passes) [
      | inl does ↦ least c inside does
      | inr does ↦ first.least c inside does
    ];
  }

  pub first_of_both : (a b : ℕ) → IsFirstSuch p numbers a → IsFirstSuch q numbers b → IsFirstSuch passes_either numbers (cond (ltb (slice_index numbers b) (slice_index numbers a)) b a)
  first_of_both a b first second =
      cond_both (ltb (slice_index numbers b) (slice_index numbers a)) b a (IsFirstSuch passes_either numbers)
      (λ less. first_right b second (λ c inside does. le_trans (le_of_lt (ltb-true _ _ less)) (first.least c inside does)))
      (λ not'. first_left a first (λ c inside does. le_trans (ltb-false _ _ not') (second.least c inside does)))

  pub first_alone : (a : ℕ) → IsFirstSuch p numbers a → HasNoSuch q numbers → IsFirstSuch passes_either numbers a
  first_alone a first none = first_left a first (λ c inside does. absurd (both_ways (q c) (none c inside) does))

  pub second_alone : (b : ℕ) → HasNoSuch p numbers → IsFirstSuch q numbers b → IsFirstSuch passes_either numbers b
  second_alone b none first = first_right b first (λ c inside does. absurd (both_ways (p c) (none c inside) does))

  pub none_of_both : HasNoSuch p numbers → HasNoSuch q numbers → HasNoSuch passes_either numbers
  none_of_both none none' chunk inside = or_from (p chunk) (q chunk) (none chunk inside) (none' chunk inside)
