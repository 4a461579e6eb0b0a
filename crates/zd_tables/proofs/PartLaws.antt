-- What a change of a range of bits makes of what is counted of them.
use Rattle.std.proofs.Common.{◌≡◌, ◌⊎◌, ℕ, ◌+◌, ◌-◌, ◌<◌, ◌≤◌, min, true, false, List, Option, Some, None, inl, inr, refl, sym, ◌∙◌, ap, arith}
use Rattle.std.specs.Option.{option_map_or}
use Rattle.std.proofs.lemmas.Bool.{cases_lt}
use Rattle.zd_model.specs.Tables.{is_set}
use Rattle.zd_model.proofs.FaultLaws.{none_some, some_is}
use Rattle.zd_bits.specs.Bits.{AllAre, GivesOnly, IsFirstValid, weight_between, weight_of}
use Rattle.zd_bits.proofs.BetweenLaws.{weight_three, weight_set, weight_cleared}
use Rattle.zd_tables.specs.Counts.{IsCounted, IsFirstWithout}
use Rattle.zd_tables.specs.declared.part.PartCount.{PartCount}

module _ (old new : List ℕ) (from to end : ℕ) (order : from ≤ to) (range : to ≤ end) (count : PartCount)
    (counted : IsCounted old end count) where
  -- a range weighs no more than all
  pub range_weight : weight_between old from to ≤ count.weight
  range_weight = omega (arith, weight_three old from to end order range, counted.weight)

  -- THE RANGE IS SET
  module _ (some : from < to) (gives : GivesOnly true from to old new) where
    pub set_weight : count.weight - weight_between old from to + (to - from) ≡ weight_of new end
    set_weight = (let e = weight_set old new from to end order range gives in
        omega (arith, range_weight, e, counted.weight))

    none_before : (first : Option ℕ) → count.first ≡ first → (n : ℕ)
        → n < option_map_or (λ k. min k from) first from → is_set new n ≡ false
    none_before None is n low = gives.below n low ∙ counted.none is n (omega arith) (omega arith)
    none_before (Some k) is n low = gives.below n (omega arith)
        ∙ (counted.some k is).before n (omega arith) (omega arith)

    set_here : (first : Option ℕ) → count.first ≡ first
        → is_set new (option_map_or (λ k. min k from) first from) ≡ true
    set_here None is = gives.inside from (omega arith) some
    set_here (Some k) is = elim (cases_lt k from) [
      | inl before ↦ (let e : min k from ≡ k = omega arith in rw e (gives.below k before ∙ (counted.some k is).valid))
      | inr behind ↦ (let e : min k from ≡ from = omega arith in rw e (gives.inside from (omega arith) some))
    ]

    low_enough : (first : Option ℕ) → option_map_or (λ k. min k from) first from ≤ from
    low_enough None = omega arith
    low_enough (Some k) = omega arith

    pub set_counted : (first : ℕ) → first ≡ option_map_or (λ k. min k from) count.first from
        → IsCounted new end (record {
          weight = count.weight - weight_between old from to + (to - from);
          first =
              Some first;
        })
    set_counted first is = record {
      weight = set_weight;
      some = λ n e. (
          let same : n ≡ option_map_or (λ k. min k from) count.first from = sym (some_is first n e) ∙ is in
          record {
            low = omega arith;
            high = omega (arith, same, low_enough count.first, some, range);
            valid = ap (is_set new) same ∙ set_here count.first refl;
            before = λ m _ low. none_before count.first refl m (omega (arith, same, low));
          });
      none = λ e. absurd (none_some first (sym e));
    }

  -- THE RANGE IS CLEARED
  module _ (gives : GivesOnly false from to old new) where
    cleared_weight : count.weight - weight_between old from to ≡ weight_of new end
    cleared_weight = (let e = weight_cleared old new from to end order range gives in
        omega (arith, range_weight, e, counted.weight))

    -- what was clear is
    stays_clear : (n : ℕ) → is_set old n ≡ false → is_set new n ≡ false
    stays_clear n clear = elim (cases_lt n from) [
      | inl below ↦ gives.below n below ∙ clear
      | inr low ↦ elim (cases_lt n to) [
        | inl high ↦ gives.inside n low high
        | inr behind ↦ gives.behind n behind ∙ clear
      ]
    ]

    still_set : (n : ℕ) → (n < from) ⊎ (to ≤ n) → is_set old n ≡ true → is_set new n ≡ true
    still_set n out valid =
        elim out [ inl below ↦ gives.below n below ∙ valid | inr behind ↦ gives.behind n behind ∙ valid ]

    -- the first of all was outside of the range
    kept_first : (k n : ℕ) → IsFirstValid old 0 end k → (k < from) ⊎ (to ≤ k) → k ≡ n → IsFirstValid new 0 end n
    kept_first k n is out same = rw (sym same) (record {
      low = is.low;
      high = is.high;
      valid = still_set k out is.valid;
      before = λ m a b. stays_clear m (is.before m a b);
    })

    -- none stands before the range's end, where the first of all was in it
    none_below : (k : ℕ) → IsFirstValid old 0 end k → from ≤ k → (m : ℕ) → m < to → is_set new m ≡ false
    none_below k is low m high = elim (cases_lt m k) [
      | inl before ↦ stays_clear m (is.before m (omega arith) before)
      | inr there ↦ gives.inside m (omega arith) high
    ]

    module _ (first : Option ℕ) (is : IsFirstWithout new from to end count.first first) where
      some_case : (before : Option ℕ) → count.first ≡ before → (n : ℕ) → first ≡ Some n → IsFirstValid new 0 end n
      some_case None e n some = absurd (none_some n (sym (is.none e) ∙ some))
      some_case (Some k) e n some = elim (cases_lt k from) [
        | inl below ↦ kept_first k n (counted.some k e) (inl below)
            (some_is k n (sym (is.outside k e (inl below)) ∙ some))
        | inr low ↦ elim (cases_lt k to) [
          | inr behind ↦ kept_first k n (counted.some k e) (inr behind)
              (some_is k n (sym (is.outside k e (inr behind)) ∙ some))
          | inl high ↦
              let next = is.some k n e low high some in
              record {
                low = omega arith;
                high = next.high;
                valid = next.valid;
                before = λ m _ b. elim (cases_lt m to) [
                  | inl inside ↦ none_below k (counted.some k e) low m inside
                  | inr after ↦ next.before m after b
                ];
              }
        ]
      ]

      none_case : (before : Option ℕ) → count.first ≡ before → first ≡ None → AllAre false new 0 end
      none_case None e none m a b = stays_clear m (counted.none e m a b)
      none_case (Some k) e none m a b = elim (cases_lt k from) [
        | inl below ↦ absurd (none_some k (sym none ∙ is.outside k e (inl below)))
        | inr low ↦ elim (cases_lt k to) [
          | inr behind ↦ absurd (none_some k (sym none ∙ is.outside k e (inr behind)))
          | inl high ↦ elim (cases_lt m to) [
            | inl inside ↦ none_below k (counted.some k e) low m inside
            | inr after ↦ is.all k e low high none m after b
          ]
        ]
      ]

      pub cleared_counted : IsCounted new end
          (record { weight = count.weight - weight_between old from to; first = first })
      cleared_counted = record {
        weight = cleared_weight;
        some = some_case count.first refl;
        none = none_case count.first refl;
      }
