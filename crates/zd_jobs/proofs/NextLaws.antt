-- THE NEXT STEP OF A JOB: there is one, and one alone.
use Rattle.std.proofs.Common.{◌≡◌, ◌⊎◌, ℕ, zero, suc, ◌+◌, ◌-◌, ◌<◌, ◌≤◌, true, false, Option, Some, None, inl, inr}
use Rattle.std.proofs.Common.{refl, sym, ap, ◌∙◌, subst, arith}
use Rattle.std.proofs.lemmas.Bool.{cases_Bool, cases_eq, cases_lt, false≢true}
use Rattle.std.specs.List.{find, range_with_len}
use Rattle.zd_base.specs.declared.steps.StepKind.{StepKind}
use Rattle.zd_model.specs.Tables.{is_valid}
use Rattle.zd_model.proofs.FaultLaws.{none_some, some_is}
use Rattle.zd_volume.specs.Flights.{tables_now}
use Rattle.zd_volume.specs.Volumes.{PlainVolume}
use Rattle.zd_volume.specs.declared.work.Work.{Work}
use Rattle.zd_volume.proofs.PlaceLaws.{cases_place}
use Rattle.zd_jobs.specs.NextSteps.{HasGap, IsCopied, IsNextOf, IsNextRun, IsNextStep, source}
use Rattle.zd_jobs.proofs.PossibleJobs.{before_found, found_passes, unfound}

-- the first valid block of the source that is left to be copied
pub record IsFirstLeft (v : PlainVolume) (w : Work) (at : ℕ) : Type 0 where
  pub zone : ℕ
  pub from : source v w ≡ Some zone
  pub later : w.copied ≤ at
  pub inside : at < v.geometry.zone_blocks
  pub first : (x : ℕ) → w.copied ≤ x → x < at → is_valid (tables_now v) zone x ≡ false
  pub valid : is_valid (tables_now v) zone at ≡ true

module _ (v : PlainVolume) (w : Work) where
  run_first : (at count : ℕ) → IsNextRun v w at count → IsFirstLeft v w at
  run_first at count run =
      let some = run.some in
      let inside = run.inside in
      record {
        zone = run.zone;
        from = run.from;
        later = run.later;
        inside = omega (arith, some, inside);
        first = run.first;
        valid = run.valid at (omega arith) (omega (arith, some));
      }

  one_zone : (a b : ℕ) (one : IsFirstLeft v w a) (other : IsFirstLeft v w b) → one.zone ≡ other.zone
  one_zone a b one other = some_is one.zone other.zone (sym one.from ∙ other.from)

  not_before : (a b : ℕ) → IsFirstLeft v w a → IsFirstLeft v w b → a < b → ⊥
  not_before a b one other before =
      false≢true (sym (other.first a one.later before)
      ∙ subst (λ (z : ℕ). is_valid (tables_now v) z a ≡ true) (one_zone a b one other) one.valid)

  -- ONE BLOCK is the first
  pub one_first : (a b : ℕ) → IsFirstLeft v w a → IsFirstLeft v w b → a ≡ b
  one_first a b one other = elim (cases_lt a b) [
    | inl before ↦ absurd (not_before a b one other before)
    | inr from ↦ elim (cases_lt b a) [
      | inl behind ↦ absurd (not_before b a other one behind)
      | inr same ↦ omega (arith, from, same)
    ]
  ]

  -- and where there is one, not all is copied
  not_copied : (at : ℕ) → IsFirstLeft v w at → IsCopied v w → ⊥
  not_copied at left copied = false≢true (sym (copied left.zone at left.from left.later left.inside) ∙ left.valid)

  one_copy : (a m b n : ℕ) (next other : StepKind) → IsNextRun v w a m → IsNextRun v w b n
      → (HasGap v w a × (next ≡ StepKind.CopyWrite)) ⊎ ((HasGap v w a → ⊥) × (next ≡ StepKind.CopyRead))
      → (HasGap v w b × (other ≡ StepKind.CopyWrite)) ⊎ ((HasGap v w b → ⊥) × (other ≡ StepKind.CopyRead))
      → next ≡ other
  one_copy a m b n next other run also one two = by one two
    where
      same : a ≡ b
      same = one_first a b (run_first a m run) (run_first b n also)

      by : (HasGap v w a × (next ≡ StepKind.CopyWrite)) ⊎ ((HasGap v w a → ⊥) × (next ≡ StepKind.CopyRead))
          → (HasGap v w b × (other ≡ StepKind.CopyWrite)) ⊎ ((HasGap v w b → ⊥) × (other ≡ StepKind.CopyRead))
          → next ≡ other
      by (inl gap) (inl also) = gap.1 ∙ sym also.1
      by (inl gap) (inr none) = absurd (none.0 (subst (HasGap v w) same gap.0))
      by (inr none) (inl gap) = absurd (none.0 (subst (HasGap v w) (sym same) gap.0))
      by (inr none) (inr also) = none.1 ∙ sym also.1

  -- ONE STEP ALONE is the next
  pub next_unique : (next other : StepKind) → IsNextOf v w next → IsNextOf v w other → next ≡ other
  next_unique next other (inl one) (inl two) = one.1 ∙ sym two.1
  next_unique next other (inl one) (inr (inl two)) =
      absurd (let read = one.0 in let none = two.0 in let f : ⊥ = omega (arith, read, none) in f)
  next_unique next other (inl one) (inr (inr two)) =
      absurd (let read = one.0 in let none = two.0 in let f : ⊥ = omega (arith, read, none) in f)
  next_unique next other (inr (inl one)) (inl two) =
      absurd (let read = two.0 in let none = one.0 in let f : ⊥ = omega (arith, read, none) in f)
  next_unique next other (inr (inl one)) (inr (inl two)) = one.2 ∙ sym two.2
  next_unique next other (inr (inl one)) (inr (inr two)) =
      absurd (not_copied two.1.0 (run_first two.1.0 two.1.1 two.1.2) one.1)
  next_unique next other (inr (inr one)) (inl two) =
      absurd (let read = two.0 in let none = one.0 in let f : ⊥ = omega (arith, read, none) in f)
  next_unique next other (inr (inr one)) (inr (inl two)) =
      absurd (not_copied one.1.0 (run_first one.1.0 one.1.1 one.1.2) two.1)
  next_unique next other (inr (inr one)) (inr (inr two)) =
      one_copy one.1.0 one.1.1 two.1.0 two.1.1 next other one.1.2 two.1.2 one.1.3 two.1.3

  -- WHAT THE NEXT STEP TELLS: where the job ends all is copied
  pub remap_next : IsNextOf v w StepKind.Remap → (w.read ≡ 0) × IsCopied v w
  remap_next (inl read) = absurd (other read.1)
    where
      other : StepKind.Remap ≡ StepKind.CopyWrite → ⊥
      other same = cc
  remap_next (inr (inl all)) = (all.0, all.1)
  remap_next (inr (inr run)) = elim run.1.3 [
    | inl gap ↦ absurd (let same = gap.1 in let f : ⊥ = cc in f)
    | inr none ↦ absurd (let same = none.1 in let f : ⊥ = cc in f)
  ]

  -- where a run is read there is no gap before it
  pub read_next : IsNextOf v w StepKind.CopyRead → (at count : ℕ) → IsNextRun v w at count
      → (w.read ≡ 0) × (HasGap v w at → ⊥)
  read_next (inl read) at count run = absurd (let same = read.1 in let f : ⊥ = cc in f)
  read_next (inr (inl all)) at count run = absurd (let same = all.2 in let f : ⊥ = cc in f)
  read_next (inr (inr there)) at count run = elim there.1.3 [
    | inl gap ↦ absurd (let same = gap.1 in let f : ⊥ = cc in f)
    | inr none ↦ (
      there.0,
      λ gap. none.0 (subst (HasGap v w)
          (one_first at there.1.0 (run_first at count run) (run_first there.1.0 there.1.1 there.1.2)) gap),
    )
  ]

  -- where blocks are written they were read, or there is a gap before the run
  pub write_next : IsNextOf v w StepKind.CopyWrite
      → (0 < w.read) ⊎ ((w.read ≡ 0) × ((at count : ℕ) × IsNextRun v w at count × HasGap v w at))
  write_next (inl read) = inl read.0
  write_next (inr (inl all)) = absurd (let same = all.2 in let f : ⊥ = cc in f)
  write_next (inr (inr there)) = elim there.1.3 [
    | inl gap ↦ inr (there.0, (there.1.0, there.1.1, there.1.2, gap.0))
    | inr none ↦ absurd (let same = none.1 in let f : ⊥ = cc in f)
  ]

  pub gap_next : IsNextOf v w StepKind.CopyWrite → w.read ≡ 0 → (at count : ℕ) → IsNextRun v w at count
      → HasGap v w at
  gap_next next none at count run = elim (write_next next) [
    | inl read ↦ absurd (let f : ⊥ = omega (arith, read, none) in f)
    | inr gap ↦
        subst (HasGap v w)
        (one_first gap.1.0 at (run_first gap.1.0 gap.1.1 gap.1.2) (run_first at count run)) gap.1.3
  ]

  -- THE RUN from the first block on
  longest_from : (at : ℕ) (left : IsFirstLeft v w at) (fuel count : ℕ) → count + fuel ≡ 32 → 0 < count
      → at + count ≤ v.geometry.zone_blocks
      → ((x : ℕ) → at ≤ x → x < at + count → is_valid (tables_now v) left.zone x ≡ true)
      → (m : ℕ) × IsNextRun v w at m
  longest_from at left zero count sum some inside valid = (
    count,
    record {
      zone = left.zone;
      from = left.from;
      later = left.later;
      some = some;
      few = omega (arith, sum);
      inside = inside;
      first = left.first;
      valid = valid;
      longest = λ less _. absurd (let f : ⊥ = omega (arith, sum, less) in f);
    },
  )
  longest_from at left (suc fuel) count sum some inside valid = elim (cases_lt (at + count) v.geometry.zone_blocks) [
    | inr end ↦ (
      count,
      record {
        zone = left.zone;
        from = left.from;
        later = left.later;
        some = some;
        few = omega (arith, sum);
        inside = inside;
        first = left.first;
        valid = valid;
        longest = λ _ more. absurd (let f : ⊥ = omega (arith, end, more) in f);
      },
    )
    | inl more ↦ elim (cases_Bool (is_valid (tables_now v) left.zone (at + count))) [
      | inl also ↦
          longest_from at left fuel (count + 1) (omega (arith, sum)) (omega arith) (omega (arith, more))
          (λ x low high. elim (cases_eq x (at + count)) [
            | inl here ↦ ap (is_valid (tables_now v) left.zone) here ∙ also
            | inr off ↦ valid x low (omega (arith, high, off))
          ])
      | inr ends ↦ (
        count,
        record {
          zone = left.zone;
          from = left.from;
          later = left.later;
          some = some;
          few = omega (arith, sum);
          inside = inside;
          first = left.first;
          valid = valid;
          longest = λ _ _. ends;
        },
      )
    ]
  ]

  pub run_there : (at : ℕ) → IsFirstLeft v w at → (count : ℕ) × IsNextRun v w at count
  run_there at left =
      let inside = left.inside in
      longest_from at left 31 1 refl (omega arith) (omega (arith, inside))
      (λ x low high. ap (is_valid (tables_now v) left.zone) (let same : x ≡ at = omega (arith, low, high) in same)
      ∙ left.valid)

  -- WHAT COMES NEXT, by the first block that is left: a gap is filled, or the run is read
  pub next_gap : (at : ℕ) → w.read ≡ 0 → IsFirstLeft v w at → HasGap v w at → IsNextOf v w StepKind.CopyWrite
  next_gap at none left gap =
      let run = run_there at left in
      inr (inr (none, (at, run.0, run.1, inl (gap, refl))))

  pub next_read : (at : ℕ) → w.read ≡ 0 → IsFirstLeft v w at → (HasGap v w at → ⊥)
      → IsNextOf v w StepKind.CopyRead
  next_read at none left no_gap =
      let run = run_there at left in
      inr (inr (none, (at, run.0, run.1, inr (no_gap, refl))))

  pub gap_or_not : (at : ℕ) → HasGap v w at ⊎ (HasGap v w at → ⊥)
  gap_or_not at = elim (cases_place w.target) [
    | inl none ↦ inr (λ gap. none_some gap.0 (sym none ∙ gap.1))
    | inr to ↦ elim (cases_lt to.0 v.geometry.conv) [
      | inl low ↦ inr (λ gap.
          let same = some_is gap.0 to.0 (sym gap.1 ∙ to.1) in
          let high = gap.2 in
          omega (arith, low, same, high))
      | inr high ↦ elim (cases_lt w.copied at) [
        | inl behind ↦ inl (to.0, to.1, high, behind)
        | inr none ↦ inr (λ gap. (let behind = gap.3 in omega (arith, none, behind)))
      ]
    ]
  ]

  -- SOME BLOCK is left, or all are copied
  pub left_or_copied : ((at : ℕ) × IsFirstLeft v w at) ⊎ IsCopied v w
  left_or_copied = elim (cases_place (source v w)) [
    | inl none ↦ inr (λ y x from low high. absurd (none_some y (sym none ∙ from)))
    | inr from ↦ by from.0 from.1 (find (is_valid (tables_now v) from.0)
        (range_with_len w.copied (v.geometry.zone_blocks - w.copied))) refl
  ]
    where
      by : (zone : ℕ) → source v w ≡ Some zone → (o : Option ℕ)
          → find (is_valid (tables_now v) zone) (range_with_len w.copied (v.geometry.zone_blocks - w.copied)) ≡ o
          → ((at : ℕ) × IsFirstLeft v w at) ⊎ IsCopied v w
      by zone from None none = inr (λ y x is low high.
          subst (λ (z : ℕ). is_valid (tables_now v) z x ≡ false) (some_is zone y (sym from ∙ is))
          (unfound (is_valid (tables_now v) zone) w.copied (v.geometry.zone_blocks - w.copied) x none low
          (omega (arith, low, high))))
      by zone from (Some at) found =
          let passes = found_passes (is_valid (tables_now v) zone) w.copied (v.geometry.zone_blocks - w.copied) at
          found in
          let low = passes.1 in
          let high = passes.2 in
          inl (
            at,
            record {
              zone = zone;
              from = from;
              later = low;
              inside = omega (arith, low, high);
              first = λ x low before.
                  before_found (is_valid (tables_now v) zone) w.copied (v.geometry.zone_blocks - w.copied) at x found
                  low before;
              valid = passes.0;
            },
          )

  -- THERE IS A NEXT STEP
  pub next_there : (next : StepKind) × IsNextOf v w next
  next_there = elim (cases_lt 0 w.read) [
    | inl read ↦ (StepKind.CopyWrite, inl (read, refl))
    | inr none ↦ elim left_or_copied [
      | inr copied ↦ (StepKind.Remap, inr (inl ((let zero : w.read ≡ 0 = omega (arith, none) in zero), copied, refl)))
      | inl left ↦ elim (gap_or_not left.0) [
        | inl gap ↦ (StepKind.CopyWrite, next_gap left.0 (omega (arith, none)) left.1 gap)
        | inr no_gap ↦ (StepKind.CopyRead, next_read left.0 (omega (arith, none)) left.1 no_gap)
      ]
    ]
  ]

-- THE SAME of the job under way, or none
pub next_step_there : (v : PlainVolume) (job : Option Work) → (next : Option StepKind) × IsNextStep v job next
next_step_there v None = (None, refl)
next_step_there v (Some w) = (let next = next_there v w in (Some next.0, next.1))

pub next_step_unique : (v : PlainVolume) (job : Option Work) (one other : Option StepKind) → IsNextStep v job one
    → IsNextStep v job other → one ≡ other
next_step_unique v None one other is also = is ∙ sym also
next_step_unique v (Some w) None other is also = absurd is
next_step_unique v (Some w) (Some one) None is also = absurd also
next_step_unique v (Some w) (Some one) (Some other) is also =
    ap (λ (k : StepKind). Some k) (next_unique v w one other is also)
