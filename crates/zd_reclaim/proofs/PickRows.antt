-- Which of two jobs is picked.
use Rattle.std.proofs.Common.{◌≡◌, ◌⊎◌, inl, inr, ℕ, zero, suc, ◌<◌, List, Option, Some, None, refl, sym, ap, ap₂, ◌∙◌, subst, arith}
use Rattle.std.specs.List.{slice_get}
use Rattle.zd_model.proofs.FaultLaws.{some_is}
use Rattle.zd_volume.specs.Volumes.{PlainVolume}
use Rattle.zd_volume.specs.declared.work.Job.{Job}
use Rattle.zd_volume.specs.declared.work.JobKind.{JobKind}
use Rattle.zd_volume.specs.declared.work.JobKind.TheVariants.{Empty, Move, Append, Merge}
use Rattle.zd_jobs.specs.Possible.{HasFreeSequential, IsPossible, kind_on}
use Rattle.zd_reclaim.specs.Picks.{GivesConventional, IsFirstJob, IsGiving, IsMerge, IsOnConventional, IsPick}
use Rattle.zd_reclaim.specs.ReclaimRows.{HasTwoJobs, job_of}
use Rattle.zd_reclaim.proofs.ClassKinds.{some_same}

below_two : (c : ℕ) → c < 2 → (c ≡ 0) ⊎ (c ≡ 1)
below_two zero low = inl refl
below_two (suc zero) low = inr refl
below_two (suc (suc c)) low = absurd (omega (arith, low))

no_kind_here : (kind : JobKind) → ◌≡◌ {A = Option JobKind} None (Some kind) → ⊥
no_kind_here kind is = cc

module _ (v : PlainVolume) (oldest other : ℕ) (on_0 on_1 : Option JobKind)
    (two : HasTwoJobs v oldest other on_0 on_1) where
  -- the job that is possible on one of the chunks
  kind_of_two : (c : ℕ) (kind : JobKind) → IsPossible v c kind
      → ((c ≡ 0) × (on_0 ≡ Some kind)) ⊎ ((c ≡ 1) × (on_1 ≡ Some kind))
  kind_of_two c kind possible =
      let there = possible.there in
      let count = two.chunks in
      elim (below_two c (omega (arith, there, count))) [
        | inl is ↦ inl (is, sym two.zero ∙ ap (kind_on v) (sym is) ∙ possible.is_kind)
        | inr is ↦ inr (is, sym two.one ∙ ap (kind_on v) (sym is) ∙ possible.is_kind)
      ]

  -- the oldest chunk stands first
  first_place : slice_get v.division.order 0 ≡ Some oldest
  first_place = ap (λ (order : List ℕ). slice_get order 0) two.order

  second_place : slice_get v.division.order 1 ≡ Some other
  second_place = ap (λ (order : List ℕ). slice_get order 1) two.order

  first_of_two : (Such : Job → Type 0) (kind : JobKind) → IsPossible v oldest kind → Such (job_of kind oldest)
      → IsFirstJob v Such (job_of kind oldest)
  first_of_two Such kind possible such = record {
    possible = possible;
    such = such;
    place = 0;
    there = first_place;
    first = λ before job low. absurd (omega (arith, low));
  }

  second_of_two : (Such : Job → Type 0) (kind : JobKind) → IsPossible v other kind → Such (job_of kind other)
      → ((job : Job) → job.chunk ≡ oldest → IsPossible v job.chunk job.kind → Such job → ⊥)
      → IsFirstJob v Such (job_of kind other)
  second_of_two Such kind possible such none = record {
    possible = possible;
    such = such;
    place = 1;
    there = second_place;
    first = λ before job low at is does.
        let start : before ≡ 0 = omega (arith, low) in
        none job (sym (some_is oldest job.chunk
        (sym first_place ∙ ap (slice_get v.division.order) (sym start) ∙ at))) is does;
  }

possible_here : (v : PlainVolume) (c : ℕ) (kind : JobKind) → c < v.head.layout.chunks → kind_on v c ≡ Some kind
    → (kind ≡ Move → HasFreeSequential v.division) → IsPossible v c kind
possible_here v c kind there is free = record { there = there; is_kind = is; free = free }

not_kind : (a b : JobKind) → ◌≡◌ {A = Option JobKind} (Some a) (Some b) → (a ≡ b → ⊥) → ⊥
not_kind a b is off = off (some_same a b is)

module _ (v : PlainVolume) where
  pub older_row : HasTwoJobs v 1 0 (Some Append) (Some Append) → IsPick v (Some (job_of Append 1))
  older_row two =
      let low : 1 < v.head.layout.chunks = (let n = two.chunks in omega (arith, n)) in
      inl (first_of_two v 1 0 (Some Append) (Some Append) two (IsGiving v) Append
      (possible_here v 1 Append low two.one (λ move. absurd (let f : ⊥ = cc in f))) tt)

  pub turn_row : HasTwoJobs v 0 1 (Some Merge) (Some Move) → HasFreeSequential v.division
      → IsPick v (Some (job_of Move 1))
  turn_row two free =
      let low : 1 < v.head.layout.chunks = (let n = two.chunks in omega (arith, n)) in
      inl (second_of_two v 0 1 (Some Merge) (Some Move) two (IsGiving v) Move
      (possible_here v 1 Move low two.one (λ _. free)) tt
      (λ job at possible gives.
      let merge : job.kind ≡ Merge =
      some_same job.kind Merge (sym possible.is_kind ∙ ap (kind_on v) at ∙ two.zero) in
      subst (λ (k : JobKind). GivesConventional v k job.chunk) merge gives))

  -- where nothing gives a conventional zone back, the Merge is picked
  merge_row : (other : JobKind) (two : HasTwoJobs v 1 0 (Some Merge) (Some other)) → (other ≡ Merge → ⊥)
      → (IsPossible v 1 other → GivesConventional v other 1 → ⊥) → IsPick v (Some (job_of Merge 0))
  merge_row other two off none =
      let low : 0 < v.head.layout.chunks = (let n = two.chunks in omega (arith, n)) in
      inr (inl (
        (λ job possible gives. elim (kind_of_two v 1 0 (Some Merge) (Some other) two job.chunk job.kind possible) [
          | inl here ↦
              subst (λ (k : JobKind). GivesConventional v k job.chunk) (sym (some_same Merge job.kind here.1)) gives
          | inr here ↦
              let same : job ≡ job_of other 1 = at_one job other here.0 here.1 in
              none (subst (λ (j : Job). IsPossible v j.chunk j.kind) same possible)
              (subst (λ (j : Job). GivesConventional v j.kind j.chunk) same gives)
        ]),
        second_of_two v 1 0 (Some Merge) (Some other) two IsMerge Merge
            (possible_here v 0 Merge low two.zero (λ move. absurd (let f : ⊥ = cc in f))) refl
            (λ job at possible merge.
            off (some_same other Merge
            (sym two.one ∙ ap (kind_on v) (sym at) ∙ possible.is_kind ∙ ap (λ (k : JobKind). Some k) merge))),
      ))
    where
      at_one : (job : Job) (other : JobKind) → job.chunk ≡ 1 → ◌≡◌ {A = Option JobKind} (Some other) (Some job.kind)
          → job ≡ job_of other 1
      at_one job other at is = ap₂ job_of (sym (some_same other job.kind is)) at

  pub full_row : HasTwoJobs v 1 0 (Some Merge) (Some Move) → (HasFreeSequential v.division → ⊥)
      → IsPick v (Some (job_of Merge 0))
  full_row two none =
      merge_row Move two (λ is. (let f : ⊥ = cc in f)) (λ possible gives. none (possible.free refl))

  pub later_row : HasTwoJobs v 1 0 (Some Merge) (Some Empty) → (IsOnConventional v 1 → ⊥)
      → IsPick v (Some (job_of Merge 0))
  later_row two off = merge_row Empty two (λ is. (let f : ⊥ = cc in f)) (λ possible gives. off gives)

  pub none_row : HasTwoJobs v 0 1 None None → IsPick v None
  none_row two = λ job possible.
      elim (kind_of_two v 0 1 None None two job.chunk job.kind possible) [
        | inl here ↦ no_kind_here job.kind here.1
        | inr here ↦ no_kind_here job.kind here.1
      ]
