-- The first job in the use order, by a test of chunks that finds it.
use Rattle.std.proofs.Common.{◌≡◌, ◌⊎◌, inl, inr, ℕ, zero, suc, ◌<◌, Bool, true, false, cond, List, [], ◌∷◌, length, Option, Some, None, refl, sym, ◌∙◌, subst, IfNone, IfSome, arith}
use Rattle.std.proofs.lemmas.Bool.{false≢true}
use Rattle.std.specs.List.{find, slice_get}
use Rattle.zd_alloc.specs.Candidates.{IsOldestSuch}
use Rattle.zd_model.proofs.FaultLaws.{none_some, some_is}
use Rattle.zd_volume.specs.Volumes.{IsFixed, PlainVolume}
use Rattle.zd_volume.specs.declared.work.Job.{Job}
use Rattle.zd_volume.specs.declared.work.JobKind.{JobKind}
use Rattle.zd_jobs.specs.Possible.{IsPossible}
use Rattle.zd_reclaim.specs.Picks.{HasNoJob, IsFirstJob}
use Rattle.zd_reclaim.proofs.OrderPlaces.{stands_at}

-- what is found stands at a place before which nothing passes
record IsFoundAt (p : ℕ → Bool) (xs : List ℕ) (x : ℕ) : Type 0 where
  pub place : ℕ
  pub there : slice_get xs place ≡ Some x
  pub passes : p x ≡ true
  pub before : (i y : ℕ) → i < place → slice_get xs i ≡ Some y → p y ≡ false

later : (p : ℕ → Bool) (x y : ℕ) (ys : List ℕ) → p y ≡ false → (rest : IsFoundAt p ys x) → (i z : ℕ)
    → i < suc rest.place → slice_get (y ∷ ys) i ≡ Some z → p z ≡ false
later p x y ys fails rest zero z low at = subst (λ (n : ℕ). p n ≡ false) (some_is y z at) fails
later p x y ys fails rest (suc i) z low at = rest.before i z (omega (arith, low)) at

-- the first passes and is found, or it fails and the rest decides
head_or_rest : (p : ℕ → Bool) (x : ℕ) (xs : List ℕ) (o : Option ℕ) → find p (x ∷ xs) ≡ o
    → ((p x ≡ true) × (o ≡ Some x)) ⊎ ((p x ≡ false) × (find p xs ≡ o))
head_or_rest p x xs o found = by (p x) refl found
  where
    by : (b : Bool) → p x ≡ b → cond b (Some x) (find p xs) ≡ o
        → ((p x ≡ true) × (o ≡ Some x)) ⊎ ((p x ≡ false) × (find p xs ≡ o))
    by true is found = inl (is, sym found)
    by false is found = inr (is, found)

found_at : (p : ℕ → Bool) (xs : List ℕ) (x : ℕ) → find p xs ≡ Some x → IsFoundAt p xs x
found_at p [] x is = absurd (none_some x is)
found_at p (y ∷ ys) x is = elim (head_or_rest p y ys (Some x) is) [
  | inl here ↦ record {
    place = 0;
    there = sym here.1;
    passes = subst (λ (n : ℕ). p n ≡ true) (sym (some_is x y here.1)) here.0;
    before = λ i z low at. absurd (omega (arith, low));
  }
  | inr off ↦
      let rest = found_at p ys x off.1 in
      record {
        place = suc rest.place;
        there = rest.there;
        passes = rest.passes;
        before = later p x y ys off.0 rest;
      }
]

-- where nothing is found, nothing passes
none_passes : (p : ℕ → Bool) (xs : List ℕ) → find p xs ≡ None → (i y : ℕ) → slice_get xs i ≡ Some y → p y ≡ false
none_passes p [] none i y at = absurd (none_some y at)
none_passes p (x ∷ xs) none zero y at = elim (head_or_rest p x xs None none) [
  | inl here ↦ absurd (none_some x here.1)
  | inr off ↦ subst (λ (n : ℕ). p n ≡ false) (some_is x y at) off.0
]
none_passes p (x ∷ xs) none (suc i) y at = elim (head_or_rest p x xs None none) [
  | inl here ↦ absurd (none_some x here.1)
  | inr off ↦ none_passes p xs off.1 i y at
]

-- a test of chunks that tells on which of them there is such a job
module _ (v : PlainVolume) (fixed : IsFixed v) (Such : Job → Type 0) (p : ℕ → Bool)
    (only : (job : Job) → IsPossible v job.chunk job.kind → Such job → p job.chunk ≡ true)
    (some : (c : ℕ) → c < v.head.layout.chunks → p c ≡ true
    → (kind : JobKind) × IsPossible v c kind × Such (record { kind = kind; chunk = c })) where
  -- the first chunk that passes has the first such job
  first_job : (c : ℕ) → Some c ≡ find p v.division.order → c < v.head.layout.chunks
      → (kind : JobKind) × IsFirstJob v Such (record { kind = kind; chunk = c })
  first_job c found inside =
      let at = found_at p v.division.order c (sym found) in
      let one = some c inside at.passes in (
        one.0,
        record {
          possible = one.1;
          such = one.2;
          place = at.place;
          there = at.there;
          first = λ before other less stands is does.
              false≢true (sym (at.before before other.chunk less stands) ∙ only other is does);
        },
      )

  -- where none passes there is no such job
  no_job : None ≡ find p v.division.order → HasNoJob v Such
  no_job none job possible such =
      let there = possible.there in
      let size = fixed.uses.order in
      let at = stands_at v.division.order v.standings.numbers job.chunk fixed.candidates.in_order
      (omega (arith, there, size)) in
      false≢true (sym (none_passes p v.division.order (sym none) at.0 job.chunk at.1) ∙ only job possible such)

  -- WHAT IS FOUND by the numbers of the last writes
  pub job_found : (found : Option ℕ) → IsOldestSuch p v.standings.numbers found
      → IfSome found (λ c. c < length v.standings.classes)
      → IfSome found (λ c. (kind : JobKind) × IsFirstJob v Such (record { kind = kind; chunk = c }))
  job_found None oldest inside = tt
  job_found (Some c) oldest inside =
      first_job c (oldest v.division.order fixed.candidates.in_order)
      (let count = fixed.candidates.count in omega (arith, inside, count))

  pub none_found : (found : Option ℕ) → IsOldestSuch p v.standings.numbers found → IfNone found (HasNoJob v Such)
  none_found None oldest = no_job (oldest v.division.order fixed.candidates.in_order)
  none_found (Some c) oldest = tt
