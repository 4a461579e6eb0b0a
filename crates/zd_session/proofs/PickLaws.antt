-- Some job is picked exactly where one is possible on some chunk.
use Rattle.std.proofs.Common.{◌≡◌, ◌⊎◌, inl, inr, ℕ, zero, suc, ◌+◌, ◌<◌, Bool, true, false, ◌&&◌, nat_lt, List, [], ◌∷◌, Option, Some, None, refl, sym, ap, ◌∙◌, subst, slice_get, count_by, arith, Decides}
use Rattle.std.proofs.lemmas.Bool.{and_from, and_parts, cases_lt, false≢true, lt-ltb, ltb-true, or_cases}
use Rattle.std.proofs.lemmas.List.Folds.{list_any_at}
use Rattle.std.proofs.lemmas.List.FromFn.{get_or-range_with_len, length-range_with_len}
use Rattle.std.proofs.lemmas.Option.{none-some, same_Some}
use Rattle.std.specs.List.{list_any, range_with_len}
use Rattle.zd_base.specs.declared.geometry.Kind.TheVariants.{Sequential}
use Rattle.zd_alloc.specs.Zones.{is_free, uses_of}
use Rattle.zd_model.proofs.FaultLaws.{none_some, some_is}
use Rattle.zd_model.specs.Tables.{entry_of}
use Rattle.zd_model.specs.declared.metadata.MapEntry.{MapEntry}
use Rattle.zd_tables.proofs.TableLaws.{entry_past}
use Rattle.zd_volume.specs.Flights.{tables_now}
use Rattle.zd_volume.specs.Volumes.{IsFixed, PlainVolume}
use Rattle.zd_volume.specs.declared.work.Job.{Job}
use Rattle.zd_volume.specs.declared.work.JobKind.{JobKind}
use Rattle.zd_volume.specs.declared.work.JobKind.TheVariants.{Empty, Move, Append, Merge}
use Rattle.zd_jobs.specs.Possible.{IsPossible, kind_by, kind_on}
use Rattle.zd_reclaim.specs.Picks.{GivesConventional, HasNoJob, IsEmpty, IsFirstJob, IsGiving, IsMerge, IsPick}
use Rattle.zd_reclaim.proofs.OrderPlaces.{stands_at}
use Rattle.zd_reclaim.proofs.FreeZones.{counts_free, free_counts}
use Rattle.zd_session.specs.Standings.{has_job, is_possible}

-- a number below the end passes where some does
any_below : (p : ℕ → Bool) (a n : ℕ) → list_any p (range_with_len a n) ≡ true
    → (x : ℕ) × (x < a + n) × (p x ≡ true)
any_below p a zero is = absurd (false≢true is)
any_below p a (suc n) is = elim (or_cases (p a) (list_any p (range_with_len (a + 1) n)) is) [
  | inl here ↦ (a, omega arith, here)
  | inr later ↦ (let rest = any_below p (a + 1) n later in let low = rest.1 in (rest.0, omega (arith, low), rest.2))
]

below_any : (p : ℕ → Bool) (n x : ℕ) → x < n → p x ≡ true → list_any p (range_with_len 0 n) ≡ true
below_any p n x low is =
    list_any_at p (range_with_len 0 n) x 0 (let size = length-range_with_len 0 n in omega (arith, size, low))
    (ap p (get_or-range_with_len 0 n x 0 low ∙ (let e : 0 + x ≡ x = omega arith in e)) ∙ is)

-- THE FIRST in a list that passes, with its place; or none does
first_or_not : (p : ℕ → Bool) (xs : List ℕ)
    → ((place x : ℕ) × (slice_get xs place ≡ Some x) × (p x ≡ true)
    × ((i y : ℕ) → i < place → slice_get xs i ≡ Some y → p y ≡ false))
    ⊎ ((i y : ℕ) → slice_get xs i ≡ Some y → p y ≡ false)
first_or_not p [] = inr (λ i y at. absurd (none_some y at))
first_or_not p (x ∷ xs) = by (p x) refl (first_or_not p xs)
  where
    before : (place : ℕ) → p x ≡ false → ((i y : ℕ) → i < place → slice_get xs i ≡ Some y → p y ≡ false)
        → (i y : ℕ) → i < suc place → slice_get (x ∷ xs) i ≡ Some y → p y ≡ false
    before place fails rest zero y low at = subst (λ (n : ℕ). p n ≡ false) (some_is x y at) fails
    before place fails rest (suc i) y low at = rest i y (omega (arith, low)) at

    none : p x ≡ false → ((i y : ℕ) → slice_get xs i ≡ Some y → p y ≡ false)
        → (i y : ℕ) → slice_get (x ∷ xs) i ≡ Some y → p y ≡ false
    none fails rest zero y at = subst (λ (n : ℕ). p n ≡ false) (some_is x y at) fails
    none fails rest (suc i) y at = rest i y at

    by : (b : Bool) → p x ≡ b
        → ((place x : ℕ) × (slice_get xs place ≡ Some x) × (p x ≡ true)
        × ((i y : ℕ) → i < place → slice_get xs i ≡ Some y → p y ≡ false))
        ⊎ ((i y : ℕ) → slice_get xs i ≡ Some y → p y ≡ false)
        → ((place y : ℕ) × (slice_get (x ∷ xs) place ≡ Some y) × (p y ≡ true)
        × ((i z : ℕ) → i < place → slice_get (x ∷ xs) i ≡ Some z → p z ≡ false))
        ⊎ ((i y : ℕ) → slice_get (x ∷ xs) i ≡ Some y → p y ≡ false)
    by true passes rest = inl (0, x, refl, passes, λ i y low at. absurd (omega (arith, low)))
    by false fails (inl one) = inl (suc one.0, one.1, one.2, one.3, before one.0 fails one.4)
    by false fails (inr rest) = inr (none fails rest)

module _ (v : PlainVolume) where
  -- A JOB IS POSSIBLE where the test says so
  move_free : (kind : JobKind) → is_possible v.division (Some kind) ≡ true → kind ≡ Move
      → nat_lt 0 (count_by is_free (uses_of Sequential v.division)) ≡ true
  move_free Move is move = is
  move_free Empty is move = absurd (let f : ⊥ = cc in f)
  move_free Append is move = absurd (let f : ⊥ = cc in f)
  move_free Merge is move = absurd (let f : ⊥ = cc in f)

  possible_there : (chunk : ℕ) → chunk < v.head.layout.chunks → is_possible v.division (kind_on v chunk) ≡ true
      → (kind : JobKind) × IsPossible v chunk kind
  possible_there chunk there is = by (kind_on v chunk) refl is
    where
      by : (o : Option JobKind) → kind_on v chunk ≡ o → is_possible v.division o ≡ true
          → (kind : JobKind) × IsPossible v chunk kind
      by None on is = absurd (false≢true is)
      by (Some kind) on is = (
        kind,
        record {
          there = there;
          is_kind = on;
          free = λ move. free_counts v.division (count_by is_free (uses_of Sequential v.division)) refl
              (move_free kind is move);
        },
      )

  possible_kind : (kind : JobKind) → (kind ≡ Move → nat_lt 0 (count_by is_free (uses_of Sequential v.division)) ≡ true)
      → is_possible v.division (Some kind) ≡ true
  possible_kind Move free = free refl
  possible_kind Empty free = refl
  possible_kind Append free = refl
  possible_kind Merge free = refl

  there_possible : (chunk : ℕ) (kind : JobKind) → IsPossible v chunk kind
      → is_possible v.division (kind_on v chunk) ≡ true
  there_possible chunk kind is =
      ap (is_possible v.division) is.is_kind
      ∙ possible_kind kind (λ move. counts_free v.division (count_by is_free (uses_of Sequential v.division)) refl
      (is.free move))

  -- behind the last chunk nothing is named, and no job is there
  inside : (chunk : ℕ) (kind : JobKind) → kind_on v chunk ≡ Some kind → chunk < v.head.layout.chunks
  inside chunk kind on = elim (cases_lt chunk v.head.layout.chunks) [
    | inl low ↦ low
    | inr past ↦
        let none = entry_past v.geometry v.head.layout v.fresh chunk past in
        absurd (none-some kind (sym (ap (λ (e : MapEntry). kind_by v.geometry v.pointers (tables_now v) e.zone e.buffer) none) ∙ on))
  ]

  -- A TEST of the kind of job on a chunk, which tells on which of them there is such a job
  module _ (fixed : IsFixed v) (Such : Job → Type 0) (such : ℕ → JobKind → Bool)
      (tells : (job : Job) → Decides (such job.chunk job.kind) (Such job)) where
    abbrev test_by : ℕ → Option JobKind → Bool
    test_by chunk None = false
    test_by chunk (Some kind) = such chunk kind && is_possible v.division (Some kind)

    abbrev test : ℕ → Bool
    test chunk = test_by chunk (kind_on v chunk)

    passes : (chunk : ℕ) → test chunk ≡ true
        → (kind : JobKind) × IsPossible v chunk kind × Such (record { kind = kind; chunk = chunk })
    passes chunk is = by (kind_on v chunk) refl is
      where
        by : (o : Option JobKind) → kind_on v chunk ≡ o → test_by chunk o ≡ true
            → (kind : JobKind) × IsPossible v chunk kind × Such (record { kind = kind; chunk = chunk })
        by None on is = absurd (false≢true is)
        by (Some kind) on is =
            let both = and_parts (such chunk kind) (is_possible v.division (Some kind)) is in
            let there = inside chunk kind on in
            let possible = possible_there chunk there (ap (is_possible v.division) on ∙ both.1) in (
              kind,
              subst (λ (k : JobKind). IsPossible v chunk k) (same_Some possible.0 kind (sym possible.1.is_kind ∙ on))
                  possible.1,
              (tells (record { kind = kind; chunk = chunk })).0 both.0,
            )

    only : (job : Job) → IsPossible v job.chunk job.kind → Such job → test job.chunk ≡ true
    only job possible is =
        ap (test_by job.chunk) possible.is_kind
        ∙ and_from (such job.chunk job.kind) (is_possible v.division (Some job.kind)) ((tells job).1 is)
        (sym (ap (is_possible v.division) possible.is_kind) ∙ there_possible job.chunk job.kind possible)

    first_or_none : ((job : Job) × IsFirstJob v Such job) ⊎ HasNoJob v Such
    first_or_none = elim (first_or_not test v.division.order) [
      | inl one ↦
          let job = passes one.1 one.3 in
          inl (
            record { kind = job.0; chunk = one.1 },
            record {
              possible = job.1;
              such = job.2;
              place = one.0;
              there = one.2;
              first = λ before other low stands possible is.
                  false≢true (sym (one.4 before other.chunk low stands) ∙ only other possible is);
            },
          )
      | inr none ↦ inr (λ job possible is.
          (let there = possible.there in
          let size = fixed.uses.order in
          let at = stands_at v.division.order v.standings.numbers job.chunk fixed.candidates.in_order
          (omega (arith, there, size)) in
          false≢true (sym (none at.0 job.chunk at.1) ∙ only job possible is)))
    ]

  -- the chunk stands on a conventional zone
  abbrev on_conventional : Option ℕ → Bool
  on_conventional None = false
  on_conventional (Some z) = nat_lt z v.geometry.conv

  conventional_decides : (o : Option ℕ) → Decides (on_conventional o) ((z : ℕ) × (o ≡ Some z) × (z < v.geometry.conv))
  conventional_decides None = (λ is. absurd (false≢true is), λ is. absurd (none_some is.0 is.1))
  conventional_decides (Some z) = (
    λ is. (z, refl, ltb-true z v.geometry.conv is),
    λ is. (let low = is.2 in let same = some_is z is.0 is.1 in lt-ltb z v.geometry.conv (omega (arith, low, same))),
  )

  abbrev gives : ℕ → JobKind → Bool
  gives chunk Append = true
  gives chunk Move = true
  gives chunk Empty = on_conventional (entry_of (tables_now v) chunk).zone
  gives chunk Merge = false

  gives_decides : (chunk : ℕ) (kind : JobKind) → Decides (gives chunk kind) (GivesConventional v kind chunk)
  gives_decides chunk Append = (λ _. tt, λ _. refl)
  gives_decides chunk Move = (λ _. tt, λ _. refl)
  gives_decides chunk Empty = conventional_decides (entry_of (tables_now v) chunk).zone
  gives_decides chunk Merge = (λ is. absurd (false≢true is), λ none. absurd none)

  abbrev merges : JobKind → Bool
  merges Merge = true
  merges Append = false
  merges Move = false
  merges Empty = false

  merges_decides : (kind : JobKind) → Decides (merges kind) (kind ≡ Merge)
  merges_decides Merge = (λ _. refl, λ _. refl)
  merges_decides Append = (λ is. absurd (false≢true is), λ is. absurd (let f : ⊥ = cc in f))
  merges_decides Move = (λ is. absurd (false≢true is), λ is. absurd (let f : ⊥ = cc in f))
  merges_decides Empty = (λ is. absurd (false≢true is), λ is. absurd (let f : ⊥ = cc in f))

  abbrev empties : JobKind → Bool
  empties Empty = true
  empties Append = false
  empties Move = false
  empties Merge = false

  empties_decides : (kind : JobKind) → Decides (empties kind) (kind ≡ Empty)
  empties_decides Empty = (λ _. refl, λ _. refl)
  empties_decides Append = (λ is. absurd (false≢true is), λ is. absurd (let f : ⊥ = cc in f))
  empties_decides Move = (λ is. absurd (false≢true is), λ is. absurd (let f : ⊥ = cc in f))
  empties_decides Merge = (λ is. absurd (false≢true is), λ is. absurd (let f : ⊥ = cc in f))

  module _ (fixed : IsFixed v) where
    none_left : (chunk : ℕ) (kind : JobKind) → IsPossible v chunk kind → HasNoJob v (IsGiving v)
        → HasNoJob v IsMerge → HasNoJob v IsEmpty → ⊥
    none_left chunk Append is giving merging emptying = giving (record { kind = Append; chunk = chunk }) is tt
    none_left chunk Move is giving merging emptying = giving (record { kind = Move; chunk = chunk }) is tt
    none_left chunk Merge is giving merging emptying = merging (record { kind = Merge; chunk = chunk }) is refl
    none_left chunk Empty is giving merging emptying = emptying (record { kind = Empty; chunk = chunk }) is refl

    -- SOME JOB IS PICKED where one is possible
    pub job_picked : has_job v ≡ true → (job : Job) × IsPick v (Some job)
    job_picked has =
        let at = any_below (λ chunk. is_possible v.division (kind_on v chunk)) 0 v.head.layout.chunks has in
        let low = at.1 in
        let one = possible_there at.0 (omega (arith, low)) at.2 in
        elim (first_or_none fixed (IsGiving v) gives (λ job. gives_decides job.chunk job.kind)) [
          | inl first ↦ (first.0, inl first.1)
          | inr giving ↦ elim (first_or_none fixed IsMerge (λ _ kind. merges kind) (λ job. merges_decides job.kind)) [
            | inl first ↦ (first.0, inr (inl (giving, first.1)))
            | inr merging ↦ elim (first_or_none fixed IsEmpty (λ _ kind. empties kind) (λ job. empties_decides job.kind)) [
              | inl first ↦ (first.0, inr (inr (giving, merging, first.1)))
              | inr emptying ↦ absurd (none_left at.0 one.0 one.1 giving merging emptying)
            ]
          ]
        ]

    pub possible_has : (chunk : ℕ) (kind : JobKind) → IsPossible v chunk kind → has_job v ≡ true
    possible_has chunk kind is =
        below_any (λ c. is_possible v.division (kind_on v c)) v.head.layout.chunks chunk is.there
        (there_possible chunk kind is)

    -- and only there
    pub picked_has : (job : Job) → IsPick v (Some job) → has_job v ≡ true
    picked_has job (inl first) = possible_has job.chunk job.kind first.possible
    picked_has job (inr (inl first)) = possible_has job.chunk job.kind first.1.possible
    picked_has job (inr (inr first)) = possible_has job.chunk job.kind first.2.possible
