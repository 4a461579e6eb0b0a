-- What is so of the chunk on which a job is possible: its entry fits the job; where an Empty is possible its zone has
-- no valid block, and where an Append is, its buffer has none below the zone's pointer.
use Rattle.std.proofs.Common.{◌≡◌, ◌⊎◌, ℕ, zero, suc, ◌+◌, ◌<◌, ◌≤◌, Bool, true, false, cond, List, Option, Some, None}
use Rattle.std.proofs.Common.{inl, inr, refl, sym, ap, ap₂, ◌∙◌, subst, arith}
use Rattle.std.proofs.lemmas.Bool.{cases_eq, leb-true, ltb-true}
use Rattle.std.specs.List.{find, range_with_len}
use Rattle.std.specs.Prelude.{nat_le, nat_lt, slice_index}
use Rattle.zd_base.specs.Geometry.{Shape}
use Rattle.zd_model.specs.Tables.{Tables, entry_of, is_valid}
use Rattle.zd_model.specs.declared.metadata.MapEntry.{MapEntry}
use Rattle.zd_model.proofs.FaultLaws.{none_some, some_is}
use Rattle.zd_tables.specs.Held.{first_valid_block}
use Rattle.zd_volume.specs.Flights.{tables_now}
use Rattle.zd_volume.specs.Jobs.{FitsEntry}
use Rattle.zd_volume.specs.Volumes.{PlainVolume}
use Rattle.zd_volume.specs.declared.work.JobKind.{JobKind}
use Rattle.zd_volume.specs.declared.work.JobKind.TheVariants.{Empty, Move, Append, Merge}
use Rattle.zd_jobs.specs.Possible.{IsPossible, kind_alone, kind_buffered, kind_by}

-- the first number passes and is found, or fails and the rest decides
first_or_rest : (p : ℕ → Bool) (a n : ℕ) (o : Option ℕ) → find p (range_with_len a (suc n)) ≡ o
    → ((p a ≡ true) × (o ≡ Some a)) ⊎ ((p a ≡ false) × (find p (range_with_len (a + 1) n) ≡ o))
first_or_rest p a n o found = by (p a) refl found
  where
    by : (b : Bool) → p a ≡ b → cond b (Some a) (find p (range_with_len (a + 1) n)) ≡ o
        → ((p a ≡ true) × (o ≡ Some a)) ⊎ ((p a ≡ false) × (find p (range_with_len (a + 1) n) ≡ o))
    by true is found = inl (is, sym found)
    by false is found = inr (is, found)

-- NOTHING IS FOUND: no number passes the test
pub unfound : (p : ℕ → Bool) (a n x : ℕ) → find p (range_with_len a n) ≡ None → a ≤ x → x < a + n → p x ≡ false
unfound p a zero x none low high = absurd (let f : ⊥ = omega (arith, low, high) in f)
unfound p a (suc n) x none low high = elim (first_or_rest p a n None none) [
  | inl passes ↦ absurd (none_some a passes.1)
  | inr fails ↦ elim (cases_eq x a) [
    | inl here ↦ ap p here ∙ fails.0
    | inr off ↦ unfound p (a + 1) n x fails.1 (omega (arith, low, off)) (omega (arith, high))
  ]
]

-- ONE IS FOUND: none before it passes
pub before_found : (p : ℕ → Bool) (a n at x : ℕ) → find p (range_with_len a n) ≡ Some at → a ≤ x → x < at
    → p x ≡ false
before_found p a zero at x found low high = absurd (none_some at found)
before_found p a (suc n) at x found low high = elim (first_or_rest p a n (Some at) found) [
  | inl passes ↦
      absurd (let same = some_is at a passes.1 in let f : ⊥ = omega (arith, same, low, high) in f)
  | inr fails ↦ elim (cases_eq x a) [
    | inl here ↦ ap p here ∙ fails.0
    | inr off ↦ before_found p (a + 1) n at x fails.1 (omega (arith, low, off)) high
  ]
]

-- it passes, and is one of the numbers
pub found_passes : (p : ℕ → Bool) (a n at : ℕ) → find p (range_with_len a n) ≡ Some at
    → (p at ≡ true) × (a ≤ at) × (at < a + n)
found_passes p a zero at found = absurd (none_some at found)
found_passes p a (suc n) at found = elim (first_or_rest p a n (Some at) found) [
  | inl passes ↦
      let same = some_is at a passes.1 in
      (ap p same ∙ passes.0, omega (arith, same), omega (arith, same))
  | inr fails ↦
      let rest = found_passes p (a + 1) n at fails.1 in
      let low = rest.1 in
      let high = rest.2 in
      (rest.0, omega (arith, low), omega (arith, high))
]

some_kind : (one other : JobKind) → ◌≡◌ {A = Option JobKind} (Some one) (Some other) → one ≡ other
some_kind one other is = cc

no_kind : (kind : JobKind) → ◌≡◌ {A = Option JobKind} None (Some kind) → ⊥
no_kind kind is = cc

module _ (g : Shape) where
  -- THE ENTRY FITS where a chunk is alone in its zone
  fits_alone : (z : ℕ) (conventional : Bool) (first : Option ℕ) (kind : JobKind) → nat_lt z g.conv ≡ conventional
      → kind_alone conventional first ≡ Some kind → FitsEntry g kind (record { zone = Some z; buffer = None })
  fits_alone z conventional None kind low is =
      subst (λ (k : JobKind). FitsEntry g k (record { zone = Some z; buffer = None })) (some_kind Empty kind is)
      ((λ none. none_some z (sym none)), refl)
  fits_alone z true (Some x) kind low is =
      subst (λ (k : JobKind). FitsEntry g k (record { zone = Some z; buffer = None })) (some_kind Move kind is)
      ((z, refl, ltb-true z g.conv low), refl)
  fits_alone z false (Some x) kind low is = absurd (no_kind kind is)

  both_named : (z b : ℕ) (first : Option ℕ) (pointer : ℕ)
      → FitsEntry g (kind_buffered first pointer) (record { zone = Some z; buffer = Some b })
  both_named z b None pointer = ((λ none. none_some z (sym none)), (λ none. none_some b (sym none)))
  both_named z b (Some x) pointer = by (nat_le pointer x)
    where
      by : (c : Bool) → FitsEntry g (cond c Append Merge) (record { zone = Some z; buffer = Some b })
      by true = ((λ none. none_some z (sym none)), (λ none. none_some b (sym none)))
      by false = ((λ none. none_some z (sym none)), (λ none. none_some b (sym none)))

  fits_by : (pointers : List ℕ) (t : Tables) (zone buffer : Option ℕ) (kind : JobKind)
      → kind_by g pointers t zone buffer ≡ Some kind → FitsEntry g kind (record { zone = zone; buffer = buffer })
  fits_by pointers t None buffer kind is = absurd (no_kind kind is)
  fits_by pointers t (Some z) None kind is =
      fits_alone z (nat_lt z g.conv) (first_valid_block g.zone_blocks t z) kind refl is
  fits_by pointers t (Some z) (Some b) kind is =
      subst (λ (k : JobKind). FitsEntry g k (record { zone = Some z; buffer = Some b }))
      (some_kind (kind_buffered (first_valid_block g.zone_blocks t b) (slice_index pointers z)) kind is)
      (both_named z b (first_valid_block g.zone_blocks t b) (slice_index pointers z))

-- an Append: nothing is found before the pointer
append_first : (first : Option ℕ) (pointer : ℕ) → kind_buffered first pointer ≡ Append
    → (first ≡ None) ⊎ ((x : ℕ) × (first ≡ Some x) × (pointer ≤ x))
append_first None pointer is = inl refl
append_first (Some x) pointer is = inr (x, refl, by (nat_le pointer x) refl is)
  where
    by : (c : Bool) → nat_le pointer x ≡ c → cond c Append Merge ≡ Append → pointer ≤ x
    by true low is = leb-true pointer x low
    by false low is = absurd (let f : ⊥ = cc in f)

-- an Empty: nothing is found
empty_first : (conventional : Bool) (first : Option ℕ) → kind_alone conventional first ≡ Some Empty → first ≡ None
empty_first conventional None is = refl
empty_first true (Some x) is = absurd (let no : Move ≡ Empty = some_kind Move Empty is in let f : ⊥ = cc in f)
empty_first false (Some x) is = absurd (no_kind Empty is)

no_empty : (first : Option ℕ) (pointer : ℕ) → kind_buffered first pointer ≡ Empty → ⊥
no_empty None pointer is = cc
no_empty (Some x) pointer is = by (nat_le pointer x) is
  where
    by : (c : Bool) → cond c Append Merge ≡ Empty → ⊥
    by true is = cc
    by false is = cc

module _ (v : PlainVolume) (chunk : ℕ) (kind : JobKind) (possible : IsPossible v chunk kind) where
  abbrev e : MapEntry
  e = entry_of (tables_now v) chunk

  pub possible_fits : FitsEntry v.geometry kind (entry_of (tables_now v) chunk)
  possible_fits = fits_by v.geometry v.pointers (tables_now v) e.zone e.buffer kind possible.is_kind

  -- THE BUFFER of an Append has no valid block below the zone's pointer
  pub append_bare : (z b x : ℕ) → kind ≡ Append → (entry_of (tables_now v) chunk).zone ≡ Some z
      → (entry_of (tables_now v) chunk).buffer ≡ Some b → x < v.geometry.zone_blocks
      → x < slice_index v.pointers z → is_valid (tables_now v) b x ≡ false
  append_bare z b x is zone buffer inside low =
      elim (append_first (first_valid_block v.geometry.zone_blocks (tables_now v) b) (slice_index v.pointers z)
      (some_kind (kind_buffered (first_valid_block v.geometry.zone_blocks (tables_now v) b) (slice_index v.pointers z))
      Append
      (sym (ap₂ (kind_by v.geometry v.pointers (tables_now v)) zone buffer) ∙ possible.is_kind
      ∙ ap (λ (k : JobKind). Some k) is))) [
        | inl none ↦
            unfound (is_valid (tables_now v) b) 0 v.geometry.zone_blocks x none (omega arith) (omega (arith, inside))
        | inr at ↦
            before_found (is_valid (tables_now v) b) 0 v.geometry.zone_blocks at.0 x at.1 (omega arith)
            (omega (arith, low, at.2))
      ]

  -- THE ZONE of an Empty has none at all
  pub empty_bare : (z x : ℕ) → kind ≡ Empty → (entry_of (tables_now v) chunk).zone ≡ Some z
      → x < v.geometry.zone_blocks → is_valid (tables_now v) z x ≡ false
  empty_bare z x is zone inside = by e.buffer refl
    where
      known : (buffer : Option ℕ) → (entry_of (tables_now v) chunk).buffer ≡ buffer
          → kind_by v.geometry v.pointers (tables_now v) (Some z) buffer ≡ Some Empty
      known buffer at =
          sym (ap₂ (kind_by v.geometry v.pointers (tables_now v)) zone at) ∙ possible.is_kind
          ∙ ap (λ (k : JobKind). Some k) is

      by : (buffer : Option ℕ) → (entry_of (tables_now v) chunk).buffer ≡ buffer → is_valid (tables_now v) z x ≡ false
      by None at =
          unfound (is_valid (tables_now v) z) 0 v.geometry.zone_blocks x
          (empty_first (nat_lt z v.geometry.conv) (first_valid_block v.geometry.zone_blocks (tables_now v) z)
          (known None at)) (omega arith) (omega (arith, inside))
      by (Some b) at =
          absurd (no_empty (first_valid_block v.geometry.zone_blocks (tables_now v) b) (slice_index v.pointers z)
          (some_kind (kind_buffered (first_valid_block v.geometry.zone_blocks (tables_now v) b)
          (slice_index v.pointers z)) Empty (known (Some b) at)))
