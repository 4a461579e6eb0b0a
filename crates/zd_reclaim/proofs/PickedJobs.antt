-- The job that is picked, by the index of candidates.
use Rattle.std.proofs.Common.{◌≡◌, inl, inr, ℕ, ◌<◌, Bool, true, false, length, Option, Some, None, IfNone, IfSome, refl, sym, ap, ap₂, ◌∙◌, subst}
use Rattle.std.proofs.lemmas.Bool.{false≢true, or_cases, or_left, or_right}
use Rattle.std.specs.Option.{is_some}
use Rattle.zd_alloc.specs.Candidates.{IsOldestSuch, Standings, class_of, has_class, has_either, is_class}
use Rattle.zd_alloc.specs.declared.job_class.JobClass.{JobClass}
use Rattle.zd_alloc.specs.declared.job_class.JobClass.TheVariants as classes
use Rattle.zd_model.specs.Tables.{entry_of}
use Rattle.zd_volume.specs.Flights.{tables_now}
use Rattle.zd_volume.specs.Jobs.{class_in}
use Rattle.zd_volume.specs.Volumes.{IsFixed, PlainVolume}
use Rattle.zd_volume.specs.declared.work.Job.{Job}
use Rattle.zd_volume.specs.declared.work.JobKind.{JobKind}
use Rattle.zd_volume.specs.declared.work.JobKind.TheVariants.{Empty, Move, Append, Merge}
use Rattle.zd_jobs.specs.Possible.{HasFreeSequential, IsPossible}
use Rattle.zd_reclaim.specs.Picks.{GivesConventional, HasNoJob, IsEmpty, IsFirstJob, IsGiving, IsMerge, IsPick, kind_of_class}
use Rattle.zd_reclaim.proofs.ClassKinds.{append_gives, class_kind, empty_class, giving_class, merge_class, some_same}
use Rattle.zd_reclaim.proofs.FirstJobs.{job_found, none_found}

-- the test of a class
class_passes : (class : JobClass) (o : Option JobClass) → is_class class o ≡ true → o ≡ Some class
class_passes classes.Append (Some classes.Append) is = refl
class_passes classes.Move (Some classes.Move) is = refl
class_passes classes.Merge (Some classes.Merge) is = refl
class_passes classes.Empty (Some classes.Empty) is = refl
class_passes classes.Append None is = absurd (false≢true is)
class_passes classes.Append (Some classes.Move) is = absurd (false≢true is)
class_passes classes.Append (Some classes.Merge) is = absurd (false≢true is)
class_passes classes.Append (Some classes.Empty) is = absurd (false≢true is)
class_passes classes.Move None is = absurd (false≢true is)
class_passes classes.Move (Some classes.Append) is = absurd (false≢true is)
class_passes classes.Move (Some classes.Merge) is = absurd (false≢true is)
class_passes classes.Move (Some classes.Empty) is = absurd (false≢true is)
class_passes classes.Merge None is = absurd (false≢true is)
class_passes classes.Merge (Some classes.Append) is = absurd (false≢true is)
class_passes classes.Merge (Some classes.Move) is = absurd (false≢true is)
class_passes classes.Merge (Some classes.Empty) is = absurd (false≢true is)
class_passes classes.Empty None is = absurd (false≢true is)
class_passes classes.Empty (Some classes.Append) is = absurd (false≢true is)
class_passes classes.Empty (Some classes.Move) is = absurd (false≢true is)
class_passes classes.Empty (Some classes.Merge) is = absurd (false≢true is)

passes_class : (class : JobClass) → is_class class (Some class) ≡ true
passes_class classes.Append = refl
passes_class classes.Move = refl
passes_class classes.Merge = refl
passes_class classes.Empty = refl

append_isnt_move : (buffered : Bool) → kind_of_class classes.Append buffered ≡ Move → ⊥
append_isnt_move true is = cc
append_isnt_move false is = cc

abbrev of : JobKind → ℕ → Job
of kind chunk = record { kind = kind; chunk = chunk }

-- tests of chunks, by the index
abbrev pub class_test : JobClass → Standings → ℕ → Bool
class_test class s = has_class s.classes class

abbrev pub either_in : Standings → ℕ → Bool
either_in s = has_either s.classes classes.Append classes.Move

-- what the index finds
abbrev pub IsOldest : (Standings → ℕ → Bool) → Option ℕ → Standings → Type 0
IsOldest test found s = IsOldestSuch (test s) s.numbers found × IfSome found (λ c. c < length s.classes)

abbrev some_kind : JobKind → Option JobKind
some_kind kind = Some kind

module _ (v : PlainVolume) (fixed : IsFixed v) where
  -- the test of the index tells the class of a chunk
  has_is : (class : JobClass) (c : ℕ) → c < v.head.layout.chunks → has_class v.standings.classes class c ≡ true
      → class_in v.geometry v.pointers (tables_now v) c ≡ Some class
  has_is class c low passes =
      sym (fixed.candidates.each c low) ∙ class_passes class (class_of v.standings.classes c) passes

  is_has : (class : JobClass) (c : ℕ) → c < v.head.layout.chunks
      → class_in v.geometry v.pointers (tables_now v) c ≡ Some class → has_class v.standings.classes class c ≡ true
  is_has class c low is =
      ap (is_class class) (fixed.candidates.each c low ∙ is) ∙ passes_class class

  -- THE FIRST TURN
  append_job : (c : ℕ) → c < v.head.layout.chunks → has_class v.standings.classes classes.Append c ≡ true
      → (kind : JobKind) × IsPossible v c kind × IsGiving v (of kind c)
  append_job c low passes =
      let class = has_is classes.Append c low passes in
      let buffered = is_some (entry_of (tables_now v) c).buffer in (
        kind_of_class classes.Append buffered,
        record {
          there = low;
          is_kind = class_kind v c classes.Append class;
          free = λ move. absurd (append_isnt_move buffered move);
        },
        append_gives v c class,
      )

  move_job : HasFreeSequential v.division → (c : ℕ) → c < v.head.layout.chunks
      → has_class v.standings.classes classes.Move c ≡ true
      → (kind : JobKind) × IsPossible v c kind × IsGiving v (of kind c)
  move_job free c low passes = (
    Move,
    record {
      there = low;
      is_kind = class_kind v c classes.Move (has_is classes.Move c low passes);
      free = λ _. free;
    },
    tt,
  )

  either_job : HasFreeSequential v.division → (c : ℕ) → c < v.head.layout.chunks
      → has_either v.standings.classes classes.Append classes.Move c ≡ true
      → (kind : JobKind) × IsPossible v c kind × IsGiving v (of kind c)
  either_job free c low passes =
      elim (or_cases (has_class v.standings.classes classes.Append c) (has_class v.standings.classes classes.Move c)
      passes) [
        | inl append ↦ append_job c low append
        | inr move ↦ move_job free c low move
      ]

  only_either : (job : Job) → IsPossible v job.chunk job.kind → IsGiving v job
      → has_either v.standings.classes classes.Append classes.Move job.chunk ≡ true
  only_either job possible gives = elim (giving_class v job.chunk job.kind possible.is_kind gives) [
    | inl class ↦ or_left (has_class v.standings.classes classes.Append job.chunk)
        (has_class v.standings.classes classes.Move job.chunk) (is_has classes.Append job.chunk possible.there class)
    | inr move ↦ or_right (has_class v.standings.classes classes.Append job.chunk)
        (has_class v.standings.classes classes.Move job.chunk) (is_has classes.Move job.chunk possible.there move.1)
  ]

  only_append : (HasFreeSequential v.division → ⊥) → (job : Job) → IsPossible v job.chunk job.kind → IsGiving v job
      → has_class v.standings.classes classes.Append job.chunk ≡ true
  only_append none job possible gives = elim (giving_class v job.chunk job.kind possible.is_kind gives) [
    | inl class ↦ is_has classes.Append job.chunk possible.there class
    | inr move ↦ absurd (none (possible.free move.0))
  ]

  pub giving_found : (s : Standings) (found : Option ℕ) → s ≡ v.standings → HasFreeSequential v.division
      → IsOldest either_in found s
      → IfSome found (λ c. (kind : JobKind) × IsFirstJob v (IsGiving v) (record { kind = kind; chunk = c }))
  giving_found s found is free oldest =
      let now = subst (IsOldest either_in found) is oldest in
      job_found v fixed (IsGiving v) (either_in v.standings) only_either (either_job free) found now.0 now.1

  pub none_giving : (s : Standings) (found : Option ℕ) → s ≡ v.standings → HasFreeSequential v.division
      → IsOldest either_in found s → IfNone found (HasNoJob v (IsGiving v))
  none_giving s found is free oldest =
      let now = subst (IsOldest either_in found) is oldest in
      none_found v fixed (IsGiving v) (either_in v.standings) only_either (either_job free) found now.0

  pub append_found : (s : Standings) (found : Option ℕ) → s ≡ v.standings → (HasFreeSequential v.division → ⊥)
      → IsOldest (class_test classes.Append) found s
      → IfSome found (λ c. (kind : JobKind) × IsFirstJob v (IsGiving v) (record { kind = kind; chunk = c }))
  append_found s found is none oldest =
      let now = subst (IsOldest (class_test classes.Append) found) is oldest in
      job_found v fixed (IsGiving v) (class_test classes.Append v.standings) (only_append none) append_job found
      now.0 now.1

  pub none_append : (s : Standings) (found : Option ℕ) → s ≡ v.standings → (HasFreeSequential v.division → ⊥)
      → IsOldest (class_test classes.Append) found s → IfNone found (HasNoJob v (IsGiving v))
  none_append s found is none oldest =
      let now = subst (IsOldest (class_test classes.Append) found) is oldest in
      none_found v fixed (IsGiving v) (class_test classes.Append v.standings) (only_append none) append_job found
      now.0

  -- the job of the chunk that was found
  pub pick_giving : (chunk : ℕ) (result : Option Job)
      → (kind : JobKind) × IsFirstJob v (IsGiving v) (record { kind = kind; chunk = chunk })
      → IfSome result (λ job. (job.chunk ≡ chunk) × IsPossible v chunk job.kind)
      → IfNone result ((kind : JobKind) → IsPossible v chunk kind → ⊥) → IsPick v result
  pick_giving chunk None first some none = absurd (none first.0 first.1.possible)
  pick_giving chunk (Some job) first some none =
      let kind : first.0 ≡ job.kind = some_same first.0 job.kind (sym first.1.possible.is_kind ∙ some.1.is_kind) in
      let is : of first.0 chunk ≡ job = ap₂ of kind (sym some.0) in
      inl (subst (λ (j : Job). IsFirstJob v (IsGiving v) j) is first.1)

  -- THE SECOND TURN
  merge_job : (c : ℕ) → c < v.head.layout.chunks → has_class v.standings.classes classes.Merge c ≡ true
      → (kind : JobKind) × IsPossible v c kind × IsMerge (of kind c)
  merge_job c low passes = (
    Merge,
    record {
      there = low;
      is_kind = class_kind v c classes.Merge (has_is classes.Merge c low passes);
      free = λ move. absurd (let f : ⊥ = cc in f);
    },
    refl,
  )

  only_merge : (job : Job) → IsPossible v job.chunk job.kind → IsMerge job
      → has_class v.standings.classes classes.Merge job.chunk ≡ true
  only_merge job possible merge =
      is_has classes.Merge job.chunk possible.there
      (merge_class v job.chunk (possible.is_kind ∙ ap some_kind merge))

  pub none_merge : (s : Standings) (found : Option ℕ) → s ≡ v.standings
      → IsOldest (class_test classes.Merge) found s → IfNone found (HasNoJob v IsMerge)
  none_merge s found is oldest =
      let now = subst (IsOldest (class_test classes.Merge) found) is oldest in
      none_found v fixed IsMerge (class_test classes.Merge v.standings) only_merge merge_job found now.0

  pub pick_merge : (s : Standings) (chunk : ℕ) → s ≡ v.standings → HasNoJob v (IsGiving v)
      → IsOldest (class_test classes.Merge) (Some chunk) s → IsPick v (Some (record { kind = Merge; chunk = chunk }))
  pick_merge s chunk is none oldest =
      let now = subst (IsOldest (class_test classes.Merge) (Some chunk)) is oldest in
      let one = job_found v fixed IsMerge (class_test classes.Merge v.standings) only_merge merge_job
      (Some chunk) now.0 now.1 in
      let same : of one.0 chunk ≡ of Merge chunk = ap (λ (k : JobKind). of k chunk) one.1.such in
      inr (inl (none, subst (λ (j : Job). IsFirstJob v IsMerge j) same one.1))

  -- THE THIRD TURN
  module _ (none : HasNoJob v (IsGiving v)) where
    empty_job : (c : ℕ) → c < v.head.layout.chunks → has_class v.standings.classes classes.Empty c ≡ true
        → (kind : JobKind) × IsPossible v c kind × IsEmpty (of kind c)
    empty_job c low passes = (
      Empty,
      record {
        there = low;
        is_kind = class_kind v c classes.Empty (has_is classes.Empty c low passes);
        free = λ move. absurd (let f : ⊥ = cc in f);
      },
      refl,
    )

    only_empty : (job : Job) → IsPossible v job.chunk job.kind → IsEmpty job
        → has_class v.standings.classes classes.Empty job.chunk ≡ true
    only_empty job possible empty = elim (empty_class v job.chunk (possible.is_kind ∙ ap some_kind empty)) [
      | inl class ↦
          let buffered = is_some (entry_of (tables_now v) job.chunk).buffer in
          let same : kind_of_class classes.Append buffered ≡ job.kind =
          some_same (kind_of_class classes.Append buffered) job.kind
          (sym (class_kind v job.chunk classes.Append class) ∙ possible.is_kind) in
          absurd (none job possible
          (subst (λ (k : JobKind). GivesConventional v k job.chunk) same (append_gives v job.chunk class)))
      | inr class ↦ is_has classes.Empty job.chunk possible.there class
    ]

    module _ (no_merge : HasNoJob v IsMerge) where
      pub pick_empty : (s : Standings) (chunk : ℕ) → s ≡ v.standings
          → IsOldest (class_test classes.Empty) (Some chunk) s
          → IsPick v (Some (record { kind = Empty; chunk = chunk }))
      pick_empty s chunk is oldest =
          let now = subst (IsOldest (class_test classes.Empty) (Some chunk)) is oldest in
          let one = job_found v fixed IsEmpty (class_test classes.Empty v.standings) only_empty empty_job
          (Some chunk) now.0 now.1 in
          let same : of one.0 chunk ≡ of Empty chunk = ap (λ (k : JobKind). of k chunk) one.1.such in
          inr (inr (none, no_merge, subst (λ (j : Job). IsFirstJob v IsEmpty j) same one.1))

      -- none is picked: no kind is possible
      no_kind_left : (kind : JobKind) (chunk : ℕ) → HasNoJob v IsEmpty → IsPossible v chunk kind → ⊥
      no_kind_left Append chunk no_empty possible = none (of Append chunk) possible tt
      no_kind_left Move chunk no_empty possible = none (of Move chunk) possible tt
      no_kind_left Merge chunk no_empty possible = no_merge (of Merge chunk) possible refl
      no_kind_left Empty chunk no_empty possible = no_empty (of Empty chunk) possible refl

      pub pick_none : (s : Standings) (found : Option ℕ) → s ≡ v.standings
          → IsOldest (class_test classes.Empty) found s → IfNone found (IsPick v None)
      pick_none s (Some c) is oldest = tt
      pick_none s None is oldest = λ job possible.
          let now = subst (IsOldest (class_test classes.Empty) None) is oldest in
          no_kind_left job.kind job.chunk
          (none_found v fixed IsEmpty (class_test classes.Empty v.standings) only_empty empty_job None now.0)
          possible
