-- The job that is possible on a chunk, by its class.
use Rattle.std.proofs.Common.{◌≡◌, ℕ, ◌<◌, Bool, true, false, Option, Some, None, refl, sym, ap, ◌∙◌}
use Rattle.std.specs.Option.{is_some}
use Rattle.zd_alloc.specs.Candidates.{Standings, class_of}
use Rattle.zd_alloc.specs.declared.job_class.JobClass.{JobClass}
use Rattle.zd_alloc.specs.declared.job_class.JobClass.TheVariants as classes
use Rattle.zd_model.specs.Tables.{entry_of}
use Rattle.zd_model.specs.declared.metadata.MapEntry.{MapEntry}
use Rattle.zd_volume.specs.Flights.{tables_now}
use Rattle.zd_volume.specs.Jobs.{class_in}
use Rattle.zd_volume.specs.Volumes.{IsFixed, PlainVolume}
use Rattle.zd_volume.specs.declared.work.JobKind.{JobKind}
use Rattle.zd_volume.specs.declared.work.JobKind.TheVariants.{Move}
use Rattle.zd_jobs.specs.Possible.{HasFreeSequential, IsPossible}
use Rattle.zd_reclaim.specs.Picks.{kind_of_class}
use Rattle.zd_reclaim.proofs.ClassKinds.{class_kind, no_kind, some_same}

move_class : (class : JobClass) (buffered : Bool) → kind_of_class class buffered ≡ Move → class ≡ classes.Move
move_class classes.Append true is = absurd (let f : ⊥ = cc in f)
move_class classes.Append false is = absurd (let f : ⊥ = cc in f)
move_class classes.Move buffered is = refl
move_class classes.Merge buffered is = absurd (let f : ⊥ = cc in f)
move_class classes.Empty buffered is = absurd (let f : ⊥ = cc in f)

none_is_some : (kind : JobKind) → ◌≡◌ {A = Option JobKind} None (Some kind) → ⊥
none_is_some kind is = cc

module _ (v : PlainVolume) (fixed : IsFixed v) (chunk : ℕ) (there : chunk < v.head.layout.chunks) (s : Standings)
    (standings : s ≡ v.standings) where
  class_is : (o : Option JobClass) → class_of s.classes chunk ≡ o
      → class_in v.geometry v.pointers (tables_now v) chunk ≡ o
  class_is o is =
      sym (fixed.candidates.each chunk there)
      ∙ ap (λ (t : Standings). class_of t.classes chunk) (sym standings) ∙ is

  -- A CHUNK WITHOUT A CLASS has no job
  pub none_possible : class_of s.classes chunk ≡ None → (kind : JobKind) → IsPossible v chunk kind → ⊥
  none_possible is kind possible = none_is_some kind (sym (no_kind v chunk (class_is None is)) ∙ possible.is_kind)

  -- ONE WHOSE MOVE HAS NO TARGET has none
  pub none_without : (class : JobClass) → class_of s.classes chunk ≡ Some class
      → ((class ≡ classes.Move → HasFreeSequential v.division) → ⊥) → (kind : JobKind) → IsPossible v chunk kind → ⊥
  none_without class is closed kind possible = closed (λ move.
      let buffered = is_some (entry_of (tables_now v) chunk).buffer in
      let same : kind_of_class class buffered ≡ kind =
      some_same (kind_of_class class buffered) kind
      (sym (class_kind v chunk class (class_is (Some class) is)) ∙ possible.is_kind) in
      possible.free (sym same ∙ ap (λ (c : JobClass). kind_of_class c buffered) move))

  -- THE JOB of a chunk's class
  pub possible_by : (class : JobClass) (e : MapEntry) → class_of s.classes chunk ≡ Some class
      → (class ≡ classes.Move → HasFreeSequential v.division) → e ≡ entry_of (tables_now v) chunk
      → IsPossible v chunk (kind_of_class class (is_some e.buffer))
  possible_by class e is open' entry = record {
    there = there;
    is_kind =
        class_kind v chunk class (class_is (Some class) is)
        ∙ ap (λ (m : MapEntry). Some (kind_of_class class (is_some m.buffer))) (sym entry);
    free = λ move. open' (move_class class (is_some e.buffer) move);
  }
