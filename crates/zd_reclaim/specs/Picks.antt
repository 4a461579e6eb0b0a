-- Which job is picked.
use Rattle.std.specs.Prelude.{◌≡◌, ◌⊎◌, ℕ, ◌<◌, Bool, true, false, slice_get, Option, Some, None, ⊤}
use Rattle.zd_alloc.specs.declared.job_class.JobClass.{JobClass}
use Rattle.zd_alloc.specs.declared.job_class.JobClass.TheVariants as classes
use Rattle.zd_model.specs.Tables.{entry_of}
use Rattle.zd_volume.specs.Flights.{tables_now}
use Rattle.zd_volume.specs.Volumes.{PlainVolume}
use Rattle.zd_volume.specs.declared.work.Job.{Job}
use Rattle.zd_volume.specs.declared.work.JobKind.{JobKind}
use Rattle.zd_volume.specs.declared.work.JobKind.TheVariants.{Empty, Move, Append, Merge}
use Rattle.zd_jobs.specs.Possible.{IsPossible}

-- what the class of a chunk, which is buffered or not, says of the job there
abbrev pub kind_of_class : JobClass → Bool → JobKind
kind_of_class classes.Append true = Append
kind_of_class classes.Append false = Empty
kind_of_class classes.Move buffered = Move
kind_of_class classes.Merge buffered = Merge
kind_of_class classes.Empty buffered = Empty

-- the chunk stands on a conventional zone
abbrev pub IsOnConventional : PlainVolume → ℕ → Type 0
IsOnConventional v chunk = (z : ℕ) × ((entry_of (tables_now v) chunk).zone ≡ Some z) × (z < v.geometry.conv)

-- a job gives a conventional zone back: the buffer of an Append, the zone of a Move, and that of an Empty where it is
-- conventional
abbrev pub GivesConventional : PlainVolume → JobKind → ℕ → Type 0
GivesConventional v Append chunk = ⊤
GivesConventional v Move chunk = ⊤
GivesConventional v Empty chunk = IsOnConventional v chunk
GivesConventional v Merge chunk = ⊥

-- the turns in which jobs are picked: those that give a conventional zone back, Merges, Empties
abbrev pub IsGiving : PlainVolume → Job → Type 0
IsGiving v job = GivesConventional v job.kind job.chunk

abbrev pub IsMerge : Job → Type 0
IsMerge job = job.kind ≡ Merge

abbrev pub IsEmpty : Job → Type 0
IsEmpty job = job.kind ≡ Empty

-- of the possible jobs that are such, this is the one whose chunk comes first in the use order: of the chunks before it
-- none has such a job
pub record IsFirstJob (v : PlainVolume) (Such : Job → Type 0) (job : Job) : Type 0 where
  pub possible : IsPossible v job.chunk job.kind
  pub such : Such job
  pub place : ℕ
  pub there : slice_get v.division.order place ≡ Some job.chunk
  pub first : (before : ℕ) (other : Job) → before < place →
      slice_get v.division.order before ≡ Some other.chunk → IsPossible v other.chunk other.kind → Such other → ⊥

-- no job that is possible is such
abbrev pub HasNoJob : PlainVolume → (Job → Type 0) → Type 0
HasNoJob v Such = (job : Job) → IsPossible v job.chunk job.kind → Such job → ⊥

-- THE JOB THAT IS PICKED: the first that gives a conventional zone back; where there is none, the first Merge; where
-- there is none, the first Empty; none where no job is possible
abbrev pub IsPick : PlainVolume → Option Job → Type 0
IsPick v None = (job : Job) → IsPossible v job.chunk job.kind → ⊥
IsPick v (Some job) =
    IsFirstJob v (IsGiving v) job
    ⊎ (HasNoJob v (IsGiving v) × IsFirstJob v IsMerge job)
    ⊎ (HasNoJob v (IsGiving v) × HasNoJob v IsMerge × IsFirstJob v IsEmpty job)
