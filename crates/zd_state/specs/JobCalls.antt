-- The calls of the disk that the steps of a job make, and what these steps do beside them.
use Rattle.std.specs.Prelude.{◌≡◌, ℕ, ◌*◌, ◌<◌, List, Result, OnErr, OnOk, slice_index, Some}
use Rattle.zd_base.specs.declared.geometry.Kind.TheVariants.{Sequential}
use Rattle.zd_alloc.specs.Zones.{IsLeastOf}
use Rattle.zd_disk.specs.Steps.{ResetLeaves, ResetStep, WasReset, WriteLeaves, WriteStep, Wrote}
use Rattle.zd_disk.specs.View.{Calls, Fails, Turns, View}
use Rattle.zd_model.specs.Tables.{entry_of}
use Rattle.zd_volume.specs.Flights.{tables_now}
use Rattle.zd_volume.specs.Volumes.{PlainVolume}
use Rattle.zd_volume.specs.declared.work.Job.{Job}
use Rattle.zd_volume.specs.declared.work.JobKind.{JobKind}
use Rattle.zd_volume.specs.declared.work.JobKind.TheVariants.{Move}
use Rattle.zd_volume.specs.declared.work.Work.{Work}
use Rattle.zd_jobs.specs.JobSteps.{BeginsBy, FailsCopyWrite, WritesBlocksOn, WritesCopy}

-- a job of this kind has to reset this zone before it takes it: the least free sequential one, whose pointer isn't at
-- its start
abbrev pub HasToReset : PlainVolume → JobKind → ℕ → Type 0
HasToReset v kind zone = (kind ≡ Move) × IsLeastOf Sequential v.division zone × (0 < slice_index v.pointers zone)

-- ONE RESET of a zone, done or failed
pub record ResetsZone {T E : Type 0} (zone : ℕ) (result : Result T E) (u x : View) : Type 0 where
  pub call : Calls (λ _. ResetStep zone) (λ _ j. ResetLeaves j zone) u x
  pub ok : OnOk result (Turns (WasReset zone) u x)
  pub err : OnErr result (Turns (ResetStep zone) u x)
  pub cause : Fails result u x

-- ONE WRITE of these bytes into a zone from this sector on, done or failed
pub record WritesBytes {T E : Type 0} (zone start : ℕ) (bytes : List ℕ) (result : Result T E) (u x : View) : Type 0
  where
    pub call : Calls (λ r. WriteStep r zone start bytes) (λ r j. WriteLeaves r j zone start bytes) u x
    pub ok : OnOk result (Turns (Wrote zone start bytes) u x)
    pub err : OnErr result (Turns (λ i. WriteStep i zone start bytes i) u x)
    pub cause : Fails result u x

-- what a job takes when it begins, and where it begins to copy
pub record StartsWork (from to : PlainVolume) (job : Job) (w : Work) : Type 0 where
  pub job_is : w.job ≡ job
  pub read : w.read ≡ 0
  pub begins : BeginsBy from job.kind (entry_of (tables_now from) job.chunk) w.target w.copied to.division
  pub rest : to ≡ record from { division = to.division; job = Some w }

-- A COPY: what was read, or zeros into a gap, is written into the target from block `copied` on
pub record CopiesOn {T E : Type 0} (from to : PlainVolume) (w : Work) (result : Result T E) (u x : View) : Type 0 where
  pub zone : ℕ
  pub count : ℕ
  pub bytes : List ℕ
  pub target : w.target ≡ Some zone
  pub copy : WritesCopy from w count bytes
  pub call : WritesBytes zone (8 * w.copied) bytes result u x
  pub ok : OnOk result (WritesBlocksOn from to w zone count)
  pub err : OnErr result (FailsCopyWrite from to)
