-- What the steps of a job make of a volume's values, but for the last one.
use Rattle.std.specs.Prelude.{◌≡◌, ◌⊎◌, ℕ, ◌+◌, ◌*◌, ◌<◌, List, length, slice_index, take, replicate, set}
use Rattle.std.specs.Prelude.{Option, Some, None}
use Rattle.zd_base.specs.declared.geometry.Kind.TheVariants.{Sequential}
use Rattle.zd_base.specs.declared.numbers.Why.{Why}
use Rattle.zd_alloc.specs.Candidates.{GivesClass}
use Rattle.zd_alloc.specs.Zones.{Division, TakesLeast}
use Rattle.zd_disk.specs.Told.{WhereTold, next_count}
use Rattle.zd_model.specs.Image.{Image, run_of}
use Rattle.zd_model.specs.Tables.{entry_of}
use Rattle.zd_model.specs.declared.metadata.MapEntry.{MapEntry}
use Rattle.zd_routes.specs.Routes.{pointers_with}
use Rattle.zd_volume.specs.Flights.{tables_now}
use Rattle.zd_volume.specs.Jobs.{class_in}
use Rattle.zd_volume.specs.Volumes.{PlainVolume}
use Rattle.zd_volume.specs.declared.work.Job.{Job}
use Rattle.zd_volume.specs.declared.work.JobKind.{JobKind}
use Rattle.zd_volume.specs.declared.work.JobKind.TheVariants.{Empty, Move, Append, Merge}
use Rattle.zd_volume.specs.declared.work.Work.{Work}
use Rattle.zd_jobs.specs.NextSteps.{HasGap, IsNextRun, gap_count, source}

-- a job that begins: its target, from which block on it copies, and the zones then. A Move takes the least free
-- sequential zone; an Append goes on at the pointer of the chunk's zone
abbrev pub BeginsBy : PlainVolume → JobKind → MapEntry → Option ℕ → ℕ → Division → Type 0
BeginsBy v Empty e target copied d = (target ≡ None) × (copied ≡ 0) × (d ≡ v.division)
BeginsBy v Move e target copied d =
    (z : ℕ) × (target ≡ Some z) × (copied ≡ 0) × TakesLeast Sequential v.division d z
BeginsBy v Append e target copied d =
    (z : ℕ) × (e.zone ≡ Some z) × (target ≡ Some z) × (copied ≡ slice_index v.pointers z) × (d ≡ v.division)
BeginsBy v Merge e target copied d = (target ≡ e.buffer) × (copied ≡ 0) × (d ≡ v.division)

-- the zone that a job takes has to be reset: its pointer isn't at its start
abbrev pub NeedsReset : PlainVolume → JobKind → Option ℕ → Type 0
NeedsReset v Move target = (z : ℕ) × (target ≡ Some z) × (0 < slice_index v.pointers z)
NeedsReset v kind target = ⊥

-- A JOB BEGINS without a call of the disk, where its target needs no reset: nothing is copied or read yet
pub record BeginsJob (from to : PlainVolume) (job : Job) (w : Work) : Type 0 where
  pub job_is : w.job ≡ job
  pub read : w.read ≡ 0
  pub begins : BeginsBy from job.kind (entry_of (tables_now from) job.chunk) w.target w.copied to.division
  pub bare : NeedsReset from job.kind w.target → ⊥
  pub rest : to ≡ record from { division = to.division; job = Some w }

-- with a reset of its target, which needs it: the target's pointer is at its start
pub record BeginsWithReset (from to : PlainVolume) (job : Job) (w : Work) (zone : ℕ) : Type 0 where
  pub job_is : w.job ≡ job
  pub kind : job.kind ≡ Move
  pub target : w.target ≡ Some zone
  pub read : w.read ≡ 0
  pub copied : w.copied ≡ 0
  pub takes : TakesLeast Sequential from.division to.division zone
  pub needs : 0 < slice_index from.pointers zone
  pub rest : to ≡ record from {
    division = to.division;
    pointers = set from.pointers zone 0;
    job = Some w;
    since = next_count from.since;
  }

-- THE RESET FAILED: no zone is taken, and nothing has changed but the count of calls and that the volume is stopped
abbrev pub FailsReset : PlainVolume → PlainVolume → Type 0
FailsReset from to = to ≡ record from { since = next_count from.since; stopped = Some Why.Device }

-- THE READ FAILED: the job is where it was, and the volume is stopped. What then stands in the copy buffer isn't told
pub record FailsCopyRead (from to : PlainVolume) : Type 0 where
  pub size : length to.buffer ≡ length from.buffer
  pub rest : to ≡ record from { buffer = to.buffer; stopped = Some Why.Device }

-- THE WRITE FAILED: so too, and it counts as a call
pub record FailsCopyWrite (from to : PlainVolume) : Type 0 where
  pub size : length to.buffer ≡ length from.buffer
  pub rest : to ≡ record from {
    buffer = to.buffer;
    since = next_count from.since;
    stopped = Some Why.Device;
  }

-- THE NEXT RUN WAS READ into the copy buffer, as the disk has it
pub record ReadsBlocks (from to : PlainVolume) (w : Work) (at count : ℕ) (told : Option Image) : Type 0 where
  pub run : IsNextRun from w at count
  pub no_gap : HasGap from w at → ⊥
  pub size : length to.buffer ≡ length from.buffer
  pub value : (z : ℕ) → source from w ≡ Some z → WhereTold told (λ i.
      take (4096 * count) to.buffer ≡ run_of (i.sector z) (8 * at) (8 * count))
  pub rest : to ≡ record from {
    job = Some (record w { copied = at; read = count });
    buffer = to.buffer;
  }

-- what a CopyWrite writes into the target from block `copied` on: what was read, or zeros into a gap
abbrev pub WritesCopy : PlainVolume → Work → ℕ → List ℕ → Type 0
WritesCopy v w count bytes =
    ((0 < w.read) × (count ≡ w.read) × (bytes ≡ take (4096 * count) v.buffer))
    ⊎ ((w.read ≡ 0) × ((at run : ℕ) × IsNextRun v w at run × HasGap v w at × (count ≡ gap_count w at)
    × (bytes ≡ replicate (4096 * count) 0)))

-- SO MANY BLOCKS WERE WRITTEN into the target; the copy buffer may have changed where nothing was read ahead. The
-- chunk has its class anew: an Append's pointer may stand behind the buffer's first valid block now
pub record WritesBlocksOn (from to : PlainVolume) (w : Work) (zone count : ℕ) : Type 0 where
  pub target : w.target ≡ Some zone
  pub size : length to.buffer ≡ length from.buffer
  pub classes : GivesClass w.job.chunk (class_in from.geometry
      (pointers_with from.geometry from.pointers zone (w.copied + count)) (tables_now from) w.job.chunk)
      from.standings.classes to.standings.classes
  pub rest : to ≡ record from {
    job = Some (record w { copied = w.copied + count; read = 0 });
    pointers = pointers_with from.geometry from.pointers zone (w.copied + count);
    standings = record from.standings { classes = to.standings.classes };
    buffer = to.buffer;
    since = next_count from.since;
  }
