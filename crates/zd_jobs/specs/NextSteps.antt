-- The step of a job that comes next.
use Rattle.std.specs.Prelude.{◌≡◌, ◌⊎◌, ℕ, ◌+◌, ◌-◌, ◌<◌, ◌≤◌, min, true, false}
use Rattle.std.specs.Prelude.{Option, Some, None}
use Rattle.zd_base.specs.declared.steps.StepKind.{StepKind}
use Rattle.zd_model.specs.Tables.{entry_of, is_valid}
use Rattle.zd_volume.specs.Flights.{tables_now}
use Rattle.zd_volume.specs.Jobs.{source_of}
use Rattle.zd_volume.specs.Volumes.{PlainVolume}
use Rattle.zd_volume.specs.declared.work.Work.{Work}

-- the zone from which a job copies; an Empty copies from none
abbrev pub source : PlainVolume → Work → Option ℕ
source v w = source_of w.job.kind (entry_of (tables_now v) w.job.chunk)

-- no block of the source is left to be copied
abbrev pub IsCopied : PlainVolume → Work → Type 0
IsCopied v w = (y x : ℕ) → source v w ≡ Some y → w.copied ≤ x → x < v.geometry.zone_blocks →
    is_valid (tables_now v) y x ≡ false

-- of the source's valid blocks that are left, the first and those in a row with it, as many as there are up to 32
pub record IsNextRun (v : PlainVolume) (w : Work) (at count : ℕ) : Type 0 where
  pub zone : ℕ
  pub from : source v w ≡ Some zone
  pub later : w.copied ≤ at
  pub some : 0 < count
  pub few : count ≤ 32
  pub inside : at + count ≤ v.geometry.zone_blocks
  pub first : (x : ℕ) → w.copied ≤ x → x < at → is_valid (tables_now v) zone x ≡ false
  pub valid : (x : ℕ) → at ≤ x → x < at + count → is_valid (tables_now v) zone x ≡ true
  pub longest : count < 32 → at + count < v.geometry.zone_blocks →
      is_valid (tables_now v) zone (at + count) ≡ false

-- the run begins behind the pointer of a sequential target: the blocks between are to be filled first
abbrev pub HasGap : PlainVolume → Work → ℕ → Type 0
HasGap v w at = (z : ℕ) × (w.target ≡ Some z) × (v.geometry.conv ≤ z) × (w.copied < at)

-- how many blocks of zeros are written next into a gap
abbrev pub gap_count : Work → ℕ → ℕ
gap_count w at = min (at - w.copied) 32

-- THE NEXT STEP of a job: what was read is written; where all is copied the job ends; a gap is filled; the next run
-- is read
abbrev pub IsNextOf : PlainVolume → Work → StepKind → Type 0
IsNextOf v w next =
    ((0 < w.read) × (next ≡ StepKind.CopyWrite))
    ⊎ ((w.read ≡ 0) × IsCopied v w × (next ≡ StepKind.Remap))
    ⊎ ((w.read ≡ 0) × ((at count : ℕ) × IsNextRun v w at count
    × ((HasGap v w at × (next ≡ StepKind.CopyWrite))
    ⊎ ((HasGap v w at → ⊥) × (next ≡ StepKind.CopyRead)))))

-- that of the job under way; None exactly where there is none
abbrev pub IsNextStep : PlainVolume → Option Work → Option StepKind → Type 0
IsNextStep v None next = next ≡ None
IsNextStep v (Some w) None = ⊥
IsNextStep v (Some w) (Some next) = IsNextOf v w next
