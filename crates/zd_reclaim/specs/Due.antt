-- When a job is due.
use Rattle.std.specs.Prelude.{◌≡◌, ◌⊎◌, ℕ, ◌+◌, ◌-◌, ◌/◌, ◌<◌, max, Bool, IsTrue, count_by, Some, None}
use Rattle.zd_base.specs.Geometry.{Shape}
use Rattle.zd_base.specs.Layout.{first_data_zone}
use Rattle.zd_base.specs.declared.geometry.Kind.TheVariants.{Conventional}
use Rattle.zd_base.specs.declared.layout.Layout.{Layout}
use Rattle.zd_alloc.specs.Zones.{Division, is_free, is_limbo, uses_of}
use Rattle.zd_commit.specs.Closed.{HasLimbo}
use Rattle.zd_volume.specs.Volumes.{PlainVolume}
use Rattle.zd_volume.specs.declared.phase.Phase.TheVariants.{Idle}
use Rattle.zd_volume.specs.declared.work.Job.{Job}
use Rattle.zd_reclaim.specs.Picks.{IsPick}

-- the low mark: a quarter of the conventional data zones, and at least one
abbrev pub low_mark : Shape → Layout → ℕ
low_mark g l = max 1 ((g.conv - first_data_zone g l) / 4)

-- the conventional zones that are free, and those that will be once a commit has ended
abbrev pub free_or_limbo : Division → ℕ
free_or_limbo d = count_by is_free (uses_of Conventional d) + count_by is_limbo (uses_of Conventional d)

-- they are fewer than the low mark
abbrev pub IsLow : PlainVolume → Type 0
IsLow v = free_or_limbo v.division < low_mark v.geometry v.head.layout

-- A JOB IS DUE: none is under way, nor a commit; one is picked; and a zone is wanted with none of either kind in limbo,
-- or few conventional ones are free
pub record IsJobDue (v : PlainVolume) (wanted : Bool) : Type 0 where
  pub idle : v.phase ≡ Idle
  pub none : v.job ≡ None
  pub need : (IsTrue wanted × (HasLimbo v.division → ⊥)) ⊎ IsLow v
  pub picks : (job : Job) × IsPick v (Some job)
