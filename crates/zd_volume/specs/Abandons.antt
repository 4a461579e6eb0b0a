-- A job that is given up.
use Rattle.std.specs.Prelude.{◌≡◌, ℕ, false, set, None}
use Rattle.zd_alloc.specs.Zones.{use_after_release}
use Rattle.zd_volume.specs.Uses.{IsMoved}
use Rattle.zd_volume.specs.Volumes.{PlainVolume}

-- No job is under way: a zone that a Move has taken is released, which the committed map doesn't name.
-- All else stays, and all of it where there was no job.
pub record IsAbandoned (from to : PlainVolume) : Type 0 where
  pub taken : (z : ℕ) → IsMoved from.job z →
      to.division.zones ≡ set from.division.zones z (use_after_release false)
  pub others : ((z : ℕ) → IsMoved from.job z → ⊥) → to.division.zones ≡ from.division.zones
  pub conv : to.division.conv ≡ from.division.conv
  pub order : to.division.order ≡ from.division.order
  pub rest : to ≡ record from { job = None; division = to.division }
