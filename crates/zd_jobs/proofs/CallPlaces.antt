-- WHERE THE CALLS OF A JOB REACH: each stays inside its zone, and a zone that is reset is a sequential one.
use Rattle.std.proofs.Common.{◌≡◌, ℕ, ◌*◌, ◌≤◌, List, Some, arith}
use Rattle.zd_base.specs.declared.geometry.Kind.TheVariants.{Sequential}
use Rattle.zd_alloc.specs.Zones.{IsLeastOf}
use Rattle.zd_disk.specs.Steps.{count_of}
use Rattle.zd_disk.specs.Told.{IsInside, IsSequentialZone}
use Rattle.zd_volume.specs.Volumes.{IsFixed, PlainVolume}
use Rattle.zd_volume.specs.declared.work.Work.{Work}
use Rattle.zd_jobs.specs.JobSteps.{WritesCopy}
use Rattle.zd_jobs.specs.NextSteps.{IsNextRun}
use Rattle.zd_jobs.proofs.CopyBytes.{copy_blocks, copy_inside, sectors_of_blocks}
use Rattle.zd_jobs.proofs.WorkLaws.{source_low, target_low}

-- the reset of a zone that a Move takes
pub least_sequential : (v : PlainVolume) → IsFixed v → (zone : ℕ) → IsLeastOf Sequential v.division zone
    → IsSequentialZone zone v.geometry
least_sequential v fixed zone least =
    let count = fixed.uses.count in
    let conv = fixed.uses.conv in
    let inside = least.inside in
    let high : v.division.conv ≤ zone = least.of_kind in
    (omega (arith, conv, high), omega (arith, count, inside))

module _ (v : PlainVolume) (w : Work) (fixed : IsFixed v) (is : v.job ≡ Some w) where
  -- the read of the next run
  pub run_inside : (at count : ℕ) (run : IsNextRun v w at count)
      → IsInside run.zone (8 * at) (8 * count) v.geometry
  run_inside at count run =
      let end = run.inside in
      (source_low v w fixed is run.zone run.from, omega (arith, end))

  -- the write of what was read, or of zeros into a gap
  pub copy_reaches : (zone count : ℕ) (bytes : List ℕ) → w.target ≡ Some zone → WritesCopy v w count bytes
      → IsInside zone (8 * w.copied) (count_of bytes) v.geometry
  copy_reaches zone count bytes target copy =
      let end = copy_inside v w fixed is count bytes copy in
      let whole = sectors_of_blocks count bytes (copy_blocks v w fixed is count bytes copy) in
      (target_low v w fixed is zone target, omega (arith, end, whole))
