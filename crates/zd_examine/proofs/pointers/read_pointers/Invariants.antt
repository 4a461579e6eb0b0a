use Rattle.std.proofs.Common.{◌≡◌, ◌≤◌, ◌<◌, ℕ, length}
use Rattle.std.specs.Prelude.{slice_index}
use Rattle.zd_base.specs.Geometry.{zone_count, zone_sectors}
use Rattle.zd_disk.specs.Told.{WhereTold}
use Rattle.zd_disk.specs.View.{OnlyReads}
use Rattle.zd_examine.proofs.pointers.read_pointers.Given as goal

-- the pointers of the zones so far are reported
abbrev pub invariant-loop-zone : goal.invariant-loop-zone
invariant-loop-zone g l =
    let view = g.D.ZonedDisk.view in
    record {
      size : length l.pointers.items ≡ zone_count l.geometry;
      reads : OnlyReads (view l.fn.disk) (view l.disk);
      within : (z : ℕ) → slice_index l.pointers.items z ≤ zone_sectors l.geometry;
      conventional : (z : ℕ) → z < l.geometry.conv → slice_index l.pointers.items z ≡ 0;
      sequential : WhereTold (view l.fn.disk).zones (λ image.
          (z : ℕ) → l.geometry.conv ≤ z → z < l.zone → slice_index l.pointers.items z ≡ image.held z);
    }
