use Rattle.std.proofs.Common.{◌≤◌, ◌-◌, ◌<◌}
use Rattle.zd_disk.specs.Told.{WhereTold}
use Rattle.zd_disk.specs.View.{Stays}
use Rattle.zd_format.specs.Sets.{HasWritten}
use Rattle.zd_format.proofs.sets.write_bitmaps.Given as goal

-- the set is written up to this bitmap block
abbrev pub invariant-loop-block : goal.invariant-loop-block
invariant-loop-block g l =
    let view = g.D.ZonedDisk.view in
    record {
      after_map : l.head.layout.map_blocks < l.block;
      within : l.block ≤ l.end;
      stays : Stays (view l.fn.disk) (view l.disk);
      written : WhereTold (view l.disk).zones (HasWritten l.geometry l.head l.first l.block);
    }

abbrev pub decreases-loop-block : goal.decreases-loop-block
decreases-loop-block g l = l.end - l.block
