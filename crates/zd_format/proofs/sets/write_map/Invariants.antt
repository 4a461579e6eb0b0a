use Rattle.std.proofs.Common.{◌+◌}
use Rattle.zd_disk.specs.Told.{WhereTold}
use Rattle.zd_disk.specs.View.{Stays}
use Rattle.zd_format.specs.Sets.{HasWritten}
use Rattle.zd_format.proofs.sets.write_map.Given as goal

-- the super block and the map blocks so far are written
abbrev pub invariant-loop-m : goal.invariant-loop-m
invariant-loop-m g l =
    let view = g.D.ZonedDisk.view in
    record {
      stays : Stays (view l.fn.disk) (view l.disk);
      written : WhereTold (view l.disk).zones (HasWritten l.geometry l.head l.first (1 + l.m));
    }
