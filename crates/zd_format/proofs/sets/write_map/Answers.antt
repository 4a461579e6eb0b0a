use Rattle.std.proofs.Common.{◌≡◌, ◌+◌, length, arith}
use Rattle.zd_disk.proofs.ViewLaws.{stays_then}
use Rattle.zd_format.proofs.FreshLaws.{fresh_map}
use Rattle.zd_format.proofs.SetLaws.{told_more}
use Rattle.zd_format.proofs.sets.write_map.Goals as goal

pub loop-m-preserved : goal.loop-m-preserved
loop-m-preserved g c =
    let bytes = c.blank.new.out in
    let size : length bytes ≡ 4096 = c.blank.ensures.size in
    let wrote = c.in_ok-write_run.ensures in
    record {
      stays = stays_then c.loop-m.invariant.stays wrote.stays;
      written = told_more c.args.geometry.now c.args.head.now c.args.first (1 + c.loop-m.m) (1 + (c.loop-m.m + 1)) bytes c.requires.set
          (fresh_map c.args.head.now (1 + c.loop-m.m) bytes size c.blank.ensures.entries (omega arith) (omega arith))
          (omega (arith, size)) wrote.ok c.loop-m.invariant.written;
    }
