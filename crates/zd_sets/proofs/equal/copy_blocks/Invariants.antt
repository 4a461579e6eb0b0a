use Rattle.std.proofs.Common.{◌≡◌, ◌<◌, ◌≤◌, ◌-◌, true}
use Rattle.zd_disk.specs.Runs.{run_count, starts_run}
use Rattle.zd_disk.specs.View.{MadeOf, MadeReads, Reaches, Turns}
use Rattle.zd_sets.specs.Calls.{differing_from}
use Rattle.zd_sets.specs.Equal.{HasSetBlocks}
use Rattle.zd_sets.specs.Kept.{HasPartOfBlocks}
use Rattle.zd_sets.proofs.equal.copy_blocks.Given as goal

-- the blocks so far are copied, in whole runs
abbrev pub invariant-loop-i : goal.invariant-loop-i
invariant-loop-i g l =
    let view = g.D.ZonedDisk.view in
    record {
      some : 1 ≤ l.i;
      within : l.i ≤ l.end;
      way : Reaches (HasPartOfBlocks l.geometry l.first 1 l.end l.blocks) (view l.fn.disk) (view l.disk);
      copied : Turns (HasSetBlocks l.geometry l.first 1 l.i l.blocks) (view l.fn.disk) (view l.disk);
      counted : MadeOf (differing_from l.blocks l.first 1 l.i) (view l.fn.disk) (view l.disk);
      starts : l.i < l.end → starts_run l.geometry 1 l.i ≡ true;
      read_calls : MadeReads (run_count l.geometry 1 l.i) (view l.fn.disk) (view l.disk);
    }

abbrev pub decreases-loop-i : goal.decreases-loop-i
decreases-loop-i g l = l.end - l.i
