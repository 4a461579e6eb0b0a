use Rattle.zd_disk.specs.View.{MadeOf, Reaches, ReadsOnce, Turns}
use Rattle.zd_sets.specs.Calls.{differing_from}
use Rattle.zd_sets.specs.Equal.{HasSetBlocks}
use Rattle.zd_sets.specs.Kept.{HasPartOfBlocks}
use Rattle.zd_sets.proofs.equal.copy_run.Given as goal

-- the blocks so far are copied
abbrev pub invariant-loop-k : goal.invariant-loop-k
invariant-loop-k g l =
    let view = g.D.ZonedDisk.view in
    record {
      way : Reaches (HasPartOfBlocks l.geometry l.first l.i l.end l.blocks) (view l.fn.disk) (view l.disk);
      copied : Turns (HasSetBlocks l.geometry l.first l.i l.k l.blocks) (view l.fn.disk) (view l.disk);
      counted : MadeOf (differing_from l.blocks l.first l.i l.k) (view l.fn.disk) (view l.disk);
      read_calls : ReadsOnce (view l.fn.disk) (view l.disk);
    }
