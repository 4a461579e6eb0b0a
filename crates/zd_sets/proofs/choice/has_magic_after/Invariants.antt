use Rattle.zd_disk.specs.Told.{WhereTold}
use Rattle.zd_disk.specs.View.{OnlyReads}
use Rattle.zd_sets.specs.Choice.{NoMagicAfter}
use Rattle.zd_sets.proofs.choice.has_magic_after.Given as goal

-- no zone so far begins with the magic bytes
abbrev pub invariant-loop-k : goal.invariant-loop-k
invariant-loop-k g l =
    let view = g.D.ZonedDisk.view in
    record {
      reads : OnlyReads (view l.fn.disk) (view l.disk);
      none : WhereTold (view l.fn.disk).zones (λ image. NoMagicAfter image l.fn.first l.k);
    }
