use Rattle.zd_examine.specs.Padded.{AreRoundedUp}
use Rattle.zd_examine.proofs.PadSteps.{HasPaddedTo}
use Rattle.zd_examine.proofs.padding.pad.Given as goal

-- the zones so far have their pads, and their pointers are those of the disk
abbrev pub invariant-loop-zone : goal.invariant-loop-zone
invariant-loop-zone g l = record {
  padded : HasPaddedTo l.named l.zone (g.D.ZonedDisk.view l.fn.disk) (g.D.ZonedDisk.view l.disk);
  rounded : AreRoundedUp l.geometry l.named l.zone l.fn.pointers l.pointers;
}
