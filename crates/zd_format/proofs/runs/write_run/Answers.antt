use Rattle.std.proofs.Common.{sym}
use Rattle.std.proofs.lemmas.Result.{on_ok_weaker}
use Rattle.zd_disk.proofs.ViewLaws.{turns_as}
use Rattle.zd_format.proofs.RunLaws.{put_blocks}
use Rattle.zd_format.proofs.runs.write_run.Goals as goal

pub returns-clause-ok : goal.returns-clause-ok
returns-clause-ok g c =
    let zone_blocks = c.zone_blocks-zone_blocks.ensures in
    on_ok_weaker c.write.result (turns_as c.requires.told (λ a b is after w.
    let by = sym is.geometry in
    put_blocks c.args.first c.args.block c.args.bytes.now a b is.image (rw by at zone_blocks.shape) c.requires.whole
    (rw by at c.requires.zone) (rw by at c.requires.within) (rw by at (rw zone_blocks.value at w))))
    c.write.ensures.ok
