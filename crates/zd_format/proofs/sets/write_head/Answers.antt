use Rattle.std.proofs.Common.{◌≡◌, length, arith}
use Rattle.std.proofs.lemmas.Result.{on_ok_weaker}
use Rattle.zd_disk.specs.Runs.{blocks_in}
use Rattle.zd_format.proofs.FreshLaws.{fresh_super}
use Rattle.zd_format.proofs.SetLaws.{told_more, one_within}
use Rattle.zd_format.proofs.sets.write_head.Goals as goal

pub write_run-requires-clause-within : goal.write_run-requires-clause-within
write_run-requires-clause-within g c =
    let size : length c.encode.new.out ≡ 4096 = c.encode.auto.out in
    one_within c.args.geometry.now 0 (blocks_in c.encode.new.out) c.requires.set.shape (omega (arith, size))

pub returns-clause-ok : goal.returns-clause-ok
returns-clause-ok g c =
    let bytes = c.encode.new.out in
    let size : length bytes ≡ 4096 = c.encode.auto.out in
    on_ok_weaker c.write_run.result (λ turns. told_more c.args.geometry.now c.args.head.now c.args.first 0 1 bytes
    c.requires.set (fresh_super c.args.head.now bytes size c.encode.ensures) (omega (arith, size)) turns c.requires.zones)
    c.write_run.ensures.ok
