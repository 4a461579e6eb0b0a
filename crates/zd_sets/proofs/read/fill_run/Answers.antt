use Rattle.std.proofs.Common.{◌≡◌, ◌*◌, length, ◌∙◌, arith}
use Rattle.std.proofs.lemmas.Result.{on_ok_weaker}
use Rattle.zd_sets.proofs.BlockLaws.{new_blocks, old_block}
use Rattle.zd_sets.proofs.read.fill_run.Goals as goal

pub returns-clause-value : goal.returns-clause-value
returns-clause-value g c =
    let size : length c.read_run.new.into ≡ 4096 * c.args.count = omega (arith, c.read_run.auto.into) in
    on_ok_weaker c.read_run.result (λ read image z j few.
    new_blocks c.args.into.now c.read_run.new.into c.args.i c.args.count _ size c.requires.place j few ∙ read image z j (omega (arith, size)))
    c.read_run.ensures.value

pub returns-clause-before : goal.returns-clause-before
returns-clause-before g c =
    let size : length c.read_run.new.into ≡ 4096 * c.args.count = omega (arith, c.read_run.auto.into) in
    old_block c.args.into.now c.read_run.new.into c.args.i c.args.count _ size c.requires.place
