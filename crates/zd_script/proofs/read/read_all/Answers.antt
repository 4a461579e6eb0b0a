use Rattle.std.proofs.Common.{◌≤◌, length, arith}
use Rattle.zd_script.proofs.ReadLaws.{all_read, too_many}
use Rattle.zd_script.proofs.read.read_all.Goals as goal

pub returns-then-branch-eq0-clause-ok : goal.returns-then-branch-eq0-clause-ok
returns-then-branch-eq0-clause-ok g c =
    let few : length c.loop-all.all.items ≤ 67_108_864 = omega arith in
    all_read _ _ _ c.loop-all.all.items _ _ c.loop-all.invariant.read c.in_ok-read_piece.ensures.ok c.if-branch-eq0.true few

pub returns-clause-bad : goal.returns-clause-bad
returns-clause-bad g c = too_many _ _ c.loop-all.all.items c.loop-all.invariant.read (omega arith)
