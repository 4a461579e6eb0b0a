use Rattle.std.proofs.Common.{arith}
use Rattle.std.proofs.lemmas.Result.{on_ok_weaker}
use Rattle.zd_repair.proofs.CommitLaws.{copied_kept, copied_way, low, put_all, put_kept, put_way, still_good}
use Rattle.zd_repair.proofs.commit.commit_set.Goals as goal

pub returns-in_err-copy_blocks-clause-way : goal.returns-in_err-copy_blocks-clause-way
returns-in_err-copy_blocks-clause-way g c =
    let size = c.zone_blocks-zone_blocks.ensures.shape.size.least in
    copied_way c.args.geometry.now c.args.head.now.layout c.args.zone c.args.head.now c.args.blocks.now (omega (arith, size)) c.requires.inside c.requires.told
    (rw c.used_blocks-used.ensures at c.copy_blocks.ensures.way)

pub returns-in_err-copy_blocks-clause-kept : goal.returns-in_err-copy_blocks-clause-kept
returns-in_err-copy_blocks-clause-kept g c =
    let size = c.zone_blocks-zone_blocks.ensures.shape.size.least in
    copied_kept c.args.geometry.now c.args.head.now.layout c.args.zone c.args.head.now c.args.blocks.now (omega (arith, size)) c.requires.inside c.requires.told
    (rw c.used_blocks-used.ensures at c.copy_blocks.ensures.way)

pub put_head-requires-clause-zone : goal.put_head-requires-clause-zone
put_head-requires-clause-zone g c =
    let size = c.zone_blocks-zone_blocks.ensures.shape.size.least in
    low c.args.geometry.now c.args.head.now.layout c.args.zone c.args.head.now c.args.blocks.now (omega (arith, size)) c.requires.inside

pub put_head-requires-clause-good : goal.put_head-requires-clause-good
put_head-requires-clause-good g c =
    let size = c.zone_blocks-zone_blocks.ensures.shape.size.least in
    still_good c.args.geometry.now c.args.head.now.layout c.args.zone c.args.head.now c.args.blocks.now (omega (arith, size)) c.requires.inside c.requires.told
    (rw c.used_blocks-used.ensures at c.copy_blocks.ensures.way) c.requires.good

pub returns-clause-ok : goal.returns-clause-ok
returns-clause-ok g c =
    let size = c.zone_blocks-zone_blocks.ensures.shape.size.least in
    on_ok_weaker c.put_head.result (put_all c.args.geometry.now c.args.head.now.layout c.args.zone c.args.head.now c.args.blocks.now (omega (arith, size)) c.requires.inside c.requires.told
    (rw c.used_blocks-used.ensures at c.copy_blocks.ensures.way) (rw c.used_blocks-used.ensures at c.in_ok-copy_blocks.ensures.ok)) c.put_head.ensures.ok

pub returns-clause-way : goal.returns-clause-way
returns-clause-way g c =
    let size = c.zone_blocks-zone_blocks.ensures.shape.size.least in
    put_way c.args.geometry.now c.args.head.now.layout c.args.zone c.args.head.now c.args.blocks.now (omega (arith, size)) c.requires.inside c.requires.told
    (rw c.used_blocks-used.ensures at c.copy_blocks.ensures.way) c.put_head.ensures.way

pub returns-clause-kept : goal.returns-clause-kept
returns-clause-kept g c =
    let size = c.zone_blocks-zone_blocks.ensures.shape.size.least in
    put_kept c.args.geometry.now c.args.head.now.layout c.args.zone c.args.head.now c.args.blocks.now (omega (arith, size)) c.requires.inside c.requires.told
    (rw c.used_blocks-used.ensures at c.copy_blocks.ensures.way) c.put_head.ensures.way
    (rw c.used_blocks-used.ensures at c.in_ok-copy_blocks.ensures.ok) c.in_ok-copy_blocks.ensures.durable
