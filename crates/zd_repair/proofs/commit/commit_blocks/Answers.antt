use Rattle.std.proofs.Common.{arith}
use Rattle.std.proofs.lemmas.Result.{on_ok_weaker}
use Rattle.zd_repair.proofs.CommitViews.{commit_counted, commit_good, commit_kept, commit_one_kept, commit_one_way, commit_put, commit_way}
use Rattle.zd_repair.proofs.commit.commit_blocks.Goals as goal

pub returns-in_err-commit_set-clause-way : goal.returns-in_err-commit_set-clause-way
returns-in_err-commit_set-clause-way g c =
    let size = c.zone_blocks-zone_blocks.ensures.shape.size.least in
    commit_one_way c.args.geometry.now c.args.head.now.layout c.args.head.now c.args.blocks.now (omega (arith, size)) c.requires.fits c.requires.told
    (rw c.set_zones.ensures at c.commit_set.ensures.way)

pub returns-in_err-commit_set-clause-kept : goal.returns-in_err-commit_set-clause-kept
returns-in_err-commit_set-clause-kept g c =
    let size = c.zone_blocks-zone_blocks.ensures.shape.size.least in
    commit_one_kept c.args.geometry.now c.args.head.now.layout c.args.head.now c.args.blocks.now (omega (arith, size)) c.requires.fits c.requires.told
    (rw c.set_zones.ensures at c.commit_set.ensures.way) (rw c.set_zones.ensures at c.commit_set.ensures.kept)

pub commit_set-requires-2-clause-good : goal.commit_set-requires-2-clause-good
commit_set-requires-2-clause-good g c =
    let size = c.zone_blocks-zone_blocks.ensures.shape.size.least in
    commit_good c.args.geometry.now c.args.head.now.layout c.args.head.now c.args.blocks.now (omega (arith, size)) c.requires.fits c.requires.told
    (rw c.set_zones.ensures at c.commit_set.ensures.way) c.requires.good

pub returns-clause-ok : goal.returns-clause-ok
returns-clause-ok g c =
    let size = c.zone_blocks-zone_blocks.ensures.shape.size.least in
    on_ok_weaker c.commit_set-2.result (commit_put c.args.geometry.now c.args.head.now.layout c.args.head.now c.args.blocks.now (omega (arith, size)) c.requires.fits c.requires.told
    (rw c.set_zones.ensures at c.commit_set.ensures.way) c.commit_set-2.ensures.way (rw c.set_zones.ensures at c.in_ok-commit_set.ensures.ok))
    c.commit_set-2.ensures.ok

pub returns-clause-way : goal.returns-clause-way
returns-clause-way g c =
    let size = c.zone_blocks-zone_blocks.ensures.shape.size.least in
    commit_way c.args.geometry.now c.args.head.now.layout c.args.head.now c.args.blocks.now (omega (arith, size)) c.requires.fits c.requires.told
    (rw c.set_zones.ensures at c.commit_set.ensures.way) c.commit_set-2.ensures.way

pub returns-clause-kept : goal.returns-clause-kept
returns-clause-kept g c =
    let size = c.zone_blocks-zone_blocks.ensures.shape.size.least in
    commit_kept c.args.geometry.now c.args.head.now.layout c.args.head.now c.args.blocks.now (omega (arith, size)) c.requires.fits c.requires.told
    (rw c.set_zones.ensures at c.commit_set.ensures.way) c.commit_set-2.ensures.way (rw c.set_zones.ensures at c.in_ok-commit_set.ensures.ok)
    (rw c.set_zones.ensures at c.commit_set.ensures.kept) c.in_ok-commit_set.ensures.durable c.commit_set-2.ensures.kept

pub returns-clause-counted : goal.returns-clause-counted
returns-clause-counted g c =
    let size = c.zone_blocks-zone_blocks.ensures.shape.size.least in
    on_ok_weaker c.commit_set-2.result (commit_counted c.args.geometry.now c.args.head.now.layout c.args.head.now c.args.blocks.now (omega (arith, size)) c.requires.fits c.requires.told
    (rw c.set_zones.ensures at c.commit_set.ensures.way) c.commit_set-2.ensures.way (rw c.set_zones.ensures at c.in_ok-commit_set.ensures.ok)
    (rw c.set_zones.ensures at c.in_ok-commit_set.ensures.counted)) c.commit_set-2.ensures.counted
