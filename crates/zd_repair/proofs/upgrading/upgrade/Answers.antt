use Rattle.std.proofs.Common.{sym, ◌∙◌, arith}
use Rattle.zd_repair.proofs.ReheadViews.{all_changed, changes, opened_keeps, opened_way, reheads_keep, reheads_way, way_kept}
use Rattle.zd_disk.proofs.ViewLaws.{turned}
use Rattle.zd_repair.specs.Upgraded.{upgraded}
use Rattle.zd_repair.proofs.UpgradeLaws.{explains_upgrade, next_upgraded, open_fault, refused_upgrade}
use Rattle.zd_repair.proofs.upgrading.upgrade.Goals as goal

pub returns-in-Err-upgraded-clause-leaves : goal.returns-in-Err-upgraded-clause-leaves
returns-in-Err-upgraded-clause-leaves g c =
    refused_upgrade c.in-Ok.image.chosen.head c.args.label c.args.volume c.in-Err-upgraded.fault c.in-Err-upgraded.ensures.err (c.in-Ok.image, c.in-Ok.ensures.ok)

pub returns-in-Ok-write_heads-clause-ok : goal.returns-in-Ok-write_heads-clause-ok
returns-in-Ok-write_heads-clause-ok g c =
    let size = c.zone_blocks-zone_blocks.ensures.shape.size.least in
    let head = c.in-Ok-upgraded.ensures in
    let wrote = c.in-Ok-write_heads.ensures in
    all_changed c.in-Ok.image (omega (arith, size)) c.in-Ok.ensures.ok c.in-Ok-upgraded.head (next_upgraded head.ok) wrote.way
    1 head.bare head.rises _ (sym head.ok) wrote.moves wrote.ok wrote.durable wrote.counted

pub returns-in-Ok-write_heads-clause-way : goal.returns-in-Ok-write_heads-clause-way
returns-in-Ok-write_heads-clause-way g c =
    let size = c.zone_blocks-zone_blocks.ensures.shape.size.least in
    reheads_way c.in-Ok.image (omega (arith, size)) c.in-Ok.ensures.ok c.in-Ok-upgraded.head
    (next_upgraded c.in-Ok-upgraded.ensures.ok) c.write_heads.ensures.way _ (sym c.in-Ok-upgraded.ensures.ok) c.open.ensures.way

pub returns-in-Ok-write_heads-clause-kept : goal.returns-in-Ok-write_heads-clause-kept
returns-in-Ok-write_heads-clause-kept g c =
    let size = c.zone_blocks-zone_blocks.ensures.shape.size.least in
    way_kept (upgraded c.args.label c.args.volume) (reheads_way c.in-Ok.image (omega (arith, size)) c.in-Ok.ensures.ok c.in-Ok-upgraded.head
    (next_upgraded c.in-Ok-upgraded.ensures.ok) c.write_heads.ensures.way _ (sym c.in-Ok-upgraded.ensures.ok) c.open.ensures.way)

pub returns-in-Ok-write_heads-clause-settled : goal.returns-in-Ok-write_heads-clause-settled
returns-in-Ok-write_heads-clause-settled g c fine =
    let size = c.zone_blocks-zone_blocks.ensures.shape.size.least in
    let is = c.in-Ok.is in
    reheads_keep c.in-Ok.image (omega (arith, size)) c.in-Ok.ensures.ok c.in-Ok-upgraded.head
    (next_upgraded c.in-Ok-upgraded.ensures.ok) c.write_heads.ensures.way _ (sym c.in-Ok-upgraded.ensures.ok)
    (c.open.ensures.settled (λ bad. absurd (let no = sym is ∙ bad in cc)))

pub returns-clause-leaves : goal.returns-clause-leaves
returns-clause-leaves g c =
    let size = c.zone_blocks-zone_blocks.ensures.shape.size.least in
    let head = c.in-Ok-upgraded.ensures in
    changes c.in-Ok.image (omega (arith, size)) c.in-Ok.ensures.ok c.in-Ok-upgraded.head (next_upgraded head.ok) c.write_heads.ensures.way
    1 head.bare head.rises _ (sym head.ok) c.in-Err-write_heads.ensures.moves

pub returns-clause-way : goal.returns-clause-way
returns-clause-way g c =
    let size = c.zone_blocks-zone_blocks.ensures.shape.size.least in
    reheads_way c.in-Ok.image (omega (arith, size)) c.in-Ok.ensures.ok c.in-Ok-upgraded.head
    (next_upgraded c.in-Ok-upgraded.ensures.ok) c.write_heads.ensures.way _ (sym c.in-Ok-upgraded.ensures.ok) c.open.ensures.way

pub returns-clause-kept : goal.returns-clause-kept
returns-clause-kept g c =
    let size = c.zone_blocks-zone_blocks.ensures.shape.size.least in
    way_kept (upgraded c.args.label c.args.volume) (reheads_way c.in-Ok.image (omega (arith, size)) c.in-Ok.ensures.ok c.in-Ok-upgraded.head
    (next_upgraded c.in-Ok-upgraded.ensures.ok) c.write_heads.ensures.way _ (sym c.in-Ok-upgraded.ensures.ok) c.open.ensures.way)

pub returns-clause-settled : goal.returns-clause-settled
returns-clause-settled g c fine =
    let size = c.zone_blocks-zone_blocks.ensures.shape.size.least in
    let is = c.in-Ok.is in
    reheads_keep c.in-Ok.image (omega (arith, size)) c.in-Ok.ensures.ok c.in-Ok-upgraded.head
    (next_upgraded c.in-Ok-upgraded.ensures.ok) c.write_heads.ensures.way _ (sym c.in-Ok-upgraded.ensures.ok)
    (c.open.ensures.settled (λ bad. absurd (let no = sym is ∙ bad in cc)))

pub returns-in-Err-clause-way : goal.returns-in-Err-clause-way
returns-in-Err-clause-way g c = opened_way (upgraded c.args.label c.args.volume) c.open.ensures.way

pub returns-in-Err-clause-kept : goal.returns-in-Err-clause-kept
returns-in-Err-clause-kept g c = way_kept (upgraded c.args.label c.args.volume) (opened_way (upgraded c.args.label c.args.volume) c.open.ensures.way)

pub returns-in-Err-clause-settled : goal.returns-in-Err-clause-settled
returns-in-Err-clause-settled g c fine =
    opened_keeps (upgraded c.args.label c.args.volume) (c.open.ensures.settled (λ bad. fine (open_fault (sym c.in-Err.is ∙ bad))))

pub returns-in-Err-upgraded-clause-err : goal.returns-in-Err-upgraded-clause-err
returns-in-Err-upgraded-clause-err g c image e =
    explains_upgrade c.in-Ok.image.chosen c.in-Err-upgraded.fault image (turned c.in-Ok.ensures.ok.opened image e).2.well_formed
    c.in-Err-upgraded.ensures.err

pub returns-in-Err-upgraded-clause-way : goal.returns-in-Err-upgraded-clause-way
returns-in-Err-upgraded-clause-way g c = opened_way (upgraded c.args.label c.args.volume) c.open.ensures.way

pub returns-in-Err-upgraded-clause-kept : goal.returns-in-Err-upgraded-clause-kept
returns-in-Err-upgraded-clause-kept g c = way_kept (upgraded c.args.label c.args.volume) (opened_way (upgraded c.args.label c.args.volume) c.open.ensures.way)

pub returns-in-Err-upgraded-clause-settled : goal.returns-in-Err-upgraded-clause-settled
returns-in-Err-upgraded-clause-settled g c fine =
    let is = c.in-Ok.is in
    opened_keeps (upgraded c.args.label c.args.volume) (c.open.ensures.settled (λ bad. absurd (let no = sym is ∙ bad in cc)))
