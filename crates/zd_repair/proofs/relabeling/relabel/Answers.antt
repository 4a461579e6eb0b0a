use Rattle.std.proofs.Common.{sym, ◌∙◌, arith}
use Rattle.zd_repair.proofs.ReheadViews.{all_changed, changes, opened_keeps, opened_way, reheads_keep, reheads_way, way_kept}
use Rattle.zd_disk.proofs.ViewLaws.{turned}
use Rattle.zd_repair.specs.Relabeled.{relabeled}
use Rattle.zd_repair.proofs.RelabelLaws.{explains_relabel, next_relabeled, open_fault, refused_relabel}
use Rattle.zd_repair.proofs.relabeling.relabel.Goals as goal

pub returns-in-Err-relabeled-clause-leaves : goal.returns-in-Err-relabeled-clause-leaves
returns-in-Err-relabeled-clause-leaves g c =
    refused_relabel c.in-Ok.image.chosen.head c.args.label c.in-Err-relabeled.fault c.in-Err-relabeled.ensures.err (c.in-Ok.image, c.in-Ok.ensures.ok)

pub returns-in-Ok-write_heads-clause-ok : goal.returns-in-Ok-write_heads-clause-ok
returns-in-Ok-write_heads-clause-ok g c =
    let size = c.zone_blocks-zone_blocks.ensures.shape.size.least in
    let head = c.in-Ok-relabeled.ensures in
    let wrote = c.in-Ok-write_heads.ensures in
    all_changed c.in-Ok.image (omega (arith, size)) c.in-Ok.ensures.ok c.in-Ok-relabeled.head (next_relabeled head.ok) wrote.way
    2 head.named head.rises _ (sym head.ok) wrote.moves wrote.ok wrote.durable wrote.counted

pub returns-in-Ok-write_heads-clause-way : goal.returns-in-Ok-write_heads-clause-way
returns-in-Ok-write_heads-clause-way g c =
    let size = c.zone_blocks-zone_blocks.ensures.shape.size.least in
    reheads_way c.in-Ok.image (omega (arith, size)) c.in-Ok.ensures.ok c.in-Ok-relabeled.head
    (next_relabeled c.in-Ok-relabeled.ensures.ok) c.write_heads.ensures.way _ (sym c.in-Ok-relabeled.ensures.ok) c.open.ensures.way

pub returns-in-Ok-write_heads-clause-kept : goal.returns-in-Ok-write_heads-clause-kept
returns-in-Ok-write_heads-clause-kept g c =
    let size = c.zone_blocks-zone_blocks.ensures.shape.size.least in
    way_kept (relabeled c.args.label) (reheads_way c.in-Ok.image (omega (arith, size)) c.in-Ok.ensures.ok c.in-Ok-relabeled.head
    (next_relabeled c.in-Ok-relabeled.ensures.ok) c.write_heads.ensures.way _ (sym c.in-Ok-relabeled.ensures.ok) c.open.ensures.way)

pub returns-in-Ok-write_heads-clause-settled : goal.returns-in-Ok-write_heads-clause-settled
returns-in-Ok-write_heads-clause-settled g c fine =
    let size = c.zone_blocks-zone_blocks.ensures.shape.size.least in
    let is = c.in-Ok.is in
    reheads_keep c.in-Ok.image (omega (arith, size)) c.in-Ok.ensures.ok c.in-Ok-relabeled.head
    (next_relabeled c.in-Ok-relabeled.ensures.ok) c.write_heads.ensures.way _ (sym c.in-Ok-relabeled.ensures.ok)
    (c.open.ensures.settled (λ bad. absurd (let no = sym is ∙ bad in cc)))

pub returns-clause-leaves : goal.returns-clause-leaves
returns-clause-leaves g c =
    let size = c.zone_blocks-zone_blocks.ensures.shape.size.least in
    let head = c.in-Ok-relabeled.ensures in
    changes c.in-Ok.image (omega (arith, size)) c.in-Ok.ensures.ok c.in-Ok-relabeled.head (next_relabeled head.ok) c.write_heads.ensures.way
    2 head.named head.rises _ (sym head.ok) c.in-Err-write_heads.ensures.moves

pub returns-clause-way : goal.returns-clause-way
returns-clause-way g c =
    let size = c.zone_blocks-zone_blocks.ensures.shape.size.least in
    reheads_way c.in-Ok.image (omega (arith, size)) c.in-Ok.ensures.ok c.in-Ok-relabeled.head
    (next_relabeled c.in-Ok-relabeled.ensures.ok) c.write_heads.ensures.way _ (sym c.in-Ok-relabeled.ensures.ok) c.open.ensures.way

pub returns-clause-kept : goal.returns-clause-kept
returns-clause-kept g c =
    let size = c.zone_blocks-zone_blocks.ensures.shape.size.least in
    way_kept (relabeled c.args.label) (reheads_way c.in-Ok.image (omega (arith, size)) c.in-Ok.ensures.ok c.in-Ok-relabeled.head
    (next_relabeled c.in-Ok-relabeled.ensures.ok) c.write_heads.ensures.way _ (sym c.in-Ok-relabeled.ensures.ok) c.open.ensures.way)

pub returns-clause-settled : goal.returns-clause-settled
returns-clause-settled g c fine =
    let size = c.zone_blocks-zone_blocks.ensures.shape.size.least in
    let is = c.in-Ok.is in
    reheads_keep c.in-Ok.image (omega (arith, size)) c.in-Ok.ensures.ok c.in-Ok-relabeled.head
    (next_relabeled c.in-Ok-relabeled.ensures.ok) c.write_heads.ensures.way _ (sym c.in-Ok-relabeled.ensures.ok)
    (c.open.ensures.settled (λ bad. absurd (let no = sym is ∙ bad in cc)))

pub returns-in-Err-clause-way : goal.returns-in-Err-clause-way
returns-in-Err-clause-way g c = opened_way (relabeled c.args.label) c.open.ensures.way

pub returns-in-Err-clause-kept : goal.returns-in-Err-clause-kept
returns-in-Err-clause-kept g c = way_kept (relabeled c.args.label) (opened_way (relabeled c.args.label) c.open.ensures.way)

pub returns-in-Err-clause-settled : goal.returns-in-Err-clause-settled
returns-in-Err-clause-settled g c fine =
    opened_keeps (relabeled c.args.label) (c.open.ensures.settled (λ bad. fine (open_fault (sym c.in-Err.is ∙ bad))))

pub returns-in-Err-relabeled-clause-err : goal.returns-in-Err-relabeled-clause-err
returns-in-Err-relabeled-clause-err g c image e =
    explains_relabel c.in-Ok.image.chosen c.in-Err-relabeled.fault image (turned c.in-Ok.ensures.ok.opened image e).2.well_formed
    c.in-Err-relabeled.ensures.err

pub returns-in-Err-relabeled-clause-way : goal.returns-in-Err-relabeled-clause-way
returns-in-Err-relabeled-clause-way g c = opened_way (relabeled c.args.label) c.open.ensures.way

pub returns-in-Err-relabeled-clause-kept : goal.returns-in-Err-relabeled-clause-kept
returns-in-Err-relabeled-clause-kept g c = way_kept (relabeled c.args.label) (opened_way (relabeled c.args.label) c.open.ensures.way)

pub returns-in-Err-relabeled-clause-settled : goal.returns-in-Err-relabeled-clause-settled
returns-in-Err-relabeled-clause-settled g c fine =
    let is = c.in-Ok.is in
    opened_keeps (relabeled c.args.label) (c.open.ensures.settled (λ bad. absurd (let no = sym is ∙ bad in cc)))
