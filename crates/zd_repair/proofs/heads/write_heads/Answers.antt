use Rattle.std.proofs.Common.{ℕ, subst, arith}
use Rattle.zd_disk.specs.View.{Reaches, Turns}
use Rattle.zd_sets.specs.Equal.{HasSuper}
use Rattle.zd_repair.specs.Heads.{HasPartOfHead}
use Rattle.zd_repair.proofs.HeadViews.{both_heads, both_way, first_good, moves_both, moves_second, put_where_ok, second_way}
use Rattle.zd_repair.proofs.heads.write_heads.Goals as goal

pub returns-in_err-put_head-clause-way : goal.returns-in_err-put_head-clause-way
returns-in_err-put_head-clause-way g c =
    let volume = c.args.volume.now in
    let view = g.D.ZonedDisk.view in
    let size = c.zone_blocks-zone_blocks.ensures.shape.size.least in
    let one = subst (λ (z : ℕ). Reaches (HasPartOfHead volume.geometry z c.args.head.now) (view c.args.disk.now) (view c.put_head.new.disk)) c.set_zones.ensures c.put_head.ensures.way in
    second_way volume.geometry volume.chosen.head c.args.head.now volume.blocks (omega (arith, size)) c.requires.usable.placed.fits c.requires.told (both_heads c.requires.sets) one

pub returns-in_err-put_head-clause-moves : goal.returns-in_err-put_head-clause-moves
returns-in_err-put_head-clause-moves g c =
    let volume = c.args.volume.now in
    let view = g.D.ZonedDisk.view in
    let size = c.zone_blocks-zone_blocks.ensures.shape.size.least in
    let one = subst (λ (z : ℕ). Reaches (HasPartOfHead volume.geometry z c.args.head.now) (view c.args.disk.now) (view c.put_head.new.disk)) c.set_zones.ensures c.put_head.ensures.way in
    moves_second volume.geometry volume.chosen.head c.args.head.now volume.blocks (omega (arith, size)) c.requires.usable.placed.fits
    c.requires.told (both_heads c.requires.sets) one c.from_residual.result c.from_residual.ensures.0 c.put_head.ensures.few

pub put_head-requires-2-clause-good : goal.put_head-requires-2-clause-good
put_head-requires-2-clause-good g c =
    let volume = c.args.volume.now in
    let view = g.D.ZonedDisk.view in
    let size = c.zone_blocks-zone_blocks.ensures.shape.size.least in
    let one = subst (λ (z : ℕ). Reaches (HasPartOfHead volume.geometry z c.args.head.now) (view c.args.disk.now) (view c.put_head.new.disk)) c.set_zones.ensures c.put_head.ensures.way in
    first_good volume.geometry volume.chosen.head c.args.head.now volume.blocks (omega (arith, size)) c.requires.usable.placed.fits c.requires.told (both_heads c.requires.sets) one

pub returns-clause-ok : goal.returns-clause-ok
returns-clause-ok g c =
    let volume = c.args.volume.now in
    let view = g.D.ZonedDisk.view in
    let size = c.zone_blocks-zone_blocks.ensures.shape.size.least in
    let one = subst (λ (z : ℕ). Reaches (HasPartOfHead volume.geometry z c.args.head.now) (view c.args.disk.now) (view c.put_head.new.disk)) c.set_zones.ensures c.put_head.ensures.way in
    let put = subst (λ (z : ℕ). Turns (HasSuper volume.geometry z c.args.head.now) (view c.args.disk.now) (view c.put_head.new.disk)) c.set_zones.ensures c.in_ok-put_head.ensures.ok in
    put_where_ok volume.geometry volume.chosen.head c.args.head.now volume.blocks (omega (arith, size)) c.requires.usable.placed.fits
    c.requires.told (both_heads c.requires.sets) one put c.in_ok-put_head.ensures.counted c.in_ok-put_head.ensures.durable c.put_head-2.ensures.way
    c.put_head-2.result c.put_head-2.ensures.ok c.put_head-2.ensures.durable

pub returns-clause-way : goal.returns-clause-way
returns-clause-way g c =
    let volume = c.args.volume.now in
    let view = g.D.ZonedDisk.view in
    let size = c.zone_blocks-zone_blocks.ensures.shape.size.least in
    let one = subst (λ (z : ℕ). Reaches (HasPartOfHead volume.geometry z c.args.head.now) (view c.args.disk.now) (view c.put_head.new.disk)) c.set_zones.ensures c.put_head.ensures.way in
    let put = subst (λ (z : ℕ). Turns (HasSuper volume.geometry z c.args.head.now) (view c.args.disk.now) (view c.put_head.new.disk)) c.set_zones.ensures c.in_ok-put_head.ensures.ok in
    both_way volume.geometry volume.chosen.head c.args.head.now volume.blocks (omega (arith, size)) c.requires.usable.placed.fits
    c.requires.told (both_heads c.requires.sets) one put c.in_ok-put_head.ensures.counted c.in_ok-put_head.ensures.durable c.put_head-2.ensures.way

pub returns-clause-moves : goal.returns-clause-moves
returns-clause-moves g c =
    let volume = c.args.volume.now in
    let view = g.D.ZonedDisk.view in
    let size = c.zone_blocks-zone_blocks.ensures.shape.size.least in
    let one = subst (λ (z : ℕ). Reaches (HasPartOfHead volume.geometry z c.args.head.now) (view c.args.disk.now) (view c.put_head.new.disk)) c.set_zones.ensures c.put_head.ensures.way in
    let put = subst (λ (z : ℕ). Turns (HasSuper volume.geometry z c.args.head.now) (view c.args.disk.now) (view c.put_head.new.disk)) c.set_zones.ensures c.in_ok-put_head.ensures.ok in
    moves_both volume.geometry volume.chosen.head c.args.head.now volume.blocks (omega (arith, size)) c.requires.usable.placed.fits
    c.requires.told (both_heads c.requires.sets) one put c.in_ok-put_head.ensures.counted c.in_ok-put_head.ensures.durable c.put_head-2.ensures.way
    c.put_head-2.result c.put_head-2.ensures.ok c.put_head-2.ensures.durable c.put_head-2.ensures.counted c.put_head-2.ensures.few
