use Rattle.std.proofs.Common.{◌≡◌, ◌+◌, ◌*◌, ◌/◌, ◌%◌, length, sym, ap, ◌∙◌, subst, ℕ, arith}
use Rattle.std.proofs.lemmas.Result.{on_ok_weaker}
use Rattle.zd_base.specs.Geometry.{Shape}
use Rattle.zd_disk.specs.Runs.{blocks_in}
use Rattle.zd_disk.specs.Steps.{count_of}
use Rattle.zd_disk.proofs.ToldLaws.{IfSome-at, IfSome-each}
use Rattle.zd_disk.proofs.ViewLaws.{read_as}
use Rattle.zd_model.specs.Image.{run_of}
use Rattle.zd_sets.proofs.BlockLaws.{read_blocks}
use Rattle.zd_sets.proofs.read.read_run.Goals as goal

-- a conventional zone holds all its sectors
pub read-requires-clause-below : goal.read-requires-clause-below
read-requires-clause-below g c = IfSome-each _ _ (λ i e.
    let is = read_as {v = g.D.ZonedDisk.view c.args.disk.now} c.requires.told i e in
    let blocks = c.zone_blocks-zone_blocks.ensures.value in
    let conv = ap (λ (s : Shape). s.conv) is.geometry in
    let size = ap (λ (s : Shape). s.zone_blocks) is.geometry in
    let zone = rw (sym blocks) at c.requires.zone in
    let within = rw (sym blocks) at c.requires.within in
    let held = is.image.conventional (c.args.first + c.args.i / c.zone_blocks-zone_blocks.result) (omega (arith, zone, conv)) in
    omega (arith, held, size, within, blocks))

pub returns-clause-value : goal.returns-clause-value
returns-clause-value g c =
    let blocks = c.zone_blocks-zone_blocks.ensures.value in
    let size : length c.read.new.into ≡ length c.args.into.now = omega (arith, c.read.auto.into) in
    on_ok_weaker c.read.result (λ read image e.
    let is = read_as {v = g.D.ZonedDisk.view c.args.disk.now} c.requires.told image e in
    read_blocks c.args.geometry.now image is.image is.geometry c.args.first c.args.i c.read.new.into
    (omega (arith, size, c.requires.whole)) c.requires.zone (omega (arith, size, c.requires.within))
    (subst (λ (n : ℕ). c.read.new.into ≡ run_of (image.sector (c.args.first + c.args.i / n)) (8 * (c.args.i % n)) (count_of c.args.into.now)) blocks
    (subst (λ (z : ℕ). c.read.new.into ≡ run_of (image.sector (z + c.args.i / c.zone_blocks-zone_blocks.result))
    (8 * (c.args.i % c.zone_blocks-zone_blocks.result)) (count_of c.args.into.now)) c.first.view_is
    (IfSome-at (g.D.ZonedDisk.view c.args.disk.now).zones image (λ i. c.read.new.into
    ≡ run_of (i.sector (c.first.inside.0 + c.args.i / c.zone_blocks-zone_blocks.result)) (8 * (c.args.i % c.zone_blocks-zone_blocks.result))
    (count_of c.args.into.now)) e read))
    ∙ ap (run_of (image.sector (c.args.first + c.args.i / c.args.geometry.now.zone_blocks)) (8 * (c.args.i % c.args.geometry.now.zone_blocks)))
    (let count : count_of c.args.into.now ≡ 8 * blocks_in c.read.new.into = omega (arith, size, c.requires.whole) in count)))
    c.read.ensures.value
