use Rattle.std.proofs.Common.{◌≡◌, ◌+◌, ◌-◌, ◌*◌, ℕ, take, drop, inr, sym, ap, ◌∙◌, arith}
use Rattle.zd_disk.proofs.ViewLaws.{reaches_as, turned_back, turns_then, way_then, read_as}
use Rattle.zd_model.specs.Image.{set_block}
use Rattle.zd_sets.specs.Equal.{InSet}
use Rattle.zd_sets.proofs.BlockLaws.{run_inside}
use Rattle.zd_sets.proofs.CallLaws.{counted_then}
use Rattle.zd_sets.proofs.EqualLaws.{copied_then, set_still}
use Rattle.zd_sets.proofs.WayLaws.{blocks_way, outside, part_of_more}
use Rattle.zd_sets.proofs.equal.copy_run.Goals as goal

pub copy_block-requires-clause-there : goal.copy_block-requires-clause-there
copy_block-requires-clause-there g c image e =
    let shape = c.args.geometry.now in
    let some = c.zone_blocks-zone_blocks.ensures.shape.size.least in
    let inside = run_inside shape c.args.first c.args.i c.args.end (omega arith) c.requires.zone c.requires.within in
    let from = turned_back c.loop-k.invariant.copied image e in
    let is = read_as {v = g.D.ZonedDisk.view c.args.disk.now} c.requires.told from.0 from.1 in
    let low = c.loop-k.auto.k in
    let j : ℕ = c.loop-k.k - c.args.i in
    let size = c.read_run.auto.into in
    ap (λ (n : ℕ). take n (drop (4096 * (c.loop-k.k - c.args.i)) c.read_run.new.into))
    (let e : 4096 * (c.loop-k.k - c.args.i) + 4096 - 4096 * (c.loop-k.k - c.args.i)
    ≡ 4096 * (c.loop-k.k - c.args.i + 1) - 4096 * (c.loop-k.k - c.args.i) = omega arith in e)
    ∙ c.in_ok-read_run.ensures.value from.0 from.1 (c.loop-k.k - c.args.i) (omega (arith, size, c.requires.there))
    ∙ ap (set_block from.0 c.args.first) (let at : c.args.i + (c.loop-k.k - c.args.i) ≡ c.loop-k.k = omega (arith, low) in at)
    ∙ sym (set_still shape c.args.first (InSet shape c.args.first c.args.i c.loop-k.k) from.0 image (omega arith) is.geometry from.2.only c.loop-k.k
    (inside c.loop-k.k c.loop-k-test.true) (outside shape c.args.first c.args.i c.loop-k.k c.loop-k.k (omega arith) (inr (omega arith))))

pub loop-k-preserved : goal.loop-k-preserved
loop-k-preserved g c =
    let shape = c.args.geometry.now in
    let blocks = c.args.blocks.now in
    let some = c.zone_blocks-zone_blocks.ensures.shape.size.least in
    let inside = run_inside shape c.args.first c.args.i c.args.end (omega arith) c.requires.zone c.requires.within in
    let so_far = c.loop-k.invariant in
    let low = c.loop-k.auto.k in
    record {
      way = way_then (blocks_way shape c.args.first c.args.i c.args.end blocks (omega arith) inside) so_far.way
          (reaches_as (so_far.way.stays.told _ c.requires.told) (λ a b here image after part.
          part_of_more shape c.args.first c.args.i c.args.end blocks (omega arith) inside c.loop-k.k (c.loop-k.k + 1) low (omega arith) a b here part)
          c.copy_block.ensures.way);
      copied = turns_then c.requires.told (λ a b d is middle after before here.
          copied_then shape c.args.first (omega arith) c.args.i c.loop-k.k (c.loop-k.k + 1) blocks a b d is.geometry low (omega arith)
          (λ k less. inside k (omega arith)) before here) so_far.copied c.in_ok-copy_block.ensures.ok;
      counted = counted_then (omega arith) low (omega arith) (λ k less. inside k (omega arith)) c.copy_block.ensures.way.order
          c.requires.told so_far.copied so_far.counted c.in_ok-copy_block.ensures.counted;
      read_calls = c.copy_block.ensures.read_calls ∙ so_far.read_calls;
    }

pub returns-in_err-copy_block-clause-way : goal.returns-in_err-copy_block-clause-way
returns-in_err-copy_block-clause-way g c =
    let shape = c.args.geometry.now in
    let blocks = c.args.blocks.now in
    let some = c.zone_blocks-zone_blocks.ensures.shape.size.least in
    let inside = run_inside shape c.args.first c.args.i c.args.end (omega arith) c.requires.zone c.requires.within in
    let so_far = c.loop-k.invariant in
    way_then (blocks_way shape c.args.first c.args.i c.args.end blocks (omega arith) inside) so_far.way
    (reaches_as (so_far.way.stays.told _ c.requires.told) (λ a b here image after part.
    part_of_more shape c.args.first c.args.i c.args.end blocks (omega arith) inside c.loop-k.k (c.loop-k.k + 1) c.loop-k.auto.k (omega arith) a b here part)
    c.copy_block.ensures.way)
