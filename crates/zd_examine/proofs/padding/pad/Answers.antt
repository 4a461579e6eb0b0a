use Rattle.std.proofs.Common.{◌≡◌, ◌+◌, ◌<◌, ◌≤◌, true, false, sym, ap, ◌∙◌, subst, arith}
use Rattle.zd_base.specs.Geometry.{zone_count}
use Rattle.std.specs.Prelude.{slice_index}
use Rattle.zd_examine.specs.Padded.{AreRoundedUp, block_end, is_cut}
use Rattle.zd_examine.proofs.PadSteps.{HasPaddedTo, ascending_next, cut_by, need_is, padded_next, padded_none, padded_past, rounded_more, rounded_none, rounded_skip, uncut_by, way_next, whole_by}
use Rattle.zd_examine.proofs.padding.pad.Goals as goal
use Rattle.zd_examine.proofs.padding.pad.Goals.{then-named-i+then-pointer-ne0+in_ok-pointers, else-named-i, else-named-i-via-then-named-i+else-pointer-ne0, else-named-i-via-else-named-i}

pub loop-zone-init : goal.loop-zone-init
loop-zone-init g c = record {
  padded = padded_none c.requires.told _ c.conv-zone.ensures.value c.requires.durable;
  rounded = rounded_none _ c.args.pointers.now c.conv-zone.ensures.value;
}

-- the zone of this iteration is cut
pub returns-in_err-pointers-clause-way : goal.returns-in_err-pointers-clause-way
returns-in_err-pointers-clause-way g c =
    let named = c.args.named.now in
    let z = c.loop-zone.zone in
    let pointers = c.args.pointers.now in
    let seq : c.args.geometry.now.conv ≤ z = omega (arith, c.loop-zone.auto.zone, c.conv-zone.ensures.value) in
    let low : z < zone_count c.args.geometry.now =
    omega (arith, c.loop-zone-test.true, c.zones-zone-end.ensures.value) in
    way_next c.requires.told c.loop-zone.invariant.padded
    (need_is named (g.D.ZonedDisk.view c.args.disk.now) pointers z true c.requires.told c.requires.pointers seq low
    (cut_by c.args.geometry.now named z (slice_index pointers z) (slice_index c.loop-zone.pointers z) seq
    (c.loop-zone.invariant.rounded.later z (omega arith)) c.if-named-i.true c.if-pointer-ne0.true))
    c.pad_zone.ensures.call c.in_err-pointers.ensures.err

pub returns-in_err-pointers-clause-ascending : goal.returns-in_err-pointers-clause-ascending
returns-in_err-pointers-clause-ascending g c =
    let named = c.args.named.now in
    let z = c.loop-zone.zone in
    let pointers = c.args.pointers.now in
    let seq : c.args.geometry.now.conv ≤ z = omega (arith, c.loop-zone.auto.zone, c.conv-zone.ensures.value) in
    let low : z < zone_count c.args.geometry.now =
    omega (arith, c.loop-zone-test.true, c.zones-zone-end.ensures.value) in
    ascending_next c.requires.told c.loop-zone.invariant.padded
    (need_is named (g.D.ZonedDisk.view c.args.disk.now) pointers z true c.requires.told c.requires.pointers seq low
    (cut_by c.args.geometry.now named z (slice_index pointers z) (slice_index c.loop-zone.pointers z) seq
    (c.loop-zone.invariant.rounded.later z (omega arith)) c.if-named-i.true c.if-pointer-ne0.true))
    c.pad_zone.ensures.call

pub loop-zone-preserved : goal.loop-zone-preserved
loop-zone-preserved g c =
    let view = g.D.ZonedDisk.view in
    let shape = c.args.geometry.now in
    let named = c.args.named.now in
    let z = c.loop-zone.zone in
    let pointers = c.args.pointers.now in
    let before = c.loop-zone.invariant in
    let seq : shape.conv ≤ z = omega (arith, c.loop-zone.auto.zone, c.conv-zone.ensures.value) in
    let low : z < zone_count shape = omega (arith, c.loop-zone-test.true, c.zones-zone-end.ensures.value) in
    let is = before.rounded.later z (omega arith) in
    let skipped = λ (none : is_cut shape named z (slice_index pointers z) ≡ false).
    padded_past c.requires.told before.padded
    (need_is named (view c.args.disk.now) pointers z false c.requires.told c.requires.pointers seq low none) in
    let kept = λ (none : is_cut shape named z (slice_index pointers z) ≡ false). rounded_skip before.rounded none in
    elim c.if-named-i.branch [
      | then-named-i+then-pointer-ne0+in_ok-pointers w ↦
          let cut = cut_by shape named z (slice_index pointers z)
          (slice_index c.loop-zone.pointers z) seq is w.if-named-i.true w.if-pointer-ne0.true in
          record {
            padded = subst (λ d. HasPaddedTo named (z + 1) (view c.args.disk.now) (view d)) (sym w.disk-is)
                (padded_next c.requires.told before.padded
                (need_is named (view c.args.disk.now) pointers z true c.requires.told c.requires.pointers seq low cut)
                w.pad_zone.ensures.call w.in_ok-pointers.ensures.ok);
            rounded = subst (AreRoundedUp shape named (z + 1) pointers) (sym w.pointers-is)
                (rounded_more _ before.rounded
                (let same = c.loop-zone.auto.pointers in let size = c.requires.count in
                omega (arith, before.rounded.count, size, low)) cut
                (w.in_ok-pointers.ensures.value ∙ ap block_end is));
          }
      | else-named-i w ↦
          let uncut : is_cut shape named z (slice_index pointers z) ≡ false = elim w.else-named-i.branch [
            | else-named-i-via-then-named-i+else-pointer-ne0 w' ↦
                whole_by shape named z (slice_index pointers z)
                (slice_index c.loop-zone.pointers z) seq is w'.if-pointer-ne0.false
            | else-named-i-via-else-named-i w' ↦ uncut_by shape named z (slice_index pointers z)
                (slice_index c.loop-zone.pointers z) seq is w'.if-named-i.false
          ] in
          record {
            padded = subst (λ d. HasPaddedTo named (z + 1) (view c.args.disk.now) (view d)) (sym w.disk-is)
                (skipped uncut);
            rounded = subst (AreRoundedUp shape named (z + 1) pointers) (sym w.pointers-is) (kept uncut);
          }
    ]
