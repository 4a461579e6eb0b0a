use Rattle.std.proofs.Common.{ℕ, Bool, List, ◌++◌, take, drop, length, sym, ap, ◌∙◌, subst, arith}
use Rattle.zd_base.specs.Geometry.{IsShape, zone_count}
use Rattle.zd_examine.specs.Padded.{AreRoundedUp}
use Rattle.zd_disk.proofs.ToldLaws.{Some-same}
use Rattle.zd_disk.proofs.ViewLaws.{durable_read, read_as, reaches_read, turned}
use Rattle.zd_examine.proofs.CountLaws.{counted_sets}
use Rattle.zd_examine.proofs.LeftLaws.{has_made, made_keeps, made_way, settled_keeps, settled_way, way_keeps}
use Rattle.zd_examine.proofs.OpenedLaws.{blocks_of_set, choice_of, explains_same}
use Rattle.zd_examine.proofs.PadViews.{HasPads, opening_is, pads_keep, pads_way}
use Rattle.zd_examine.proofs.PointerLaws.{flag_count, pointers_made, with_all}
use Rattle.zd_disk.specs.Told.{WhereTold}
use Rattle.zd_examine.specs.Examined.{ArePointers}
use Rattle.zd_examine.proofs.opening.open.Goals as goal

pub make_equal-requires-clause-chosen : goal.make_equal-requires-clause-chosen
make_equal-requires-clause-chosen g c image z =
    let volume = c.in-Ok-examine.image in
    choice_of volume.geometry volume.chosen volume.blocks volume.pointers.items image
    (c.in-Ok-examine.ensures.ok image (sym c.examine.ensures.reads.zones ∙ z))

pub make_equal-requires-clause-blocks : goal.make_equal-requires-clause-blocks
make_equal-requires-clause-blocks g c image z =
    let volume = c.in-Ok-examine.image in
    blocks_of_set volume.geometry volume.chosen volume.blocks volume.pointers.items image
    (c.in-Ok-examine.ensures.ok image (sym c.examine.ensures.reads.zones ∙ z))

pub returns-in-Err-clause-err : goal.returns-in-Err-clause-err
returns-in-Err-clause-err g c image z =
    let view = g.D.ZonedDisk.view in
    let settled = turned c.settle_disk.ensures.way.reads image z in
    let is = read_as {v = view c.settle_disk.new.disk} c.in-Ok.ensures.told settled.0 settled.1 in
    explains_same image settled.0 ((view c.args.disk.now).shaped image z)
    (subst IsShape (sym is.geometry ∙ settled.2.geometry) c.in-Ok.ensures.shape)
    settled.2 c.in-Err.fault (c.in-Err.ensures.err settled.0 settled.1)

pub returns-in_default-clause-way : goal.returns-in_default-clause-way
returns-in_default-clause-way g c =
    settled_way c.settle_disk.ensures.way

pub returns-in_default-clause-kept : goal.returns-in_default-clause-kept
returns-in_default-clause-kept g c =
    way_keeps (settled_way c.settle_disk.ensures.way)

pub returns-in-Err-clause-way : goal.returns-in-Err-clause-way
returns-in-Err-clause-way g c =
    settled_way (reaches_read c.settle_disk.ensures.way c.examine.ensures.reads)

pub returns-in-Err-clause-kept : goal.returns-in-Err-clause-kept
returns-in-Err-clause-kept g c =
    way_keeps (settled_way (reaches_read c.settle_disk.ensures.way c.examine.ensures.reads))

pub returns-in-Err-clause-settled : goal.returns-in-Err-clause-settled
returns-in-Err-clause-settled g c fine =
    settled_keeps (reaches_read c.settle_disk.ensures.way c.examine.ensures.reads)
    (c.examine.ensures.reads.calls ∙ c.in-Ok.ensures.counted)
    (durable_read c.examine.ensures.reads c.in-Ok.ensures.durable)

-- the other set could not be made equal
pub returns-in_default-make_equal-clause-way : goal.returns-in_default-make_equal-clause-way
returns-in_default-make_equal-clause-way g c =
    made_way (c.examine.ensures.reads.stays.told _ c.in-Ok.ensures.told) c.in-Ok.ensures.shape
    (reaches_read c.settle_disk.ensures.way c.examine.ensures.reads)
    (λ i e. c.in-Ok-examine.ensures.ok i (sym c.examine.ensures.reads.zones ∙ e))
    (durable_read c.examine.ensures.reads c.in-Ok.ensures.durable) c.make_equal.ensures.kept c.make_equal.ensures.way

pub returns-in_default-make_equal-clause-kept : goal.returns-in_default-make_equal-clause-kept
returns-in_default-make_equal-clause-kept g c =
    way_keeps (made_way (c.examine.ensures.reads.stays.told _ c.in-Ok.ensures.told) c.in-Ok.ensures.shape
    (reaches_read c.settle_disk.ensures.way c.examine.ensures.reads)
    (λ i e. c.in-Ok-examine.ensures.ok i (sym c.examine.ensures.reads.zones ∙ e))
    (durable_read c.examine.ensures.reads c.in-Ok.ensures.durable) c.make_equal.ensures.kept c.make_equal.ensures.way)

pub returns-in_default-make_equal-clause-settled : goal.returns-in_default-make_equal-clause-settled
returns-in_default-make_equal-clause-settled g c two =
    made_keeps (c.examine.ensures.reads.stays.told _ c.in-Ok.ensures.told) c.in-Ok.ensures.shape
    (reaches_read c.settle_disk.ensures.way c.examine.ensures.reads)
    (λ i e. c.in-Ok-examine.ensures.ok i (sym c.examine.ensures.reads.zones ∙ e))
    (durable_read c.examine.ensures.reads c.in-Ok.ensures.durable) c.make_equal.ensures.kept
    (c.examine.ensures.reads.calls ∙ c.in-Ok.ensures.counted)

-- it was, and zones are padded
pub pad-requires-clause-flags : goal.pad-requires-clause-flags
pad-requires-clause-flags g c =
    ap (λ (fs : List Bool). length fs) c.deref.ensures.value ∙ flag_count c.in-Ok-examine.ensures.usable

pub pad-requires-clause-pointers : goal.pad-requires-clause-pointers
pad-requires-clause-pointers g c =
    subst (λ (ps : List ℕ). WhereTold (g.D.ZonedDisk.view c.make_equal.new.disk).zones (λ i. ArePointers i ps))
    (sym c.deref_mut.ensures.value)
    (pointers_made c.in-Ok-make_equal.ensures.ok
    (λ i e. c.in-Ok-examine.ensures.ok i (sym c.examine.ensures.reads.zones ∙ e)))

pub returns-in-Ok-pad-clause-way : goal.returns-in-Ok-pad-clause-way
returns-in-Ok-pad-clause-way g c =
    pads_way (has_made (c.examine.ensures.reads.stays.told _ c.in-Ok.ensures.told) c.in-Ok.ensures.shape
    (reaches_read c.settle_disk.ensures.way c.examine.ensures.reads)
    (λ i e. c.in-Ok-examine.ensures.ok i (sym c.examine.ensures.reads.zones ∙ e))
    c.in-Ok-make_equal.ensures.ok c.make_equal.ensures.kept) c.pad.ensures.way
    (made_way (c.examine.ensures.reads.stays.told _ c.in-Ok.ensures.told) c.in-Ok.ensures.shape
    (reaches_read c.settle_disk.ensures.way c.examine.ensures.reads)
    (λ i e. c.in-Ok-examine.ensures.ok i (sym c.examine.ensures.reads.zones ∙ e))
    (durable_read c.examine.ensures.reads c.in-Ok.ensures.durable) c.make_equal.ensures.kept c.make_equal.ensures.way)

pub returns-in-Ok-pad-clause-kept : goal.returns-in-Ok-pad-clause-kept
returns-in-Ok-pad-clause-kept g c =
    way_keeps (pads_way (has_made (c.examine.ensures.reads.stays.told _ c.in-Ok.ensures.told) c.in-Ok.ensures.shape
    (reaches_read c.settle_disk.ensures.way c.examine.ensures.reads)
    (λ i e. c.in-Ok-examine.ensures.ok i (sym c.examine.ensures.reads.zones ∙ e))
    c.in-Ok-make_equal.ensures.ok c.make_equal.ensures.kept) c.pad.ensures.way
    (made_way (c.examine.ensures.reads.stays.told _ c.in-Ok.ensures.told) c.in-Ok.ensures.shape
    (reaches_read c.settle_disk.ensures.way c.examine.ensures.reads)
    (λ i e. c.in-Ok-examine.ensures.ok i (sym c.examine.ensures.reads.zones ∙ e))
    (durable_read c.examine.ensures.reads c.in-Ok.ensures.durable) c.make_equal.ensures.kept
    c.make_equal.ensures.way))

pub returns-in-Ok-pad-clause-settled : goal.returns-in-Ok-pad-clause-settled
returns-in-Ok-pad-clause-settled g c two =
    pads_keep (has_made (c.examine.ensures.reads.stays.told _ c.in-Ok.ensures.told) c.in-Ok.ensures.shape
    (reaches_read c.settle_disk.ensures.way c.examine.ensures.reads)
    (λ i e. c.in-Ok-examine.ensures.ok i (sym c.examine.ensures.reads.zones ∙ e))
    c.in-Ok-make_equal.ensures.ok c.make_equal.ensures.kept) c.pad.ensures.way
    (made_keeps (c.examine.ensures.reads.stays.told _ c.in-Ok.ensures.told) c.in-Ok.ensures.shape
    (reaches_read c.settle_disk.ensures.way c.examine.ensures.reads)
    (λ i e. c.in-Ok-examine.ensures.ok i (sym c.examine.ensures.reads.zones ∙ e))
    (durable_read c.examine.ensures.reads c.in-Ok.ensures.durable) c.make_equal.ensures.kept
    (c.examine.ensures.reads.calls ∙ c.in-Ok.ensures.counted))

pub returns-in-Err-pad-clause-way : goal.returns-in-Err-pad-clause-way
returns-in-Err-pad-clause-way g c =
    pads_way (has_made (c.examine.ensures.reads.stays.told _ c.in-Ok.ensures.told) c.in-Ok.ensures.shape
    (reaches_read c.settle_disk.ensures.way c.examine.ensures.reads)
    (λ i e. c.in-Ok-examine.ensures.ok i (sym c.examine.ensures.reads.zones ∙ e))
    c.in-Ok-make_equal.ensures.ok c.make_equal.ensures.kept) c.pad.ensures.way
    (made_way (c.examine.ensures.reads.stays.told _ c.in-Ok.ensures.told) c.in-Ok.ensures.shape
    (reaches_read c.settle_disk.ensures.way c.examine.ensures.reads)
    (λ i e. c.in-Ok-examine.ensures.ok i (sym c.examine.ensures.reads.zones ∙ e))
    (durable_read c.examine.ensures.reads c.in-Ok.ensures.durable) c.make_equal.ensures.kept c.make_equal.ensures.way)

pub returns-in-Err-pad-clause-kept : goal.returns-in-Err-pad-clause-kept
returns-in-Err-pad-clause-kept g c =
    way_keeps (pads_way (has_made (c.examine.ensures.reads.stays.told _ c.in-Ok.ensures.told) c.in-Ok.ensures.shape
    (reaches_read c.settle_disk.ensures.way c.examine.ensures.reads)
    (λ i e. c.in-Ok-examine.ensures.ok i (sym c.examine.ensures.reads.zones ∙ e))
    c.in-Ok-make_equal.ensures.ok c.make_equal.ensures.kept) c.pad.ensures.way
    (made_way (c.examine.ensures.reads.stays.told _ c.in-Ok.ensures.told) c.in-Ok.ensures.shape
    (reaches_read c.settle_disk.ensures.way c.examine.ensures.reads)
    (λ i e. c.in-Ok-examine.ensures.ok i (sym c.examine.ensures.reads.zones ∙ e))
    (durable_read c.examine.ensures.reads c.in-Ok.ensures.durable) c.make_equal.ensures.kept
    c.make_equal.ensures.way))

pub returns-in-Err-pad-clause-settled : goal.returns-in-Err-pad-clause-settled
returns-in-Err-pad-clause-settled g c two =
    pads_keep (has_made (c.examine.ensures.reads.stays.told _ c.in-Ok.ensures.told) c.in-Ok.ensures.shape
    (reaches_read c.settle_disk.ensures.way c.examine.ensures.reads)
    (λ i e. c.in-Ok-examine.ensures.ok i (sym c.examine.ensures.reads.zones ∙ e))
    c.in-Ok-make_equal.ensures.ok c.make_equal.ensures.kept) c.pad.ensures.way
    (made_keeps (c.examine.ensures.reads.stays.told _ c.in-Ok.ensures.told) c.in-Ok.ensures.shape
    (reaches_read c.settle_disk.ensures.way c.examine.ensures.reads)
    (λ i e. c.in-Ok-examine.ensures.ok i (sym c.examine.ensures.reads.zones ∙ e))
    (durable_read c.examine.ensures.reads c.in-Ok.ensures.durable) c.make_equal.ensures.kept
    (c.examine.ensures.reads.calls ∙ c.in-Ok.ensures.counted))

pub returns-in-Ok-pad-clause-ok : goal.returns-in-Ok-pad-clause-ok
returns-in-Ok-pad-clause-ok g c =
    let view = g.D.ZonedDisk.view in
    let image = c.in-Ok-examine.image in
    let told = c.in-Ok-examine.ensures.told in
    let same = Some-same _ _ (sym (c.examine.ensures.reads.stays.told _ c.in-Ok.ensures.told) ∙ told) in
    let shape = (subst IsShape same c.in-Ok.ensures.shape).size.least in
    let up = c.in-Ok-pad.ensures.rounded in
    let rounded : List ℕ = take image.pointers.len
    (c.pad.new.pointers ++ drop (length c.pad.new.pointers) image.pointers.items) in
    let items = with_all image.pointers.items c.pad.new.pointers image.pointers.len
    (omega (arith, up.count, c.deref_mut.ensures.len)) in
    opening_is (c.make_equal.ensures.way.stays.told _ told) c.in-Ok-examine.ensures.usable
    (has_made (c.examine.ensures.reads.stays.told _ c.in-Ok.ensures.told) c.in-Ok.ensures.shape
    (reaches_read c.settle_disk.ensures.way c.examine.ensures.reads)
    (λ i e. c.in-Ok-examine.ensures.ok i (sym c.examine.ensures.reads.zones ∙ e))
    c.in-Ok-make_equal.ensures.ok c.make_equal.ensures.kept)
    (counted_sets image.geometry c.in-Ok-examine.ensures.usable.placed (omega (arith, shape)) told
    (c.examine.ensures.reads.calls ∙ c.in-Ok.ensures.counted)
    (reaches_read c.settle_disk.ensures.way c.examine.ensures.reads)
    c.make_equal.ensures.way.order c.in-Ok-make_equal.ensures.counted)
    (subst (λ (ns : List Bool). HasPads image.geometry ns image.pointers.items rounded
    (view c.make_equal.new.disk) (view c.pad.new.disk)) c.deref.ensures.value (record {
      padded = c.in-Ok-pad.ensures.ok;
      rounded_up = subst (λ (ps : List ℕ). AreRoundedUp image.geometry c.deref.result.now
          (zone_count image.geometry) ps rounded) c.deref_mut.ensures.value
          (subst (AreRoundedUp image.geometry c.deref.result.now
          (zone_count image.geometry) c.deref_mut.result.now) (sym items) up);
      way = c.pad.ensures.way;
      ascending = c.pad.ensures.ascending;
      counted = c.in-Ok-pad.ensures.counted;
    }))
