-- What opening promises is what a volume starts from.
use Rattle.std.proofs.Common.{◌≡◌, ℕ, ◌+◌, ◌*◌, ◌/◌, ◌%◌, ◌<◌, ◌≤◌, List, length, get_or, slice_index, Bool, false, Some, sym, ap}
use Rattle.std.proofs.Common.{◌∙◌}
use Rattle.std.proofs.Common.{subst, arith}
use Rattle.std.proofs.lemmas.List.{get_or-map}
use Rattle.std.specs.Prelude.{slice_index_or}
use Rattle.std.proofs.Math.Nat.{mod-lt}
use Rattle.zd_base.specs.Geometry.{IsShape, Shape, zone_count}
use Rattle.zd_base.specs.Layout.{Fits, rounded_up, set_zones, used_blocks}
use Rattle.zd_base.specs.declared.layout.Layout.{Layout}
use Rattle.zd_disk.specs.OfGeometry.{IsImageOf}
use Rattle.zd_disk.specs.Steps.{piece}
use Rattle.zd_disk.specs.View.{View}
use Rattle.zd_disk.proofs.ToldLaws.{Some-same}
use Rattle.zd_disk.proofs.ViewLaws.{turned_back}
use Rattle.zd_examine.specs.Opened.{HoldsBothSets, HoldsSet, IsOpened, IsOpening}
use Rattle.zd_examine.specs.declared.examining.Image.{Image as Volume}
use Rattle.zd_model.specs.Bytes.{zero_sector}
use Rattle.zd_model.specs.Image.{Image, block_at}
use Rattle.zd_model.specs.Tables.{Tables}
use Rattle.zd_model.specs.declared.metadata.Super.{Super}
use Rattle.zd_model.proofs.ContentLaws.{length-served, served-at}
use Rattle.zd_open.specs.OpenedVolume.{in_blocks}
use Rattle.zd_open.proofs.NamedZones.{flagged}
use Rattle.zd_sets.specs.Blocks.{blocks_of}
use Rattle.zd_sets.specs.Stages.{HasSet}
use Rattle.zd_sets.specs.declared.choice.Chosen.{Chosen}
use Rattle.zd_sets.proofs.ChosenBlocks.{set_conventional}
use Rattle.zd_sets.proofs.MixLaws.{piece_at}
use Rattle.zd_tables.specs.Rules.{AreBelow}
use Rattle.zd_tables.specs.Tables.{tables_in}
use Rattle.zd_volume.specs.Starts.{HoldsTables, OpensAs}
use Rattle.zd_volume.specs.Volumes.{StandInZones}
use Rattle.zd_volume.proofs.FixedStart.{same_sets}
use Rattle.zd_volume.proofs.Images.{length-device}

module _ (g : Shape) (l : Layout) (shape : IsShape g) (fits : Fits g l) (i : Image) (of : IsImageOf g i) where
  -- a set that has these blocks has their sectors
  has_set : (first : ℕ) → first ≤ set_zones g l → (head : Super) (bytes : List ℕ)
      → HoldsSet g first (used_blocks g l) head bytes i → HasSet g first (used_blocks g l) head bytes i
  has_set first low head bytes holds = record {
    super = holds.super;
    each = λ k j above below few.
        sym (piece_at (i.sector (first + k / g.zone_blocks)) (8 * (k % g.zone_blocks)) 8 j (sizes k below) few)
        ∙ ap (λ (block : List ℕ). piece block j)
        (subst (λ (h : Shape). block_at i (first + k / h.zone_blocks) (k % h.zone_blocks) ≡ blocks_of bytes k 1)
        of.geometry (holds.each k above below));
  }
    where
      sizes : (k : ℕ) → k < used_blocks g l → (m : ℕ) → 8 * (k % g.zone_blocks) ≤ m
          → m < 8 * (k % g.zone_blocks) + 8 → length (i.sector (first + k / g.zone_blocks) m) ≡ 512
      sizes k below m from to =
          let set = set_conventional g l shape fits first low in
          let conv = ap (λ (h : Shape). h.conv) of.geometry in
          let blocks = ap (λ (h : Shape). h.zone_blocks) of.geometry in
          let inside = set.inside k below in
          let held = of.image.conventional (first + k / g.zone_blocks) (omega (arith, conv, inside)) in
          let place = mod-lt k set.some in
          (of.image.sectors (first + k / g.zone_blocks) m (omega (arith, held, blocks, place, to))).0

-- both sets have the tables
holds_tables : (g : Shape) (c : Chosen) (bytes : List ℕ) → IsShape g → Fits g c.head.layout → (i : Image)
    → IsImageOf g i → HoldsBothSets g c bytes i → AreBelow g i.held (tables_in g c.head.layout bytes)
    → HoldsTables (same_sets g c.head bytes) i
holds_tables g c bytes shape fits i of holds below = record {
  first = has_set g c.head.layout shape fits i of 0 (omega arith) c.head bytes holds.first;
  second = has_set g c.head.layout shape fits i of (set_zones g c.head.layout) (omega arith) c.head bytes holds.second;
  below = below;
}

module _ (v : Volume) (u w : View) (o : IsOpening v u w) (shape : IsShape v.geometry) where
  of_reads : (r : Image) → w.zones ≡ Some r → IsImageOf v.geometry r
  of_reads r t = record {
    image = w.shaped r t;
    geometry = Some-same r.geometry v.geometry (sym (w.agrees r t) ∙ o.told);
  }

  of_left : (c : Image) → w.left w.calls c → IsImageOf v.geometry c
  of_left c can =
      let law = w.leaves w.calls c (omega arith) can in
      record { image = law.0; geometry = Some-same c.geometry v.geometry (sym law.1 ∙ o.told) }

  -- the pointers are those of what the disk reads as
  pointer_is : (old r : Image)
      → IsOpened v.geometry v.chosen v.blocks v.pointers.items v.named.items old r → (z : ℕ)
      → v.geometry.conv ≤ z → z < zone_count v.geometry → slice_index v.pointers.items z ≡ r.held z
  pointer_is old r is =
      subst (λ (h : Shape). (z : ℕ) → h.conv ≤ z → z < zone_count h → slice_index v.pointers.items z ≡ r.held z)
      (sym is.geometry) is.pointers.sequential

  abbrev tables : Tables
  tables = tables_in v.geometry v.chosen.head.layout v.blocks

  -- no pointer is behind its zone's end
  pub in_zones_opened : StandInZones v.geometry (in_blocks v.pointers.items)
  in_zones_opened = record {
    at = λ z conv low.
        let count = o.usable.count in
        let here = get_or-map (λ p. rounded_up p 8) v.pointers.items z 0 0 (omega (arith, count, low)) in
        let within = o.usable.within z in
        omega (arith, here, within);
  }

  -- AN OPENED DISK is one over which a volume may start
  pub opened_as : OpensAs (same_sets v.geometry v.chosen.head v.blocks) (in_blocks v.pointers.items) w
  opened_as = record {
    reads = λ r t.
        let before = turned_back o.opened r t in
        holds_tables v.geometry v.chosen v.blocks shape o.usable.placed.fits r (of_reads r t) (o.sets.now r t)
        (λ z x conv low few valid.
        let at = pointer_is before.0 r before.2 z conv low in
        let under = o.usable.bits.below z x conv low few valid in
        omega (arith, at, under));
    pointers_are = λ r t.
        let before = turned_back o.opened r t in
        record {
          at = λ z conv low.
              let count = o.usable.count in
              get_or-map (λ p. rounded_up p 8) v.pointers.items z 0 0 (omega (arith, count, low))
              ∙ ap (λ (p : ℕ). rounded_up p 8) (pointer_is before.0 r before.2 z conv low);
        };
    whole = λ r t.
        let before = turned_back o.opened r t in
        record {
          at = λ z conv n.
              let low = (o.usable.map.data_zones n.0 z n.1).1 in
              ap (λ (p : ℕ). p % 8) (sym (pointer_is before.0 r before.2 z conv low))
              ∙ o.whole.whole z conv
              (ap (λ (fs : List Bool). slice_index_or fs z false) o.usable.flags
              ∙ flagged v.geometry tables n.0 z low n.1);
        };
    leaves = λ small r t c can.
        let before = turned_back o.opened r t in
        holds_tables v.geometry v.chosen v.blocks shape o.usable.placed.fits c (of_left c can) (o.sets.left small c can)
        (o.leaves small before.0 before.1 c can).bits.below;
    content = λ small r t c can n low.
        let before = turned_back o.opened r t in
        let all = length-device (same_sets v.geometry v.chosen.head v.blocks) v.blocks c in
        let size = length-served v.geometry.zone_blocks tables c.sector in
        sym (served-at v.geometry.zone_blocks tables c.sector n zero_sector
        (omega (arith, all, size, low)))
        ∙ ap (λ (xs : List (List ℕ)). get_or xs n zero_sector)
        ((o.leaves small before.0 before.1 c can).served ∙ sym before.2.served)
        ∙ served-at v.geometry.zone_blocks tables r.sector n zero_sector
        (omega (arith, all, size, low));
  }
