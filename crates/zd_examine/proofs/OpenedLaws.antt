-- What opening makes of a disk: the same volume, whose tables serve its content.
use Rattle.std.proofs.Common.{◌≡◌, ℕ, ◌+◌, ◌*◌, ◌<◌, List, [], Some, IsNone, Option, sym, ap, ap₂, ◌∙◌, subst, inl, inr, arith}
use Rattle.std.proofs.lemmas.Bool.{cases_lt}
use Rattle.zd_base.specs.Geometry.{Shape, IsShape}
use Rattle.zd_base.specs.Layout.{Fits, set_zones, used_blocks}
use Rattle.zd_model.specs.Faults.{bad_bit, bad_chunk}
use Rattle.zd_model.specs.Image.{Image, IsImage, Same, block_at}
use Rattle.zd_model.specs.Tables.{Tables, served}
use Rattle.zd_model.specs.Super.{decoded}
use Rattle.zd_model.specs.Volume.{Chosen, IsWellFormed, chosen, content, good_super, has_magic, if_own, tables_of}
use Rattle.zd_model.specs.declared.metadata.Super.{Super}
use Rattle.zd_model.proofs.SameLaws.{chosen_first, chosen_of_same, image_at, same_block}
use Rattle.zd_model.proofs.ContentLaws.{content_of_same, same_back, tables_of_same, well_formed_of_same}
use Rattle.zd_sets.specs.Blocks.{AreBlocks}
use Rattle.zd_sets.specs.Choice.{IsChoice, IsMisplaced, IsPlacedChoice, chosen_of}
use Rattle.zd_sets.specs.Equal.{InSet, IsMadeEqual, OnlyAt}
use Rattle.zd_sets.specs.Kept.{KeepsVolume}
use Rattle.zd_sets.specs.declared.choice.Chosen.{Chosen as Choice}
use Rattle.zd_sets.proofs.VolumeLaws.{served_same}
use Rattle.zd_examine.specs.Examined.{ExplainsRefusal, IsExamined, IsPlacedSet}
use Rattle.zd_examine.specs.Opened.{IsSameVolume}
use Rattle.zd_tables.specs.Tables.{tables_in}
use Rattle.zd_examine.specs.declared.examining.OpenFault.{OpenFault}
use Rattle.zd_examine.specs.declared.examining.OpenFault.TheVariants.{NoSuperBlock, Layout as BadLayout, BadMap, BadBits, Device, Memory}
use Rattle.zd_examine.proofs.OpenLaws.{same_bits, tables_are}

-- what was examined
module _ (g : Shape) (c : Choice) (bytes reported : List ℕ) (image : Image) (e : IsExamined g c bytes reported image) where
  pub choice_of : IsChoice c image
  choice_of = record {
    is_chosen = e.well_formed.is_chosen;
    layout = e.well_formed.layout;
    no_other_magic = e.well_formed.no_other_magic;
    other_good = e.other_good;
  }

  pub blocks_of_set : AreBlocks image c.zone (used_blocks g c.head.layout) bytes
  blocks_of_set = subst (λ (h : Shape). AreBlocks image c.zone (used_blocks h c.head.layout) bytes) (sym e.geometry) e.blocks

  pub tables_of_set : tables_in g c.head.layout bytes ≡ tables_of image (chosen_of c)
  tables_of_set =
      ap (λ (h : Shape). tables_in h c.head.layout bytes) e.geometry
      ∙ tables_are image (chosen_of c) bytes e.well_formed.layout e.blocks

-- the reason why an image is no volume is that of an image that holds the same
module _ (old new : Image) (image : IsImage old) (shape : IsShape old.geometry) (same : Same old new) where
  same_chosen : chosen new ≡ chosen old
  same_chosen = chosen_of_same old new image shape same

  same_good : good_super new 0 ≡ good_super old 0
  same_good =
      let some = shape.count.some_conventional in
      let blocks = shape.size.least in
      ap (λ (g : Shape). good_super (image_at g new.held new.sector) 0) same.geometry
      ∙ ap (λ (block : List ℕ). if_own (0 * old.geometry.zone_blocks) (decoded block)) (same_block old new image same 0 0 some (omega arith))

  magic_there : (c : Chosen) (k : ℕ) → c.first + k < old.geometry.conv
      → has_magic (block_at new (c.first + k) 0) ≡ has_magic (block_at old (c.first + k) 0)
  magic_there c k low =
      let blocks = shape.size.least in
      ap has_magic (same_block old new image same (c.first + k) 0 low (omega arith))

  pub misplaced_same : (c : Chosen) → chosen old ≡ Some c → IsMisplaced new c → IsMisplaced old c
  misplaced_same c is (inl misfit) = inl (λ fits. misfit (subst (λ (g : Shape). Fits g c.head.layout) (sym same.geometry) fits))
  misplaced_same c is (inr magic) = elim (cases_lt (c.first + k) old.geometry.conv) [
    | inl low ↦ inr (subst (λ (o : Option Super). IsNone o) same_good magic.0, (k, magic.1.1, omega (arith, magic.1.2, size), sym (magic_there c k low) ∙ magic.1.3))
    | inr high ↦ inl (λ fits. absurd (let first = chosen_first old c is in let room = fits.conventional_data in omega (arith, magic.1.2, size, room, first)))
  ]
    where
      k : ℕ
      k = magic.1.0

      size : set_zones new.geometry c.head.layout ≡ set_zones old.geometry c.head.layout
      size = ap (λ (g : Shape). set_zones g c.head.layout) same.geometry

  pub placed_same : (c : Chosen) → IsPlacedSet new c → IsPlacedSet old c
  placed_same c placed =
      let is = sym same_chosen ∙ placed.is_chosen in
      let fits = subst (λ (g : Shape). Fits g c.head.layout) same.geometry placed.layout in
      record {
        is_chosen = is;
        layout = fits;
        no_other_magic = λ bad k some low. (
            let first = chosen_first old c is in
            let room = fits.conventional_data in
            let size = ap (λ (g : Shape). set_zones g c.head.layout) same.geometry in
            sym (magic_there c k (omega (arith, first, room, low)))
            ∙ placed.no_other_magic (subst (λ (o : Option Super). IsNone o) (sym same_good) bad) k some (omega (arith, low, size)));
      }

  same_tables : (c : Chosen) → IsPlacedSet old c → tables_of new c ≡ tables_of old c
  same_tables c placed = tables_of_same old new c image shape same placed.is_chosen placed.layout

  same_map_fault : (c : Chosen) → IsPlacedSet old c
      → bad_chunk new.geometry c.head.layout [] 0 (tables_of new c).entries ≡ bad_chunk old.geometry c.head.layout [] 0 (tables_of old c).entries
  same_map_fault c placed = ap₂ (λ (g : Shape) (t : Tables). bad_chunk g c.head.layout [] 0 t.entries) same.geometry (same_tables c placed)

  same_bit_fault : (c : Chosen) → IsPlacedSet old c
      → bad_bit new.geometry new.held (tables_of new c) ≡ bad_bit old.geometry old.held (tables_of old c)
  same_bit_fault c placed =
      ap₂ (λ (g : Shape) (t : Tables). bad_bit g new.held t) same.geometry (same_tables c placed)
      ∙ same_bits old.geometry (tables_of old c) new.held old.held (λ z above below. (same.zones z).held)

  pub explains_same : (fault : OpenFault) → ExplainsRefusal fault new → ExplainsRefusal fault old
  explains_same NoSuperBlock none = sym same_chosen ∙ none
  explains_same BadLayout why =
      let is = sym same_chosen ∙ why.1 in
      (why.0, is, misplaced_same why.0 is why.2)
  explains_same (BadMap chunk) why =
      let placed = placed_same why.0 why.1 in
      (why.0, placed, sym (same_map_fault why.0 placed) ∙ why.2)
  explains_same (BadBits zone block) why =
      let placed = placed_same why.0 why.1 in
      (why.0, placed, sym (same_map_fault why.0 placed) ∙ why.2, sym (same_bit_fault why.0 placed) ∙ why.3)
  explains_same Device why = tt
  explains_same Memory why = tt

-- a disk that was flushed, examined, and had both sets made equal
module _ (g : Shape) (c : Choice) (bytes reported : List ℕ) (old middle new : Image) (first : IsImage old) (second : IsImage middle) (third : IsImage new) (shape : IsShape old.geometry) (same : Same old middle) (e : IsExamined g c bytes reported middle) where
  pub was_well_formed : IsWellFormed old (chosen_of c)
  was_well_formed =
      let middle_shape = subst IsShape (sym same.geometry) shape in
      well_formed_of_same middle old (chosen_of c) second middle_shape (same_back old middle same) e.well_formed

  pub served_is : IsPlacedChoice g c → IsMadeEqual g c (used_blocks g c.head.layout) middle new
      → served g.zone_blocks (tables_in g c.head.layout bytes) new.sector ≡ content old (chosen_of c)
  served_is placed equal =
      let middle_shape = subst IsShape (sym same.geometry) shape in
      let here = subst (λ (h : Shape). IsPlacedChoice h c) e.geometry placed in
      let only = subst (λ (h : Shape). OnlyAt (InSet h c.other 0 (used_blocks h c.head.layout)) middle new) e.geometry equal.only in
      ap₂ (λ (h : Shape) (t : Tables). served h.zone_blocks t new.sector) e.geometry (tables_of_set g c bytes reported middle e)
      ∙ served_same middle new c second third middle_shape here e.well_formed only
      ∙ content_of_same old middle (chosen_of c) first shape same was_well_formed

  pub same_volume : KeepsVolume (chosen_of c) middle new → IsSameVolume old new
  same_volume keeps =
      let there = keeps e.well_formed in (
        chosen_of c,
        was_well_formed,
        record {
          set = there.set;
          well_formed = there.well_formed;
          same_head = there.same_head;
          same = there.same ∙ content_of_same old middle (chosen_of c) first shape same was_well_formed;
        },
      )
