-- A volume that is padded, whole or in part, is the same volume.
use Rattle.std.proofs.Common.{◌≡◌, ℕ, ◌<◌, ◌≤◌, Bool, true, false, List, length, Some, refl, sym, ap, ap₂, ◌∙◌, subst, inl, inr, arith}
use Rattle.std.proofs.lemmas.Bool.{cases_lt, false≢true}
use Rattle.std.specs.Prelude.{slice_index}
use Rattle.zd_base.specs.Geometry.{Shape, IsShape, zone_count}
use Rattle.zd_base.specs.Layout.{used_blocks}
use Rattle.zd_model.specs.Image.{Image, IsImage, Same, SameZone, set_block}
use Rattle.zd_model.specs.Tables.{BitsFollowRules}
use Rattle.zd_model.specs.Volume.{Chosen, IsWellFormed, content, good_super}
use Rattle.zd_model.proofs.SameLaws.{image_at}
use Rattle.zd_model.proofs.ContentLaws.{content_of_same, well_formed_of_same}
use Rattle.zd_model.proofs.EventLaws.{SameZone-back, SameZone-trans}
use Rattle.zd_sets.specs.Blocks.{blocks_of}
use Rattle.zd_sets.specs.Choice.{IsPlacedChoice}
use Rattle.zd_sets.specs.Equal.{InSet, IsMadeEqual, OnlyAt, head_at}
use Rattle.zd_sets.specs.declared.choice.Chosen.{Chosen as Choice}
use Rattle.zd_sets.proofs.EqualLaws.{first_block, here_inside, only_more, only_then, same_good, same_only, set_still, there_inside}
use Rattle.zd_tables.specs.Tables.{tables_in}
use Rattle.zd_examine.specs.Examined.{ArePointers, IsExamined}
use Rattle.zd_examine.specs.Opened.{HoldsBothSets, HoldsSet, IsOpened, IsSameVolume, ServesContent}
use Rattle.zd_examine.specs.Padded.{AreRoundedUp, HasPad, HasPartOfPads, IsPadded, IsShortOf, block_end, is_cut, needs_pad}
use Rattle.zd_examine.proofs.OpenedLaws.{served_is, was_well_formed}
use Rattle.zd_examine.proofs.PadLaws.{padded_parts, part_from}
use Rattle.zd_examine.proofs.PadSteps.{conventional_none, conventional_uncut, past_none}
use Rattle.zd_examine.proofs.ChosenHead.{chosen_head}

-- an image with a part of its pads, cut back to the pointers before, holds the same as before
module _ {named : List Bool} (j i : Image) (image : IsImage j) (after : IsImage i)
    (parts : HasPartOfPads named j i) where
  abbrev pub cut_back : Image
  cut_back = image_at j.geometry j.held i.sector

  sectors : (z n : ℕ) → n < j.held z → i.sector z n ≡ j.sector z n
  sectors z n low = by_need (needs_pad named j z) refl
    where
      by_need : (b : Bool) → needs_pad named j z ≡ b → i.sector z n ≡ j.sector z n
      by_need true need = (parts.pads z need).before n low
      by_need false none = (parts.others z none).sectors n low

  pub higher : (z : ℕ) → j.held z ≤ i.held z
  higher z = by_need (needs_pad named j z) refl
    where
      by_need : (b : Bool) → needs_pad named j z ≡ b → j.held z ≤ i.held z
      by_need true need = (parts.pads z need).least
      by_need false none = (let same = (parts.others z none).held in omega (arith, same))

  pub cut_same : Same j (image_at j.geometry j.held i.sector)
  cut_same = record { geometry = refl; zones = λ z. record { held = refl; sectors = λ n low. sectors z n low } }

  pub cut_image : IsImage (image_at j.geometry j.held i.sector)
  cut_image = record {
    sectors = λ z n low. after.sectors z n (omega (arith, low, higher z));
    conventional = image.conventional;
    sequential = image.sequential;
  }

  -- so the same set is chosen, and serves the same
  pub padded_volume : (c : Chosen) → IsShape j.geometry → IsWellFormed j c → IsWellFormed i c
      × (content i c ≡ content j c)
  padded_volume c shape well =
      subst (λ (g : Shape). IsWellFormed (image_at g i.held i.sector) c
      × (content (image_at g i.held i.sector) c ≡ content j c))
      (sym parts.geometry) (here, content_of_same j (image_at j.geometry j.held i.sector) c image shape cut_same well)
    where
      cut : IsWellFormed (image_at j.geometry j.held i.sector) c
      cut = well_formed_of_same j (image_at j.geometry j.held i.sector) c image shape cut_same well

      here : IsWellFormed (image_at j.geometry i.held i.sector) c
      here = record {
        is_chosen = cut.is_chosen;
        layout = cut.layout;
        no_other_magic = cut.no_other_magic;
        map = cut.map;
        bits = record {
          named = cut.bits.named;
          below = λ z x far low within valid.
              (let under = cut.bits.below z x far low within valid in omega (arith, under, higher z));
          one_place = cut.bits.one_place;
        };
      }

  pub volume_padded : (old : Image) → IsShape j.geometry → IsSameVolume old j → IsSameVolume old i
  volume_padded old shape v =
      let here = padded_volume v.2.set shape v.2.well_formed in
      (v.0, v.1, record { set = v.2.set; well_formed = here.0; same_head = v.2.same_head; same = here.1 ∙ v.2.same })

-- what was examined, and had both sets made equal
module _ {g : Shape} {c : Choice} {bytes reported : List ℕ} (middle new : Image) (some : 0 < g.zone_blocks)
    (e : IsExamined g c bytes reported middle)
    (placed : IsPlacedChoice g c) (equal : IsMadeEqual g c (used_blocks g c.head.layout) middle new) where
  -- stays so in an image that holds the same
  pub equal_same : (k : Image) → IsImage new → Same new k → IsMadeEqual g c (used_blocks g c.head.layout) middle k
  equal_same k image same =
      let none : OnlyAt (λ z x. ⊥) new k = same_only (λ z x. ⊥) new k image same in
      let shape = equal.only.geometry ∙ sym e.geometry in
      let conv = ap (λ (h : Shape). h.conv) shape in
      let blocks = ap (λ (h : Shape). h.zone_blocks) shape in
      let there = placed.other in
      record {
        only = only_then (InSet g c.other 0 (used_blocks g c.head.layout)) middle new k equal.only
            (only_more (λ z x. ⊥) (InSet g c.other 0 (used_blocks g c.head.layout)) new k
            (λ z x wrong. absurd wrong) none);
        super = same_good new k c.other none.geometry
            (none.elsewhere c.other 0 (omega (arith, conv, there)) (omega (arith, blocks, some)) (λ wrong. wrong))
            ∙ equal.super;
        each = λ n above below. set_still g c.other (λ z x. ⊥) new k some shape none n
            (there_inside g c bytes placed some n below) (λ wrong. wrong)
            ∙ equal.each n above below;
        kept = λ n below. set_still g c.zone (λ z x. ⊥) new k some shape none n
            (here_inside g c bytes placed some n below) (λ wrong. wrong)
            ∙ equal.kept n below;
      }

  -- both sets are held
  there_held : HoldsSet g c.other (used_blocks g c.head.layout) c.head bytes new
  there_held = record {
    super = equal.super;
    each = λ k above below. equal.each k above below ∙ sym (blocks k below);
  }
    where
      blocks : (k : ℕ) → k < used_blocks g c.head.layout → blocks_of bytes k 1 ≡ set_block middle c.zone k
      blocks k below = e.blocks.each k (subst (λ (h : Shape). k < used_blocks h c.head.layout) e.geometry below)

  here_held : HoldsSet g c.zone (used_blocks g c.head.layout) c.head bytes new
  here_held = record {
    super = same_good middle new c.zone equal.only.geometry
        (sym (first_block new c.zone) ∙ equal.kept 0 (omega arith) ∙ first_block middle c.zone)
        ∙ subst (λ (h : Shape). good_super middle c.zone ≡ Some (head_at h c.zone c.head)) (sym e.geometry)
        (chosen_head middle c (subst (λ (h : Shape). IsPlacedChoice h c) e.geometry placed) e.well_formed.is_chosen);
    each = λ k above below. equal.kept k below
        ∙ sym (e.blocks.each k (subst (λ (h : Shape). k < used_blocks h c.head.layout) e.geometry below));
  }

  pub both_held : HoldsBothSets g c bytes new
  both_held = elim placed.places [
    | inl p ↦ record {
      first = subst (λ (z : ℕ). HoldsSet g z (used_blocks g c.head.layout) c.head bytes new) p.1 here_held;
      second = subst (λ (z : ℕ). HoldsSet g z (used_blocks g c.head.layout) c.head bytes new) p.2 there_held;
    }
    | inr p ↦ record {
      first = subst (λ (z : ℕ). HoldsSet g z (used_blocks g c.head.layout) c.head bytes new) p.2 there_held;
      second = subst (λ (z : ℕ). HoldsSet g z (used_blocks g c.head.layout) c.head bytes new) p.1 here_held;
    }
  ]

-- the whole, from a disk that was examined
module _ {g : Shape} {c : Choice} {bytes reported : List ℕ} (old middle j : Image) (first : IsImage old)
    (second : IsImage middle) (third : IsImage j)
    (shape : IsShape old.geometry) (same : Same old middle) (e : IsExamined g c bytes reported middle)
    (placed : IsPlacedChoice g c)
    (equal : IsMadeEqual g c (used_blocks g c.head.layout) middle j) where
  some : 0 < g.zone_blocks
  some = let size = (subst IsShape (sym (e.geometry ∙ same.geometry)) shape).size.least in omega (arith, size)

  -- sequential zones are as they were at first
  pub sequential_same : (z : ℕ) → old.geometry.conv ≤ z → SameZone old j z
  sequential_same z seq =
      let conv = ap (λ (h : Shape). h.conv) same.geometry in
      SameZone-trans old middle j z (same.zones z) (equal.only.sequential z (omega (arith, seq, conv)))

  -- so the same zones need a pad
  pub need_same : (named : List Bool) (z : ℕ) → needs_pad named j z ≡ needs_pad named old z
  need_same named z = elim (cases_lt z old.geometry.conv) [
    | inl conv ↦
        let size = ap (λ (h : Shape). h.conv) (equal.only.geometry ∙ same.geometry) in
        conventional_none named j z (omega (arith, conv, size)) ∙ sym (conventional_none named old z conv)
    | inr seq ↦ ap₂ (λ (h : Shape) (p : ℕ). is_cut h named z p) (equal.only.geometry ∙ same.geometry)
        (sequential_same z seq).held
  ]

  -- with pads in part
  module _ {named : List Bool} (i : Image) (after : IsImage i) (parts : HasPartOfPads named j i) where
    pub sets_held : HoldsBothSets g c bytes i
    sets_held = subst (λ (h : Shape). HoldsBothSets g c bytes (image_at h i.held i.sector)) (sym parts.geometry) here
      where
        cut : HoldsBothSets g c bytes (image_at j.geometry j.held i.sector)
        cut = both_held middle (image_at j.geometry j.held i.sector) some e placed
            (equal_same middle j some e placed equal (image_at j.geometry j.held i.sector) third
            (cut_same j i third after parts))

        here : HoldsBothSets g c bytes (image_at j.geometry i.held i.sector)
        here = record {
          first = record { super = cut.first.super; each = cut.first.each };
          second = record { super = cut.second.super; each = cut.second.each };
        }

    pub content_served : BitsFollowRules g (slice_index reported) (tables_in g c.head.layout bytes)
        → ServesContent g c bytes old i
    content_served bits = record {
      served = served_is g c bytes reported old middle (image_at j.geometry j.held i.sector) first second
          (cut_image j i third after parts) shape same e placed
          (equal_same middle j some e placed equal (image_at j.geometry j.held i.sector) third
          (cut_same j i third after parts));
      bits = record {
        named = bits.named;
        below = λ z x far low within valid. (
            let under = bits.below z x far low within valid in
            let conv = ap (λ (h : Shape). h.conv) e.geometry in
            let count = ap (λ (h : Shape). zone_count h) e.geometry in
            let at = e.pointers.sequential z (omega (arith, far, conv)) (omega (arith, low, count)) in
            let stays = (equal.only.sequential z (omega (arith, far, conv))).held in
            omega (arith, under, at, stays, higher j i third after parts z));
        one_place = bits.one_place;
      };
    }

  -- with all pads
  module _ {named : List Bool} (w : Image) (after : IsImage w) (rounded : List ℕ)
      (up : AreRoundedUp g named (zone_count g) reported rounded) (padded : IsPadded named (zone_count g) j w)
      (size : length named ≡ zone_count g) where
    geometries : w.geometry ≡ g
    geometries = padded.geometry ∙ equal.only.geometry ∙ sym e.geometry

    pub pointers_padded : ArePointers w rounded
    pointers_padded = record {
      count = up.count ∙ e.pointers.count ∙ ap (λ (h : Shape). zone_count h) (sym (geometries ∙ e.geometry));
      conventional = λ z low. (
          let here : z < g.conv = subst (λ (h : Shape). z < h.conv) geometries low in
          up.others z (conventional_uncut g named z (slice_index reported z) here)
          ∙ e.pointers.conventional z (subst (λ (h : Shape). z < h.conv) e.geometry here));
      sequential = λ z seq low. at z (subst (λ (h : Shape). h.conv ≤ z) geometries seq)
          (subst (λ (h : Shape). z < zone_count h) geometries low);
    }
      where
        at : (z : ℕ) → g.conv ≤ z → z < zone_count g → slice_index rounded z ≡ w.held z
        at z seq low = by_cut (is_cut g named z (slice_index reported z)) refl
          where
            was : slice_index reported z ≡ j.held z
            was = e.pointers.sequential z (subst (λ (h : Shape). h.conv ≤ z) e.geometry seq)
                (subst (λ (h : Shape). z < zone_count h) e.geometry low)
                ∙ sym (equal.only.sequential z (subst (λ (h : Shape). h.conv ≤ z) e.geometry seq)).held

            need : needs_pad named j z ≡ is_cut g named z (slice_index reported z)
            need = ap₂ (λ (h : Shape) (p : ℕ). is_cut h named z p) (equal.only.geometry ∙ sym e.geometry) (sym was)

            by_cut : (b : Bool) → is_cut g named z (slice_index reported z) ≡ b → slice_index rounded z ≡ w.held z
            by_cut true cut = up.pads z low cut ∙ ap block_end was ∙ sym (padded.pads z low (need ∙ cut)).held
            by_cut false none = up.others z none ∙ was ∙ sym (padded.others z (need ∙ none)).held

    pub opened : IsOpened g c bytes rounded named old w
    opened = record {
      geometry = sym geometries;
      stays = padded.geometry ∙ equal.only.geometry ∙ same.geometry;
      well_formed = was_well_formed g c bytes reported old middle w first second after shape same e;
      served = served_is g c bytes reported old middle (image_at j.geometry j.held w.sector) first second
          (cut_image j w third after (padded_parts padded)) shape same e placed
          (equal_same middle j some e placed equal (image_at j.geometry j.held w.sector) third
          (cut_same j w third after (padded_parts padded)));
      pointers = pointers_padded;
      pads = λ z need. elim (cases_lt z old.geometry.conv) [
        | inl conv ↦ absurd (false≢true (sym (conventional_none named old z conv) ∙ need))
        | inr seq ↦ elim (cases_lt z (zone_count g)) [
          | inl low ↦
              let pad = padded.pads z low (need_same named z ∙ need) in
              let stays = sequential_same z seq in
              record { held = pad.held ∙ ap block_end stays.held; part = part_from stays pad.part }
          | inr past ↦ absurd (false≢true (sym (past_none named old z (omega (arith, past, size))) ∙ need))
        ]
      ];
      others = λ z seq none. SameZone-trans old j w z (sequential_same z seq)
          (padded.others z (need_same named z ∙ none));
    }

-- where no zone needs a pad, each image with parts of the pads holds the same
pub unpadded : {named : List Bool} {upto : ℕ} (j now i : Image) → IsPadded named upto j now
    → HasPartOfPads named j i → ((z : ℕ) → needs_pad named j z ≡ false) → Same now i
unpadded j now i whole parts none = record {
  geometry = parts.geometry ∙ sym whole.geometry;
  zones = λ z. SameZone-back j now i z (whole.others z (none z)) (parts.others z (none z));
}

-- an image with parts of the pads lacks no more than their ends
pub short_of : {named : List Bool} {upto : ℕ} (j now i : Image) → IsPadded named upto j now
    → HasPartOfPads named j i → length named ≤ upto → IsShortOf now i
short_of {named} {upto} j now i whole parts size = record {
  geometry = parts.geometry ∙ sym whole.geometry;
  conventional = λ z low. (
      let none = conventional_none named j z (subst (λ (h : Shape). z < h.conv) whole.geometry low) in
      SameZone-back j now i z (whole.others z none) (parts.others z none));
  held = λ z seq. held_by z (needs_pad named j z) refl;
  sectors = λ z n seq low. sector_by z n low (needs_pad named j z) refl;
}
  where
    pad_at : (z : ℕ) → needs_pad named j z ≡ true → HasPad j now z
    pad_at z need = elim (cases_lt z upto) [
      | inl low ↦ whole.pads z low need
      | inr past ↦ absurd (false≢true (sym (past_none named j z (omega (arith, past, size))) ∙ need))
    ]

    held_by : (z : ℕ) (b : Bool) → needs_pad named j z ≡ b → i.held z ≤ now.held z
    held_by z true need =
        (let all = (pad_at z need).held in let most = (parts.pads z need).most in omega (arith, all, most))
    held_by z false none =
        (let one = (whole.others z none).held in let two = (parts.others z none).held in omega (arith, one, two))

    sector_by : (z n : ℕ) → n < i.held z → (b : Bool) → needs_pad named j z ≡ b → i.sector z n ≡ now.sector z n
    sector_by z n low true need =
        let pad = pad_at z need in
        let part = parts.pads z need in
        elim (cases_lt n (j.held z)) [
          | inl before ↦ part.before n before ∙ sym (pad.part.before n before)
          | inr behind ↦ part.zeros n behind low
              ∙ sym (pad.part.zeros n behind
              (let most = part.most in let all = pad.held in omega (arith, most, all, low)))
        ]
    sector_by z n low false none =
        let same = SameZone-back j now i z (whole.others z none) (parts.others z none) in
        same.sectors n (let held = same.held in omega (arith, held, low))
