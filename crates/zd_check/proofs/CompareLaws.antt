-- What two sets in memory say of the sets in an image.
use Rattle.std.proofs.Common.{◌≡◌, ℕ, ◌*◌, ◌<◌, ◌≤◌, ◌==◌, List, Bool, true, false, cond, Option, Some, None, refl, sym, ap, ◌∙◌, subst, arith}
use Rattle.std.proofs.lemmas.Bool.{eq-eqb}
use Rattle.std.specs.Prelude.{Result, Ok, Err}
use Rattle.zd_base.specs.Geometry.{Shape}
use Rattle.zd_base.specs.Layout.{used_blocks}
use Rattle.zd_model.specs.Image.{Image, block_at, set_block}
use Rattle.zd_model.specs.Super.{decoded}
use Rattle.zd_model.specs.Volume.{if_own}
use Rattle.zd_model.specs.declared.metadata.NotSuper.{NotSuper}
use Rattle.zd_model.specs.declared.metadata.Super.{Super}
use Rattle.zd_sets.specs.Blocks.{AreBlocks, blocks_of}
use Rattle.zd_sets.specs.Choice.{chosen_of}
use Rattle.zd_sets.specs.Equal.{head_at}
use Rattle.zd_sets.specs.declared.choice.Chosen.{Chosen as Choice}
use Rattle.zd_sets.proofs.EqualLaws.{first_block}
use Rattle.zd_examine.specs.Examined.{IsExamined}
use Rattle.zd_check.specs.Verdicts.{AreBothSets, DifferFirstIn, HaveSameBlocks, HaveSameSupers, block_in}

-- a record with the number of its zone is good there
own_good : (number : ℕ) (s : Super) → s.own ≡ number → if_own number (Ok s) ≡ Some s
own_good number s own = ap (λ (b : Bool). cond b (Some s) None) (eq-eqb s.own number own)

-- and what is good was decoded
good_decodes : (number : ℕ) (r : Result Super NotSuper) (s : Super) → if_own number r ≡ Some s → r ≡ Ok s
good_decodes number (Ok t) s good = by_test (t.own == number) good
  where
    by_test : (b : Bool) → ◌≡◌ {A = Option Super} (cond b (Some t) None) (Some s)
        → ◌≡◌ {A = Result Super NotSuper} (Ok t) (Ok s)
    by_test true e = cc
    by_test false e = cc
good_decodes number (Err e) s good = cc

-- what examining found and what was read of the other set
pub both_sets : (g : Shape) (c : Choice) (bytes reported others : List ℕ) (image : Image)
    → IsExamined g c bytes reported image → AreBlocks image c.other (used_blocks g c.head.layout) others
    → AreBothSets g c bytes others image
both_sets g c bytes reported others image found other = record {
  geometry = found.geometry;
  chosen = subst (λ (s : Shape). AreBlocks image c.zone (used_blocks s c.head.layout) bytes)
      (sym found.geometry) found.blocks;
  other = other;
}

module _ (g : Shape) (c : Choice) (bytes others : List ℕ) (image : Image)
    (sets : AreBothSets g c bytes others image) where
  abbrev used : ℕ
  used = used_blocks g c.head.layout

  used_is : used ≡ used_blocks image.geometry c.head.layout
  used_is = ap (λ (h : Shape). used_blocks h c.head.layout) sets.geometry

  head_is : head_at g c.other c.head ≡ head_at image.geometry c.other c.head
  head_is = ap (λ (h : Shape). head_at h c.other c.head) sets.geometry

  other_super : blocks_of others 0 1 ≡ block_at image c.other 0
  other_super = sets.other.each 0 (omega arith) ∙ first_block image c.other

  pub supers_same : decoded (blocks_of others 0 1) ≡ Ok (head_at g c.other c.head)
      → HaveSameSupers image (chosen_of c)
  supers_same is =
      let number = c.other * image.geometry.zone_blocks in
      ap (λ (block : List ℕ). if_own number (decoded block)) (sym other_super)
      ∙ ap (if_own number) (is ∙ ap Ok head_is)
      ∙ own_good number (head_at image.geometry c.other c.head) refl

  pub same_supers : HaveSameSupers image (chosen_of c)
      → decoded (blocks_of others 0 1) ≡ Ok (head_at g c.other c.head)
  same_supers good =
      ap decoded other_super
      ∙ good_decodes (c.other * image.geometry.zone_blocks) (decoded (block_at image c.other 0))
      (head_at image.geometry c.other c.head) good
      ∙ ap Ok (sym head_is)

  same_up_to : (end : ℕ) → end ≤ used → HaveSameBlocks (block_in bytes) (block_in others) end
      → HaveSameBlocks (set_block image c.zone) (set_block image c.other) end
  same_up_to end low same k some below =
      sym (sets.other.each k (omega arith)) ∙ same k some below ∙ sets.chosen.each k (omega arith)

  pub blocks_same : HaveSameBlocks (block_in bytes) (block_in others) used
      → HaveSameBlocks (set_block image c.zone) (set_block image c.other) (used_blocks image.geometry c.head.layout)
  blocks_same same =
      subst (HaveSameBlocks (set_block image c.zone) (set_block image c.other)) used_is
      (same_up_to used (omega arith) same)

  pub differ_first : (k : ℕ) → DifferFirstIn (block_in bytes) (block_in others) used k
      → DifferFirstIn (set_block image c.zone) (set_block image c.other) (used_blocks image.geometry c.head.layout) k
  differ_first k d = record {
    low = d.low;
    high = subst (λ (n : ℕ). k < n) used_is d.high;
    differ = λ same. d.differ (sets.other.each k d.high ∙ same ∙ sym (sets.chosen.each k d.high));
    before = same_up_to k (let high = d.high in omega (arith, high)) d.before;
  }
