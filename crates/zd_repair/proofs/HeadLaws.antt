-- Super blocks written over good ones, done or cut short.
use Rattle.std.proofs.Common.{◌≡◌, ◌⊎◌, Some, ℕ, ◌+◌, ◌*◌, ◌/◌, ◌%◌, ◌<◌, ◌≤◌, List, inl, inr, sym, ap, ◌∙◌, arith}
use Rattle.std.proofs.Math.Nat.{zero-div}
use Rattle.zd_base.specs.Geometry.{Shape}
use Rattle.zd_base.specs.Layout.{Fits, set_zones, used_blocks}
use Rattle.zd_base.specs.declared.layout.Layout.{Layout}
use Rattle.zd_disk.proofs.ViewLaws.{IsWay}
use Rattle.zd_examine.specs.Opened.{HoldsSet}
use Rattle.zd_model.specs.Image.{Image, IsImage, Same, block_at, set_block}
use Rattle.zd_model.specs.Super.{HasBlock, block_of}
use Rattle.zd_model.specs.Volume.{good_super}
use Rattle.zd_model.specs.declared.metadata.Super.{Super}
use Rattle.zd_model.proofs.SameLaws.{same_block}
use Rattle.zd_model.proofs.SuperSpelling.{spells}
use Rattle.zd_sets.specs.Blocks.{blocks_of}
use Rattle.zd_sets.specs.Equal.{HasSuper, InSet, OnlyAt, head_at}
use Rattle.zd_sets.specs.Writes.{WrotePart}
use Rattle.zd_sets.proofs.EqualLaws.{at_front, first_block, in_zones, only_more, only_then, same_good, same_only, set_still}
use Rattle.zd_sets.proofs.MixLaws.{mixed_over_good}
use Rattle.zd_sets.proofs.StopLaws.{mixed_only}
use Rattle.zd_sets.proofs.WayLaws.{outside}
use Rattle.zd_repair.specs.Heads.{HasGoodSuper, HasPartOfHead}

-- a write that is cut short
pub part_head : (g : Shape) (zone : ℕ) (head : Super) (a b : Image) → a.geometry ≡ g → IsImage a → IsImage b
    → zone < g.conv → 0 < g.zone_blocks → HasBlock (head_at g zone head) → HasGoodSuper zone a
    → WrotePart zone 0 (block_of (head_at g zone head)) a b → HasPartOfHead g zone head a b
part_head g zone head a b shape first second low some sizes good w =
    let conv = ap (λ (s : Shape). s.conv) shape in
    let blocks = ap (λ (s : Shape). s.zone_blocks) shape in
    let own = ap (λ (s : Shape). zone * s.zone_blocks) (sym (w.geometry ∙ shape)) in
    record {
      only = only_more (λ z k. (z ≡ zone) × (k ≡ 0)) (InSet g zone 0 1) a b (at_front g zone)
          (mixed_only a b zone 0 8 (block_of (head_at g zone head)) first (omega (arith, low, conv))
          (omega (arith, some, blocks)) (spells (head_at g zone head) sizes).bytes.count (omega arith) w);
      super = mixed_over_good a b first second zone (head_at g zone head) (omega (arith, low, conv))
          (omega (arith, some, blocks)) sizes own w good;
    }

pub head_way : (g : Shape) (zone : ℕ) (head : Super) → zone < g.conv → 0 < g.zone_blocks
    → IsWay g (HasPartOfHead g zone head)
head_way g zone head low some = record {
  same = λ a b image shape same. (
      let conv = ap (λ (s : Shape). s.conv) shape in
      let blocks = ap (λ (s : Shape). s.zone_blocks) shape in
      record {
        only = same_only (InSet g zone 0 1) a b image same;
        super = inl (same_block a b image same zone 0 (omega (arith, low, conv)) (omega (arith, some, blocks)));
      });
  then = λ a b c h k. record {
    only = only_then (InSet g zone 0 1) a b c h.only k.only;
    super = elim k.super [
      | inl stays ↦ elim h.super [
        | inl before ↦ inl (stays ∙ before)
        | inr put ↦ inr (same_good b c zone k.only.geometry stays ∙ put)
      ]
      | inr put ↦ inr put
    ];
  };
}

-- what a set holds after its own super block, or that of the other set, was written
module _ (g : Shape) (l : Layout) (fits : Fits g l) (some : 0 < g.zone_blocks) (first : ℕ)
    (low : first ≤ set_zones g l) (a b : Image) (shape : a.geometry ≡ g) where
  abbrev used : ℕ
  used = used_blocks g l

  inside : (k : ℕ) → k < used → first + k / g.zone_blocks < g.conv
  inside k below =
      let zones = in_zones g l fits some k below in
      let room = fits.conventional_data in
      omega (arith, zones, room, low)

  -- no block of the set is the super block of the other one
  elsewhere : (zone : ℕ) → (zone < first) ⊎ (first + set_zones g l ≤ zone) → (k : ℕ) → k < used
      → InSet g zone 0 1 (first + k / g.zone_blocks) (k % g.zone_blocks) → ⊥
  elsewhere zone apart k below at =
      let zones = in_zones g l fits some k below in
      let none = zero-div g.zone_blocks in
      let here : at.0 ≡ 0 = omega (arith, at.2) in
      let place : first + k / g.zone_blocks ≡ zone =
      (let e = ap (λ (n : ℕ). n / g.zone_blocks) here in omega (arith, at.3, e, none)) in
      elim apart [ inl before ↦ absurd (omega (arith, before, place)) | inr past ↦ absurd (omega (arith, past, place, zones)) ]

  -- the other set's
  pub other_head : (zone : ℕ) → (zone < first) ⊎ (first + set_zones g l ≤ zone) → OnlyAt (InSet g zone 0 1) a b
      → (head : Super) (bytes : List ℕ) → HoldsSet g first used head bytes a → HoldsSet g first used head bytes b
  other_head zone apart only head bytes h = record {
    super = same_good a b first only.geometry
        (sym (first_block b first) ∙ still 0 (omega arith) ∙ first_block a first) ∙ h.super;
    each = λ k above below. still k below ∙ h.each k above below;
  }
    where
      still : (k : ℕ) → k < used → set_block b first k ≡ set_block a first k
      still k below = set_still g first (InSet g zone 0 1) a b some shape only k (inside k below) (elsewhere zone apart k below)

  -- its own one: it has the old head or the new one
  pub own_head : (old new : Super) (bytes : List ℕ) → HasPartOfHead g first new a b → HoldsSet g first used old bytes a
      → HoldsSet g first used old bytes b ⊎ HoldsSet g first used new bytes b
  own_head old new bytes part h = elim part.super [
    | inl same ↦ inl (record { super = same_good a b first part.only.geometry same ∙ h.super; each = rest })
    | inr put ↦ inr (record { super = put; each = rest })
  ]
    where
      rest : (k : ℕ) → 1 ≤ k → k < used → set_block b first k ≡ blocks_of bytes k 1
      rest k above below = set_still g first (InSet g first 0 1) a b some shape part.only k (inside k below)
          (outside g first 0 1 k some (inr above)) ∙ h.each k above below

  -- where it was written, the new one
  pub new_head : (old new : Super) (bytes : List ℕ) → HasSuper g first new a b → HoldsSet g first used old bytes a
      → HoldsSet g first used new bytes b
  new_head old new bytes put h = record {
    super = put.super;
    each = λ k above below. set_still g first (InSet g first 0 1) a b some shape put.only k (inside k below)
        (outside g first 0 1 k some (inr above)) ∙ h.each k above below;
  }

  -- and a flush leaves it as it is
  pub same_head : IsImage a → Same a b → (head : Super) (bytes : List ℕ) → HoldsSet g first used head bytes a
      → HoldsSet g first used head bytes b
  same_head image same head bytes h =
      let zone : ℕ = first + set_zones g l in
      other_head zone (inr (omega arith)) (same_only (InSet g zone 0 1) a b image same) head bytes h

  -- both may be written: it has the old head or the new one
  pub either_head : (zone : ℕ) → (zone < first) ⊎ (first + set_zones g l ≤ zone)
      → OnlyAt (λ z x. InSet g first 0 1 z x ⊎ InSet g zone 0 1 z x) a b
      → (old new : Super) (bytes : List ℕ)
      → (block_at b first 0 ≡ block_at a first 0) ⊎ (good_super b first ≡ Some (head_at g first new))
      → HoldsSet g first used old bytes a → HoldsSet g first used old bytes b ⊎ HoldsSet g first used new bytes b
  either_head zone apart only old new bytes put h = elim put [
    | inl same ↦ inl (record { super = same_good a b first only.geometry same ∙ h.super; each = rest })
    | inr new_one ↦ inr (record { super = new_one; each = rest })
  ]
    where
      rest : (k : ℕ) → 1 ≤ k → k < used → set_block b first k ≡ blocks_of bytes k 1
      rest k above below = set_still g first (λ z x. InSet g first 0 1 z x ⊎ InSet g zone 0 1 z x) a b some shape only k (inside k below)
          (λ at. elim at [
            | inl own ↦ outside g first 0 1 k some (inr above) own
            | inr other ↦ elsewhere zone apart k below other
          ]) ∙ h.each k above below
