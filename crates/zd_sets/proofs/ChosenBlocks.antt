-- Which set is chosen where both super blocks are good, and that its blocks are those that stand in it.
use Rattle.std.proofs.Common.{◌≡◌, ◌==◌, ℕ, ◌*◌, ◌<◌, ◌≤◌, List, length, Some, None, IsNone, Option, true, false, nat_lt, refl, sym, ap, ◌∙◌, subst, arith}
use Rattle.std.proofs.lemmas.Bool.{eq-eqb, lt-ltb, le-ltb}
use Rattle.zd_base.specs.Geometry.{IsShape, Shape}
use Rattle.zd_base.specs.Layout.{Fits, set_zones, used_blocks}
use Rattle.zd_base.specs.declared.layout.Layout.{Layout}
use Rattle.zd_model.specs.Image.{Image}
use Rattle.zd_model.specs.Volume.{Chosen, chosen, first_set, good_super, second_set, second_super}
use Rattle.zd_model.specs.declared.metadata.Super.{Super}
use Rattle.zd_sets.specs.Equal.{head_at}
use Rattle.zd_sets.specs.Stages.{ChoosesBlocks, HasSet}
use Rattle.zd_sets.proofs.ChosenLaws.{first_chosen, good_second, one_is, second_chosen}
use Rattle.zd_sets.proofs.EqualLaws.{in_zones}
use Rattle.zd_sets.proofs.StageLaws.{IsConventionalSet, blocks_are}

-- the used blocks of both sets of a layout that fits stand in conventional zones
pub set_conventional : (g : Shape) (l : Layout) → IsShape g → Fits g l → (first : ℕ) → first ≤ set_zones g l
    → IsConventionalSet g first (used_blocks g l)
set_conventional g l shape fits first low =
    let least = shape.size.least in
    let some : 0 < g.zone_blocks = omega (arith, least) in
    record {
      some = some;
      one = omega arith;
      inside = λ k below.
          let zones = in_zones g l fits some k below in
          let room = fits.conventional_data in
          omega (arith, zones, room, low);
    }

some_none : {X : Type 0} (o : Option X) (x : X) → o ≡ Some x → IsNone o → ⊥
some_none None x e n = cc
some_none (Some y) x e n = cc

-- by the image's own geometry
module _ (image : Image) (l : Layout) (bytes : List ℕ) (fits : Fits image.geometry l)
    (size : length bytes ≡ 4096 * used_blocks image.geometry l) where
  abbrev g : Shape
  g = image.geometry

  abbrev n : ℕ
  n = set_zones image.geometry l

  abbrev used : ℕ
  used = used_blocks image.geometry l

  zones_of : (t : Super) → t.layout ≡ l → set_zones g t.layout ≡ n
  zones_of t layout = ap (λ (m : Layout). set_zones g m) layout

  counts : (t : Super) → t.layout ≡ l → good_super image n ≡ Some t → second_super image n ≡ Some t
  counts t layout good =
      let room = fits.conventional_data in
      let low : nat_lt n image.geometry.conv ≡ true = lt-ltb n g.conv (omega (arith, room)) in
      let same : (set_zones image.geometry t.layout == n) ≡ true =
      eq-eqb (set_zones g t.layout) n (zones_of t layout) in
      rw (good, low, same) refl

  taken : (c : Chosen) (head s : Super) → c.head.layout ≡ l → chosen image ≡ Some c → good_super image 0 ≡ Some s
      → HasSet g c.first used head bytes image → ChoosesBlocks g l bytes image
  taken c head s layout is good has = record {
    set = c;
    is_chosen = is;
    layout = layout;
    each = blocks_are image c.first used head bytes size has;
    some_good = some_none (good_super image 0) s good;
  }

  first_here : (head other : Super) → head.layout ≡ l → other.generation ≤ head.generation
      → HasSet g 0 used head bytes image → good_super image n ≡ Some (head_at g n other) → ChoosesBlocks g l bytes image
  first_here head other here le has good =
      let s : Super = head_at g 0 head in
      let tie : (t : Super) → second_super image n ≡ Some t → nat_lt head.generation t.generation ≡ false = λ t second.
      subst (λ (u : Super). nat_lt head.generation u.generation ≡ false)
      (one_is (head_at g n other) t (sym good ∙ good_second image n t second))
      (le-ltb head.generation other.generation le) in
      taken (first_set n s) head s here (first_chosen image n s has.super (zones_of s here) tie) has.super has

  second_here : (head other : Super) → head.layout ≡ l → other.layout ≡ l → other.generation < head.generation
      → HasSet g n used head bytes image → good_super image 0 ≡ Some (head_at g 0 other) → ChoosesBlocks g l bytes image
  second_here head other here there less has good =
      let s : Super = head_at g 0 other in
      let t : Super = head_at g n head in
      let older : nat_lt other.generation head.generation ≡ true = lt-ltb other.generation head.generation less in
      taken (second_set n t) head s here
      (second_chosen image n s t (record { good = good; takes = zones_of s there; older = older })
      (counts t here has.super)) good has

-- by a geometry that is the image's
module _ (g : Shape) (image : Image) (geometry : image.geometry ≡ g) (l : Layout) (bytes : List ℕ) (fits : Fits g l)
    (size : length bytes ≡ 4096 * used_blocks g l) (head other : Super) (here : head.layout ≡ l) where
  -- set 0 is chosen, where the other one is no newer
  pub first_chooses : other.generation ≤ head.generation → HasSet g 0 (used_blocks g l) head bytes image
      → good_super image (set_zones g l) ≡ Some (head_at g (set_zones g l) other) → ChoosesBlocks g l bytes image
  first_chooses le has good =
      subst (λ (h : Shape). Fits h l → length bytes ≡ 4096 * used_blocks h l
      → HasSet h 0 (used_blocks h l) head bytes image
      → good_super image (set_zones h l) ≡ Some (head_at h (set_zones h l) other)
      → ChoosesBlocks h l bytes image) geometry
      (λ f s h o. first_here image l bytes f s head other here le h o) fits size has good

  -- set 1 is chosen, where it is newer
  pub second_chooses : other.layout ≡ l → other.generation < head.generation
      → HasSet g (set_zones g l) (used_blocks g l) head bytes image
      → good_super image 0 ≡ Some (head_at g 0 other) → ChoosesBlocks g l bytes image
  second_chooses there less has good =
      subst (λ (h : Shape). Fits h l → length bytes ≡ 4096 * used_blocks h l
      → HasSet h (set_zones h l) (used_blocks h l) head bytes image
      → good_super image 0 ≡ Some (head_at h 0 other) → ChoosesBlocks h l bytes image) geometry
      (λ f s h o. second_here image l bytes f s head other here there less h o) fits size has good
