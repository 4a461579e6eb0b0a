-- Which set is chosen of an image whose sets have two heads of one layout, and the same blocks.
use Rattle.std.proofs.Common.{◌≡◌, ◌==◌, true, false, [], Option, Some, None, IsNone, ℕ, ◌<◌, ◌≤◌, List, nat_lt, refl, sym, ap, ◌∙◌, subst, arith}
use Rattle.std.proofs.lemmas.Bool.{eq-eqb, le-ltb}
use borrow.Author.Tests.{lt-ltb}
use Rattle.zd_base.specs.Geometry.{Shape}
use Rattle.zd_base.specs.Layout.{Fits, set_zones, used_blocks}
use Rattle.zd_base.specs.declared.layout.Layout.{Layout}
use Rattle.zd_examine.specs.Opened.{HoldsSet}
use Rattle.zd_model.specs.Image.{Image}
use Rattle.zd_model.specs.Volume.{chosen, first_set, good_super, second_set, second_super}
use Rattle.zd_model.specs.declared.metadata.Super.{Super}
use Rattle.zd_sets.specs.Equal.{IsSameHead, head_at}
use Rattle.zd_sets.specs.Stages.{ChoosesBlocks}
use Rattle.zd_sets.proofs.ChosenLaws.{first_chosen, one_is, second_chosen}

pub some_none : {X : Type 0} (o : Option X) (x : X) → o ≡ Some x → IsNone o → ⊥
some_none None x e n = cc
some_none (Some y) x e n = cc

-- the set is chosen with this head
pub record ChoosesHead (g : Shape) (l : Layout) (bytes : List ℕ) (head : Super) (i : Image) : Type 0 where
  pub chooses : ChoosesBlocks g l bytes i
  pub same_head : IsSameHead chooses.set.head head

module _ (l : Layout) (bytes : List ℕ) (first second : Super) (one : first.layout ≡ l) (two : second.layout ≡ l)
    (i : Image) (fits : Fits i.geometry l) where
  abbrev g : Shape
  g = i.geometry

  abbrev n : ℕ
  n = set_zones i.geometry l

  zones_of : (t : Super) → t.layout ≡ l → set_zones g t.layout ≡ n
  zones_of t layout = ap (λ (m : Layout). set_zones i.geometry m) layout

  counts : good_super i n ≡ Some (head_at g n second) → second_super i n ≡ Some (head_at g n second)
  counts good =
      let room = fits.conventional_data in
      let low : nat_lt n i.geometry.conv ≡ true = lt-ltb n i.geometry.conv (omega (arith, room)) in
      let same : (set_zones i.geometry second.layout == n) ≡ true = eq-eqb (set_zones i.geometry second.layout) n (zones_of second two) in
      rw (good, low, same) refl

  pub older_is : second.generation ≤ first.generation → good_super i 0 ≡ Some (head_at i.geometry 0 first)
      → good_super i (set_zones i.geometry l) ≡ Some (head_at i.geometry (set_zones i.geometry l) second)
      → chosen i ≡ Some (first_set (set_zones i.geometry l) (head_at i.geometry 0 first))
  older_is le here good = first_chosen i n (head_at g 0 first) here (zones_of first one) (λ t some.
      subst (λ (u : Super). nat_lt first.generation u.generation ≡ false) (one_is (head_at g n second) t (sym (counts good) ∙ some))
      (le-ltb first.generation second.generation le))

  -- set 0 is, where the other one is no newer
  pub older_second : second.generation ≤ first.generation → HoldsSet i.geometry 0 (used_blocks i.geometry l) first bytes i
      → good_super i (set_zones i.geometry l) ≡ Some (head_at i.geometry (set_zones i.geometry l) second)
      → ChoosesHead i.geometry l bytes first i
  older_second le holds good = record {
    chooses = record {
      set = first_set n (head_at g 0 first);
      is_chosen = older_is le holds.super good;
      layout = one;
      each = holds.each;
      some_good = some_none (good_super i 0) (head_at g 0 first) holds.super;
    };
    same_head = refl;
  }

  -- set 1 is, where it is newer
  pub newer_second : first.generation < second.generation → good_super i 0 ≡ Some (head_at i.geometry 0 first)
      → HoldsSet i.geometry (set_zones i.geometry l) (used_blocks i.geometry l) second bytes i → ChoosesHead i.geometry l bytes second i
  newer_second less good holds = record {
    chooses = record {
      set = second_set n (head_at g n second);
      is_chosen = second_chosen i n (head_at g 0 first) (head_at g n second)
          (record { good = good; takes = zones_of first one; older = lt-ltb first.generation second.generation less }) (counts holds.super);
      layout = two;
      each = holds.each;
      some_good = some_none (good_super i 0) (head_at g 0 first) good;
    };
    same_head = refl;
  }

-- by a geometry that is the image's
module _ (g : Shape) (l : Layout) (first second : Super) (one : first.layout ≡ l) (two : second.layout ≡ l)
    (i : Image) (shape : i.geometry ≡ g) (fits : Fits g l) where
  pub first_chooses : (bytes : List ℕ) → second.generation ≤ first.generation → HoldsSet g 0 (used_blocks g l) first bytes i
      → good_super i (set_zones g l) ≡ Some (head_at g (set_zones g l) second) → ChoosesHead g l bytes first i
  first_chooses bytes le =
      subst (λ (s : Shape). Fits s l → HoldsSet s 0 (used_blocks s l) first bytes i
      → good_super i (set_zones s l) ≡ Some (head_at s (set_zones s l) second) → ChoosesHead s l bytes first i) shape
      (λ f. older_second l bytes first second one two i f le) fits

  pub second_chooses : (bytes : List ℕ) → first.generation < second.generation → good_super i 0 ≡ Some (head_at g 0 first)
      → HoldsSet g (set_zones g l) (used_blocks g l) second bytes i → ChoosesHead g l bytes second i
  second_chooses bytes less =
      subst (λ (s : Shape). Fits s l → good_super i 0 ≡ Some (head_at s 0 first)
      → HoldsSet s (set_zones s l) (used_blocks s l) second bytes i → ChoosesHead s l bytes second i) shape
      (λ f. newer_second l bytes first second one two i f less) fits

  -- set 0, in other words
  pub first_is : second.generation ≤ first.generation → good_super i 0 ≡ Some (head_at g 0 first)
      → good_super i (set_zones g l) ≡ Some (head_at g (set_zones g l) second)
      → chosen i ≡ Some (first_set (set_zones g l) (head_at g 0 first))
  first_is le =
      subst (λ (s : Shape). Fits s l → good_super i 0 ≡ Some (head_at s 0 first)
      → good_super i (set_zones s l) ≡ Some (head_at s (set_zones s l) second)
      → chosen i ≡ Some (first_set (set_zones s l) (head_at s 0 first))) shape
      (λ f. older_is l [] first second one two i f le) fits

  abbrev pub first_by : (bytes : List ℕ) → second.generation ≤ first.generation → HoldsSet g 0 (used_blocks g l) first bytes i
      → good_super i (set_zones g l) ≡ Some (head_at g (set_zones g l) second) → ChoosesBlocks g l bytes i
  first_by bytes le holds good = record {
    set = first_set (set_zones g l) (head_at g 0 first);
    is_chosen = first_is le holds.super good;
    layout = one;
    each = holds.each;
    some_good = some_none (good_super i 0) (head_at g 0 first) holds.super;
  }
