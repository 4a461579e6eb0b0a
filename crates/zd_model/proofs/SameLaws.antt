-- Images that hold the same have the same chosen set.
use Rattle.std.proofs.Common.{◌≡◌, ℕ, zero, suc, ◌+◌, ◌-◌, ◌*◌, ◌<◌, ◌≤◌, Bool, true, false}
use Rattle.std.proofs.Common.{List, ◌∷◌, ◌++◌, ◌&&◌, map, refl, sym, ap, ap₂, ◌∙◌, arith, cond}
use Rattle.std.proofs.Common.{Option, Some, None, ltb, eqb, subst}
use borrow.Author.Tests.{ltb-true, eqb-true}
use Rattle.std.specs.Prelude.{find, option_and_then, option_map}
use Rattle.std.specs.Option.{option_map_or}
use Rattle.std.specs.List.{range_with_len}
use Rattle.zd_base.specs.Geometry.{Shape, IsShape}
use Rattle.zd_base.specs.Layout.{set_zones}
use Rattle.zd_model.specs.Image.{Image, IsImage, Same, run_of, block_at}
use Rattle.zd_model.specs.Super.{decoded}
use Rattle.zd_model.specs.Volume.{Chosen, if_own, good_super, second_super, has_magic}
use Rattle.zd_model.specs.Volume.{first_set, second_set, greater_of, zone_with_magic, scanned}
use Rattle.zd_model.specs.Volume.{chosen_with, chosen}
use Rattle.zd_model.specs.declared.metadata.Super.{Super}

-- sectors that are the same are the same joined
pub same_run : (s t : ℕ → List ℕ) (start n : ℕ) → ((i : ℕ) → start ≤ i → i < start + n → s i ≡ t i) → run_of s start n ≡ run_of t start n
same_run s t start zero same = refl
same_run s t start (suc n) same =
    ap₂ (λ (x y : List ℕ). x ++ y) (same start (omega arith) (omega arith)) (same_run s t (start + 1) n (λ i low high. same i (omega arith) (omega arith)))

pub same_map : {X : Type 0} (f g : ℕ → X) (a n : ℕ) → ((i : ℕ) → a ≤ i → i < a + n → f i ≡ g i) → map f (range_with_len a n) ≡ map g (range_with_len a n)
same_map f g a zero same = refl
same_map {X} f g a (suc n) same =
    ap₂ (λ (x : X) (xs : List X). x ∷ xs) (same a (omega arith) (omega arith)) (same_map f g (a + 1) n (λ i low high. same i (omega arith) (omega arith)))

same_find : (p q : ℕ → Bool) (a n : ℕ) → ((i : ℕ) → a ≤ i → i < a + n → p i ≡ q i) → find p (range_with_len a n) ≡ find q (range_with_len a n)
same_find p q a zero same = refl
same_find p q a (suc n) same =
    ap₂ (λ (b : Bool) (o : Option ℕ). cond b (Some a) o) (same a (omega arith) (omega arith)) (same_find p q (a + 1) n (λ i low high. same i (omega arith) (omega arith)))

same_then : {X Y : Type 0} (f g : X → Option Y) (o : Option X) → ((x : X) → f x ≡ g x) → option_and_then f o ≡ option_and_then g o
same_then f g None same = refl
same_then f g (Some x) same = same x

same_or : {X Y : Type 0} (f g : X → Y) (o : Option X) (d e : Y) → ((x : X) → f x ≡ g x) → d ≡ e → option_map_or f o d ≡ option_map_or g o e
same_or f g None d e same rest = rest
same_or f g (Some x) d e same rest = same x

-- the other set where it may stand at zone n
abbrev if_there : Bool → (Super → Bool) → Option Super → Option Super
if_there below test o = option_and_then (λ s. cond (below && test s) (Some s) None) o

not_there : (test : Super → Bool) (o : Option Super) → if_there false test o ≡ None
not_there test None = refl
not_there test (Some s) = refl

-- an image of this geometry
abbrev pub image_at : Shape → (ℕ → ℕ) → (ℕ → ℕ → List ℕ) → Image
image_at g held sector = record { geometry = g; held = held; sector = sector }

-- images of one geometry with the same first blocks in all conventional zones
module _ (g : Shape) (some : 0 < g.conv) (h k : ℕ → ℕ) (s t : ℕ → ℕ → List ℕ) (same : (z : ℕ) → z < g.conv → block_at (image_at g k t) z 0 ≡ block_at (image_at g h s) z 0) where
  same_good : (z : ℕ) → z < g.conv → good_super (image_at g k t) z ≡ good_super (image_at g h s) z
  same_good z low = ap (λ (block : List ℕ). if_own (z * g.zone_blocks) (decoded block)) (same z low)

  same_second : (n : ℕ) → second_super (image_at g k t) n ≡ second_super (image_at g h s) n
  same_second n = by_test (ltb n g.conv) refl
    where
      test : Super → Bool
      test r = eqb (set_zones g r.layout) n

      by_test : (b : Bool) → ltb n g.conv ≡ b → if_there b test (good_super (image_at g k t) n) ≡ if_there b test (good_super (image_at g h s) n)
      by_test true e = ap (if_there true test) (same_good n (ltb-true n g.conv e))
      by_test false e = not_there test (good_super (image_at g k t) n) ∙ sym (not_there test (good_super (image_at g h s) n))

  same_magic : zone_with_magic (image_at g k t) ≡ zone_with_magic (image_at g h s)
  same_magic = same_find (λ z. has_magic (block_at (image_at g k t) z 0)) (λ z. has_magic (block_at (image_at g h s) z 0)) 1 (g.conv - 1) (λ z low high. ap has_magic (same z (omega arith)))

  same_scanned : scanned (image_at g k t) ≡ scanned (image_at g h s)
  same_scanned =
      ap (option_and_then (λ n. option_map (second_set n) (second_super (image_at g k t) n))) same_magic
      ∙ same_then (λ n. option_map (second_set n) (second_super (image_at g k t) n)) (λ n. option_map (second_set n) (second_super (image_at g h s) n)) (zone_with_magic (image_at g h s)) (λ n. ap (option_map (second_set n)) (same_second n))

  same_with : (r : Super) → Some (chosen_with (image_at g k t) r) ≡ Some (chosen_with (image_at g h s) r)
  same_with r = ap (λ (o : Option Super). Some (greater_of (set_zones g r.layout) r o)) (same_second (set_zones g r.layout))

  same_choice : chosen (image_at g k t) ≡ chosen (image_at g h s)
  same_choice =
      ap (λ (o : Option Super). option_map_or (λ r. Some (chosen_with (image_at g k t) r)) o (scanned (image_at g k t))) (same_good 0 some)
      ∙ same_or (λ r. Some (chosen_with (image_at g k t) r)) (λ r. Some (chosen_with (image_at g h s) r)) (good_super (image_at g h s) 0) _ _ same_with same_scanned

-- the choice looks at nothing but the first blocks of the conventional zones
pub same_chosen : (old new : Image) → new.geometry ≡ old.geometry → 0 < old.geometry.conv → ((z : ℕ) → z < old.geometry.conv → block_at new z 0 ≡ block_at old z 0) → chosen new ≡ chosen old
same_chosen old new geometry some same =
    ap (λ (g : Shape). chosen (image_at g new.held new.sector)) geometry
    ∙ same_choice old.geometry some old.held new.held old.sector new.sector same

-- a block of a conventional zone is the same
pub same_block : (old new : Image) → IsImage old → Same old new → (z x : ℕ) → z < old.geometry.conv → x < old.geometry.zone_blocks → block_at new z x ≡ block_at old z x
same_block old new image same z x low within =
    let full = image.conventional z low in
    same_run (new.sector z) (old.sector z) (8 * x) 8 (λ i from to. (same.zones z).sectors i (omega arith))

pub chosen_of_same : (old new : Image) → IsImage old → IsShape old.geometry → Same old new → chosen new ≡ chosen old
chosen_of_same old new image shape same =
    let some = shape.count.some_conventional in
    let size = shape.size.least in
    same_chosen old new same.geometry some (λ z low. same_block old new image same z 0 low (omega arith))

-- the second set takes as many zones as the first
some_is : {X : Type 0} (x y : X) → ◌≡◌ {A = Option X} (Some x) (Some y) → x ≡ y
some_is x y e = cc

second_is : (image : Image) (n : ℕ) (t : Super) → second_super image n ≡ Some t → set_zones image.geometry t.layout ≡ n
second_is image n t e = by_super (good_super image n) e
  where
    by_test : (s : Super) (below test : Bool) → eqb (set_zones image.geometry s.layout) n ≡ test → ◌≡◌ {A = Option Super} (cond (below && test) (Some s) None) (Some t) → set_zones image.geometry t.layout ≡ n
    by_test s true true k h = ap (λ (r : Super). set_zones image.geometry r.layout) (sym (some_is s t h)) ∙ eqb-true (set_zones image.geometry s.layout) n k
    by_test s true false k h = cc
    by_test s false test k h = cc

    by_super : (o : Option Super) → if_there (ltb n image.geometry.conv) (λ s. eqb (set_zones image.geometry s.layout) n) o ≡ Some t → set_zones image.geometry t.layout ≡ n
    by_super None h = cc
    by_super (Some s) h = by_test s (ltb n image.geometry.conv) (eqb (set_zones image.geometry s.layout) n) refl h

-- the chosen set begins in zone 0, or behind as many zones as it takes
pub chosen_first : (image : Image) (c : Chosen) → chosen image ≡ Some c → c.first ≤ set_zones image.geometry c.head.layout
chosen_first image c e = by_good (good_super image 0) e
  where
    second_first : (n : ℕ) (t : Super) → second_super image n ≡ Some t → second_set n t ≡ c → c.first ≤ set_zones image.geometry c.head.layout
    second_first n t h k =
        let size = second_is image n t h in
        subst (λ (d : Chosen). d.first ≤ set_zones image.geometry d.head.layout) k (omega arith)

    greater_first : (n : ℕ) (s : Super) (o : Option Super) → second_super image n ≡ o → greater_of n s o ≡ c → c.first ≤ set_zones image.geometry c.head.layout
    greater_first n s None h k = subst (λ (d : Chosen). d.first ≤ set_zones image.geometry d.head.layout) k (omega arith)
    greater_first n s (Some t) h k = by_test (ltb s.generation t.generation) k
      where
        by_test : (b : Bool) → cond b (second_set n t) (first_set n s) ≡ c → c.first ≤ set_zones image.geometry c.head.layout
        by_test true l = second_first n t h l
        by_test false l = subst (λ (d : Chosen). d.first ≤ set_zones image.geometry d.head.layout) l (omega arith)

    by_scan : (o : Option ℕ) → option_and_then (λ n. option_map (second_set n) (second_super image n)) o ≡ Some c → c.first ≤ set_zones image.geometry c.head.layout
    by_scan None h = cc
    by_scan (Some n) h = by_second (second_super image n) refl h
      where
        by_second : (o : Option Super) → second_super image n ≡ o → option_map (second_set n) o ≡ Some c → c.first ≤ set_zones image.geometry c.head.layout
        by_second None k l = cc
        by_second (Some t) k l = second_first n t k (some_is (second_set n t) c l)

    by_good : (o : Option Super) → option_map_or (λ s. Some (chosen_with image s)) o (scanned image) ≡ Some c → c.first ≤ set_zones image.geometry c.head.layout
    by_good None h = by_scan (zone_with_magic image) h
    by_good (Some s) h =
        let n : ℕ = set_zones image.geometry s.layout in
        greater_first n s (second_super image n) refl (some_is (chosen_with image s) c h)
