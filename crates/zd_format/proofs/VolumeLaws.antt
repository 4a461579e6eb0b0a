-- Two sets that are written are a volume of zeros.
use Rattle.std.proofs.Common.{◌≡◌, ℕ, zero, suc, ◌+◌, ◌*◌, ◌/◌, ◌%◌, ◌<◌, ◌≤◌, Bool, ◌&&◌, cond, eqb, ltb, List, ◌∷◌, ◌++◌, map, replicate, Option, Some, None, Ok, refl, sym, ap, ap₂, ◌∙◌, subst, arith}
use Rattle.std.specs.List.{concat, range_with_len}
use Rattle.std.specs.Prelude.{option_and_then, IsNone}
use Rattle.std.specs.Option.{option_map_or}
use Rattle.std.proofs.Math.Nat.{zero-div, zero-mod, mul-le-mul_right}
use Rattle.std.proofs.lemmas.Bool.{eq-eqb, lt-ltb, false≢true}
use Rattle.std.proofs.lemmas.Nat.{mul-le}
use Rattle.std.proofs.lemmas.List.{replicate-append-replicate}
use Rattle.zd_base.specs.Geometry.{Shape, IsShape, zone_count, per}
use Rattle.zd_base.specs.Layout.{Fits, formatted, set_zones, device_blocks}
use Rattle.zd_base.specs.declared.layout.Layout.{Layout}
use Rattle.zd_model.specs.Bytes.{zero_sector}
use Rattle.zd_model.specs.Image.{Image, block_at, set_block}
use Rattle.zd_model.specs.Super.{HasBlock, block_of, decoded}
use Rattle.zd_model.specs.Tables.{Tables, MapFollowsRules, BitsFollowRules, served}
use Rattle.zd_model.specs.Volume.{Chosen, IsWellFormed, good_super, if_own, second_super, chosen, chosen_with, greater_of, first_set, scanned, tables_of, entry_in, bits_in, bitmap_block, content}
use Rattle.zd_model.specs.declared.metadata.MapEntry.{MapEntry}
use Rattle.zd_model.specs.declared.metadata.Super.{Super}
use Rattle.zd_model.proofs.Decoded.{decodes}
use Rattle.zd_model.proofs.SuperSpelling.{spells}
use Rattle.zd_model.proofs.TailLaws.{fits_2}
use Rattle.zd_model.proofs.FreshLaws.{unmapped, empty_tables, empty_map, empty_bits, empty_served}
use Rattle.zd_format.specs.Fresh.{IsFresh, head_of}
use Rattle.zd_format.specs.Sets.{HasBothSets, zero_blocks}

-- the head stands at its own number
own_head : (number : ℕ) (s : Super) → s.own ≡ number → if_own number (Ok s) ≡ Some s
own_head number s e = ap (λ (b : Bool). cond b (Some s) None) (eq-eqb s.own number e)

-- the first block of a set
first_block : (image : Image) (f : ℕ) → block_at image f 0 ≡ set_block image f 0
first_block image f =
    let w = image.geometry.zone_blocks in
    let at : f ≡ f + 0 / w = (let none = zero-div w in omega (arith, none)) in
    ap₂ (λ (z x : ℕ). block_at image z x) at (sym (zero-mod w))

good_at : (image : Image) (f : ℕ) (s : Super) → set_block image f 0 ≡ block_of s → HasBlock s → s.own ≡ f * image.geometry.zone_blocks
    → good_super image f ≡ Some s
good_at image f s is sizes own =
    ap (λ (block : List ℕ). if_own (f * image.geometry.zone_blocks) (decoded block)) (first_block image f ∙ is)
    ∙ ap (if_own (f * image.geometry.zone_blocks)) (decodes (block_of s) s (spells s sizes))
    ∙ own_head (f * image.geometry.zone_blocks) s own

-- the second set counts
counts : (image : Image) (n : ℕ) (s : Super) → good_super image n ≡ Some s → n < image.geometry.conv → set_zones image.geometry s.layout ≡ n → second_super image n ≡ Some s
counts image n s good low takes =
    ap (option_and_then (λ (t : Super). cond (ltb n image.geometry.conv && eqb (set_zones image.geometry t.layout) n) (Some t) None)) good
    ∙ ap₂ (λ (a b : Bool). cond (a && b) (Some s) None) (lt-ltb n image.geometry.conv low) (eq-eqb (set_zones image.geometry s.layout) n takes)

-- at a tie the first set is chosen
first_chosen : (image : Image) (s t : Super) → good_super image 0 ≡ Some s → second_super image (set_zones image.geometry s.layout) ≡ Some t
    → s.generation ≡ 1 → t.generation ≡ 1 → chosen image ≡ Some (first_set (set_zones image.geometry s.layout) s)
first_chosen image s t good second one also =
    let n : ℕ = set_zones image.geometry s.layout in
    ap (λ (o : Option Super). option_map_or (λ (r : Super). Some (chosen_with image r)) o (scanned image)) good
    ∙ ap (λ (o : Option Super). Some (greater_of n s o)) second
    ∙ ap₂ (λ (a b : ℕ). Some (cond (ltb a b) (record { set = 1; first = n; other = 0; head = t }) (first_set n s))) one also

-- lists of one thing
map_same : {X : Type 0} (f : ℕ → X) (x : X) (a n : ℕ) → ((i : ℕ) → a ≤ i → i < a + n → f i ≡ x) → map f (range_with_len a n) ≡ replicate n x
map_same f x a zero same = refl
map_same {X} f x a (suc n) same =
    ap₂ (λ (y : X) (ys : List X). y ∷ ys) (same a (omega arith) (omega arith)) (map_same f x (a + 1) n (λ i low high. same i (omega (arith, low)) (omega (arith, high))))

concat_same : (n k : ℕ) → concat (replicate n (replicate k 0)) ≡ replicate (k * n) 0
concat_same zero k = ap (λ (m : ℕ). replicate m 0) (let e : 0 ≡ k * 0 = omega arith in e)
concat_same (suc n) k =
    let more : k + k * n ≡ k * suc n = omega arith in
    ap (λ (l : List ℕ). replicate k 0 ++ l) (concat_same n k) ∙ replicate-append-replicate k (k * n) 0 ∙ ap (λ (m : ℕ). replicate m 0) more

one_zero_block : zero_blocks 1 ≡ replicate 4096 0
unfolding zero_blocks
one_zero_block = refl

-- both sets of a volume with this layout
module _ (image : Image) (reserved : ℕ) (layout : Layout) (label volume : List ℕ) (shape : IsShape image.geometry)
    (is : layout ≡ formatted image.geometry reserved) (fits : Fits image.geometry layout)
    (sizes : HasBlock (head_of layout label volume 0)) (sets : HasBothSets image.geometry (head_of layout label volume 0) image) where
  abbrev g : Shape
  g = image.geometry

  abbrev n : ℕ
  n = set_zones g layout

  abbrev head : Super
  head = head_of layout label volume 0

  abbrev other : Super
  other = head_of layout label volume (n * g.zone_blocks)

  abbrev c : Chosen
  c = first_set n head

  other_sizes : HasBlock other
  other_sizes =
      let size = shape.size.most in
      let count = shape.count.most in
      let room = fits.conventional_data in
      let low : n ≤ 65536 = omega (arith, count, room) in
      let product = mul-le n g.zone_blocks 65536 65536 low size in
      record {
        generation = sizes.generation;
        own = omega (arith, product);
        meta_blocks = sizes.meta_blocks;
        reserved = sizes.reserved;
        chunks = sizes.chunks;
        map_blocks = sizes.map_blocks;
        bitmap_blocks = sizes.bitmap_blocks;
        label = sizes.label;
        volume = sizes.volume;
        device = sizes.device;
        fits = fits_2 other refl;
      }

  some_block : 0 < layout.meta_blocks
  some_block = let set = fits.set in omega (arith, set)

  good_first : good_super image 0 ≡ Some head
  good_first = good_at image 0 head ((sets.first 0 some_block).super refl) sizes (let e : 0 ≡ 0 * g.zone_blocks = omega arith in e)

  good_second : good_super image n ≡ Some other
  good_second = good_at image n other ((sets.second 0 some_block).super refl) other_sizes refl

  is_chosen : chosen image ≡ Some c
  is_chosen =
      let room = fits.conventional_data in
      first_chosen image head other good_first (counts image n other good_second (omega (arith, room)) refl) refl refl

  entries_are : map (entry_in image c) (range_with_len 0 layout.chunks) ≡ replicate layout.chunks unmapped
  entries_are = map_same (entry_in image c) unmapped 0 layout.chunks (λ i low high.
      let few = fits.map in
      let set = fits.set in
      (sets.first (1 + i / 512) (omega (arith, high, few, set))).map (omega arith) (omega (arith, high, few)) (i % 512) (omega arith))

  block_is : (zone i : ℕ) → zone < zone_count g → i < per g → bitmap_block image c zone i ≡ replicate 4096 0
  block_is zone i low high =
      let blocks : layout.meta_blocks ≡ 1 + layout.map_blocks + zone_count g * per g = ap (λ (l : Layout). l.meta_blocks) is ∙ sym (ap (λ (l : Layout). 1 + l.map_blocks + zone_count g * per g) is) in
      let end = mul-le-mul_right (per g) low in
      (sets.first (1 + layout.map_blocks + zone * per g + i) (omega (arith, blocks, end, high))).bitmap (omega arith) ∙ one_zero_block

  bits_are : (zone : ℕ) → zone < zone_count g → bits_in image c zone ≡ replicate (4096 * per g) 0
  bits_are zone low =
      ap concat (map_same (bitmap_block image c zone) (replicate 4096 0) 0 (per g) (λ i from high. block_is zone i low (omega (arith, high))))
      ∙ concat_same (per g) 4096

  tables_are : tables_of image c ≡ empty_tables layout.chunks (zone_count g) (4096 * per g)
  tables_are =
      ap₂ (λ (entries : List MapEntry) (bits : List (List ℕ)). record { entries = entries; bits = bits }) entries_are
      (map_same (bits_in image c) (replicate (4096 * per g) 0) 0 (zone_count g) (λ zone from low. bits_are zone (omega (arith, low))))

  none_some : IsNone (good_super image 0) → ⊥
  none_some h = false≢true (sym (subst (λ (o : Option Super). IsNone o) good_first h))

  well_formed : IsWellFormed image c
  well_formed = record {
    is_chosen = is_chosen;
    layout = fits;
    no_other_magic = λ none. absurd (none_some none);
    map = subst (λ (t : Tables). MapFollowsRules g layout t.entries) (sym tables_are) (empty_map g layout layout.chunks);
    bits = subst (BitsFollowRules g image.held) (sym tables_are) (empty_bits g image.held layout.chunks (zone_count g) (4096 * per g));
  }

  zeros : content image c ≡ replicate (8 * device_blocks g layout) zero_sector
  zeros =
      let count : layout.chunks * g.zone_blocks * 8 ≡ 8 * device_blocks g layout = omega arith in
      ap (λ (t : Tables). served g.zone_blocks t image.sector) tables_are
      ∙ empty_served g.zone_blocks layout.chunks (zone_count g) (4096 * per g) image.sector
      ∙ ap (λ (m : ℕ). replicate m zero_sector) count

  pub fresh_volume : IsFresh reserved label volume layout image
  fresh_volume = record { numbers = is; fits = fits; first = good_first; second = good_second; well_formed = well_formed; zeros = zeros }
