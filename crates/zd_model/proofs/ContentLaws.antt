-- What well-formed images hold: sectors of 512 bytes, and the same where the images hold the same.
use Rattle.std.proofs.Common.{◌≡◌, ℕ, ◌+◌, ◌-◌, ◌*◌, ◌/◌, ◌%◌, ◌<◌, ◌≤◌, Bool, true, false, cond}
use Rattle.std.proofs.Common.{List, refl, sym, ap, ap₂, ◌∙◌, arith, inl, inr}
use Rattle.std.proofs.Common.{get_or, Option, Some, None, subst, length, IsNone}
use Rattle.std.proofs.Math.Nat.{div-mul-le_self, mul-le-mul_right}
use Rattle.std.proofs.lemmas.Nat.{le-div}
use Rattle.std.proofs.lemmas.Bool.{cases_lt}
use Rattle.std.proofs.lemmas.List.FromFn.{length-map-range_with_len, get_or-map-range_with_len}
use Rattle.std.specs.Prelude.{IsTrue, All}
use Rattle.std.specs.Option.{option_map_or}
use Rattle.std.specs.List.{concat}
use Rattle.zd_base.specs.Geometry.{Shape, IsShape, zone_count, per}
use Rattle.zd_base.specs.Layout.{Fits, set_zones, rounded_up}
use Rattle.zd_model.specs.Bytes.{IsSector, zero_sector}
use Rattle.zd_model.specs.Image.{Image, IsImage, Same, set_block, block_at}
use Rattle.zd_model.specs.Tables.{Tables, MapFollowsRules, BitsFollowRules, NamesZone, entry_of}
use Rattle.zd_model.specs.Tables.{is_valid, where_valid, sector_of, served, entry_at}
use Rattle.zd_model.specs.Super.{decoded}
use Rattle.zd_model.specs.declared.metadata.Super.{Super}
use Rattle.zd_model.specs.Volume.{Chosen, if_own, good_super, has_magic, entry_in, bitmap_block, bits_in}
use Rattle.zd_model.specs.Volume.{tables_of, IsWellFormed, chosen, content}
use Rattle.zd_model.specs.declared.metadata.MapEntry.{MapEntry}
use Rattle.zd_model.proofs.SectorLaws.{zero_sector-sector}
use Rattle.zd_model.proofs.SameLaws.{same_map, same_block, chosen_of_same, chosen_first, image_at}

-- what holds of the sectors of valid blocks, and of zeros, holds of what is served
pub where_it_is : (P : List ℕ → List ℕ → Type 0) (t : Tables) (x : ℕ) (zone : Option ℕ) (f g : ℕ → List ℕ) (d e : List ℕ) → ((z : ℕ) → zone ≡ Some z → IsTrue (is_valid t z x) → P (f z) (g z)) → P d e → P (option_map_or f (where_valid t x zone) d) (option_map_or g (where_valid t x zone) e)
where_it_is P t x None f g d e here rest = rest
where_it_is P t x (Some z) f g d e here rest = by_test (is_valid t z x) refl
  where
    by_test : (b : Bool) → is_valid t z x ≡ b → P (option_map_or f (cond b (Some z) None) d) (option_map_or g (cond b (Some z) None) e)
    by_test true valid = here z refl valid
    by_test false valid = rest

-- a valid block stands in a zone, below what it holds
module _ (image : Image) (c : Chosen) (is_image : IsImage image) (well : IsWellFormed image c) where
  held_sector : (z x j : ℕ) → z < zone_count image.geometry → x < image.geometry.zone_blocks → j < 8 → IsTrue (is_valid (tables_of image c) z x) → 8 * x + j < image.held z
  held_sector z x j low within inside valid =
      elim (cases_lt z image.geometry.conv) [
        | inl conventional ↦ (let full = is_image.conventional z conventional in omega arith)
        | inr sequential ↦ (let below = well.bits.below z x sequential low within valid in omega arith)
      ]

  -- so what relates the sectors that are held relates the sectors that are served
  served_with : (P : List ℕ → List ℕ → Type 0) (other : ℕ → ℕ → List ℕ) → ((z i : ℕ) → z < zone_count image.geometry → i < image.held z → P (image.sector z i) (other z i)) → P zero_sector zero_sector → 0 < image.geometry.zone_blocks → (i : ℕ) → P (sector_of image.geometry.zone_blocks (tables_of image c) image.sector i) (sector_of image.geometry.zone_blocks (tables_of image c) other i)
  served_with P other held zeros some i =
      let b : ℕ = image.geometry.zone_blocks in
      let t : Tables = tables_of image c in
      let x : ℕ = i / 8 % b in
      let within : x < b = omega arith in
      let entry : MapEntry = entry_of t (i / 8 / b) in
      let place = λ (z : ℕ) (named : NamesZone entry z) (valid : IsTrue (is_valid t z x)). (let low = (well.map.data_zones (i / 8 / b) z named).1 in held z (8 * x + i % 8) low (held_sector z x (i % 8) low within (omega arith) valid)) in
      where_it_is P t x entry.zone (λ z. image.sector z (8 * x + i % 8)) (λ z. other z (8 * x + i % 8)) _ _
      (λ z named valid. place z (inl named) valid)
      (where_it_is P t x entry.buffer (λ z. image.sector z (8 * x + i % 8)) (λ z. other z (8 * x + i % 8)) zero_sector zero_sector (λ z named valid. place z (inr named) valid) zeros)

pub length-content : (image : Image) (c : Chosen) → length (content image c) ≡ c.head.layout.chunks * image.geometry.zone_blocks * 8
length-content image c =
    length-map-range_with_len (sector_of image.geometry.zone_blocks (tables_of image c) image.sector) 0 (length (tables_of image c).entries * image.geometry.zone_blocks * 8)
    ∙ ap (λ (n : ℕ). n * image.geometry.zone_blocks * 8) (length-map-range_with_len (entry_in image c) 0 c.head.layout.chunks)

-- each sector of the content has 512 bytes
pub content-sectors : (image : Image) (c : Chosen) → IsImage image → IsShape image.geometry → IsWellFormed image c → All IsSector (content image c)
content-sectors image c is_image shape well i d low =
    let size = shape.size.least in
    let n : ℕ = length (tables_of image c).entries * image.geometry.zone_blocks * 8 in
    let f : ℕ → List ℕ = sector_of image.geometry.zone_blocks (tables_of image c) image.sector in
    let inside : i < n = omega (arith, length-map-range_with_len f 0 n) in
    subst IsSector (sym (get_or-map-range_with_len f 0 n i i d inside (omega arith)))
    (served_with image c is_image well (λ u v. IsSector u) image.sector (λ z j z_low j_low. is_image.sectors z j j_low) zero_sector-sector (omega arith) i)

-- a block of a set lies in one of its zones
pub in_set : (z m b : ℕ) → 0 < z → b < m → b / z < rounded_up m z
in_set z m b some low =
    let q : ℕ = b / z in
    let under : q * z ≤ b = div-mul-le_self b z in
    let next : (q + 1) * z ≡ q * z + z = omega arith in
    let up : q + 1 ≤ (m + z - 1) / z = le-div (q + 1) (m + z - 1) z some (omega arith) in
    omega arith

-- the first k * 512 entries stand in k blocks
entry_block : (chunk chunks k : ℕ) → chunk < chunks → chunks ≤ k * 512 → chunk / 512 < k
entry_block chunk chunks k low fits = omega arith

-- bitmap block i of a zone stands before those of the zones behind it
bitmap_place : (zone zones p i : ℕ) → zone < zones → i < p → zone * p + i < zones * p
bitmap_place zone zones p i low inside =
    let next : (zone + 1) * p ≡ zone * p + p = omega arith in
    let later : zone + 1 ≤ zones = omega arith in
    let up : (zone + 1) * p ≤ zones * p = mul-le-mul_right p later in
    omega arith

-- the blocks of the sets are the same, and so are the tables
module _ (g : Shape) (h k : ℕ → ℕ) (s t : ℕ → ℕ → List ℕ) (c : Chosen) (shape : IsShape g) (fits : Fits g c.head.layout) (first : c.first ≤ set_zones g c.head.layout) (same : (z x : ℕ) → z < g.conv → x < g.zone_blocks → block_at (image_at g k t) z x ≡ block_at (image_at g h s) z x) where
  same_set_block : (b : ℕ) → b < c.head.layout.meta_blocks → set_block (image_at g k t) c.first b ≡ set_block (image_at g h s) c.first b
  same_set_block b low =
      let size = shape.size.least in
      let inside : b / g.zone_blocks < set_zones g c.head.layout = in_set g.zone_blocks c.head.layout.meta_blocks b (omega arith) low in
      let room : 2 * set_zones g c.head.layout < g.conv = fits.conventional_data in
      let zone : c.first + b / g.zone_blocks < g.conv = omega arith in
      let block : b % g.zone_blocks < g.zone_blocks = omega arith in
      same (c.first + b / g.zone_blocks) (b % g.zone_blocks) zone block

  same_entry : (chunk : ℕ) → chunk < c.head.layout.chunks → entry_in (image_at g k t) c chunk ≡ entry_in (image_at g h s) c chunk
  same_entry chunk low =
      let inside = entry_block chunk c.head.layout.chunks c.head.layout.map_blocks low fits.map in
      let set = fits.set in
      ap (λ (block : List ℕ). entry_at block (chunk % 512)) (same_set_block (1 + chunk / 512) (omega arith))

  same_bits : (zone : ℕ) → zone < zone_count g → bits_in (image_at g k t) c zone ≡ bits_in (image_at g h s) c zone
  same_bits zone low =
      ap concat (same_map (bitmap_block (image_at g k t) c zone) (bitmap_block (image_at g h s) c zone) 0 (per g) (λ i from inside. (
      let place = bitmap_place zone (zone_count g) (per g) i low (omega arith) in
      let bits = fits.bitmaps in
      let set = fits.set in
      same_set_block (1 + c.head.layout.map_blocks + zone * per g + i) (omega arith))))

  same_tables : tables_of (image_at g k t) c ≡ tables_of (image_at g h s) c
  same_tables =
      ap₂ (λ (es : List MapEntry) (bs : List (List ℕ)). record { entries = es; bits = bs })
      (same_map (entry_in (image_at g k t) c) (entry_in (image_at g h s) c) 0 c.head.layout.chunks (λ i from low. same_entry i (omega arith)))
      (same_map (bits_in (image_at g k t) c) (bits_in (image_at g h s) c) 0 (zone_count g) (λ i from low. same_bits i (omega arith)))

pub tables_of_same : (old new : Image) (c : Chosen) → IsImage old → IsShape old.geometry → Same old new → chosen old ≡ Some c → Fits old.geometry c.head.layout → tables_of new c ≡ tables_of old c
tables_of_same old new c image shape same is_chosen fits =
    ap (λ (g : Shape). tables_of (image_at g new.held new.sector) c) same.geometry
    ∙ same_tables old.geometry old.held new.held old.sector new.sector c shape fits (chosen_first old c is_chosen) (λ z x low within. same_block old new image same z x low within)

-- where one image is well-formed, so is the other
pub well_formed_of_same : (old new : Image) (c : Chosen) → IsImage old → IsShape old.geometry → Same old new → IsWellFormed old c → IsWellFormed new c
well_formed_of_same old new c image shape same well = record {
  is_chosen = chosen_of_same old new image shape same ∙ well.is_chosen;
  layout = subst (λ (g : Shape). Fits g c.head.layout) (sym same.geometry) well.layout;
  no_other_magic = λ bad n some low. (
      let size : set_zones new.geometry c.head.layout ≡ set_zones old.geometry c.head.layout = ap (λ (g : Shape). set_zones g c.head.layout) same.geometry in
      let first = chosen_first old c well.is_chosen in
      let room : 2 * set_zones old.geometry c.head.layout < old.geometry.conv = well.layout.conventional_data in
      let blocks = shape.size.least in
      ap has_magic (same_block old new image same (c.first + n) 0 (omega arith) (omega arith))
      ∙ well.no_other_magic (subst (λ (o : Option Super). IsNone o) good bad) n some (omega arith));
  map = subst (λ (g : Shape). MapFollowsRules g c.head.layout (tables_of new c).entries) (sym same.geometry) (subst (λ (t : Tables). MapFollowsRules old.geometry c.head.layout t.entries) (sym tables) well.map);
  bits = subst (λ (g : Shape). BitsFollowRules g new.held (tables_of new c)) (sym same.geometry) (subst (BitsFollowRules old.geometry new.held) (sym tables) bits);
}
  where
    tables : tables_of new c ≡ tables_of old c
    tables = tables_of_same old new c image shape same well.is_chosen well.layout

    good : good_super new 0 ≡ good_super old 0
    good =
        let some = shape.count.some_conventional in
        let blocks = shape.size.least in
        ap (λ (g : Shape). good_super (image_at g new.held new.sector) 0) same.geometry
        ∙ ap (λ (block : List ℕ). if_own (0 * old.geometry.zone_blocks) (decoded block)) (same_block old new image same 0 0 some (omega arith))

    bits : BitsFollowRules old.geometry new.held (tables_of old c)
    bits = record {
      named = well.bits.named;
      below = λ z x far low within valid. (let held = (same.zones z).held in let under = well.bits.below z x far low within valid in omega arith);
      one_place = well.bits.one_place;
    }

-- and their contents are the same
pub content_of_same : (old new : Image) (c : Chosen) → IsImage old → IsShape old.geometry → Same old new → IsWellFormed old c → content new c ≡ content old c
content_of_same old new c image shape same well =
    let size = shape.size.least in
    let t : Tables = tables_of old c in
    let b : ℕ = old.geometry.zone_blocks in
    ap₂ (λ (n : ℕ) (u : Tables). served n u new.sector) (ap (λ (g : Shape). g.zone_blocks) same.geometry) (tables_of_same old new c image shape same well.is_chosen well.layout)
    ∙ same_map (sector_of b t new.sector) (sector_of b t old.sector) 0 (length t.entries * b * 8) (λ i from low. served_with old c image well (λ u v. v ≡ u) new.sector (λ z j z_low j_low. (same.zones z).sectors j j_low) refl (omega arith) i)

-- two images hold the same either way round
pub same_back : (old new : Image) → Same old new → Same new old
same_back old new same = record {
  geometry = sym same.geometry;
  zones = λ z. record {
    held = sym (same.zones z).held;
    sectors = λ i low. (let held = (same.zones z).held in sym ((same.zones z).sectors i (omega arith)));
  };
}

-- what is served, by its place
pub length-served : (b : ℕ) (t : Tables) (sector : ℕ → ℕ → List ℕ) → length (served b t sector) ≡ length t.entries * b * 8
length-served b t sector = length-map-range_with_len (sector_of b t sector) 0 (length t.entries * b * 8)

pub served-at : (b : ℕ) (t : Tables) (sector : ℕ → ℕ → List ℕ) (i : ℕ) (d : List ℕ) → i < length t.entries * b * 8 → get_or (served b t sector) i d ≡ sector_of b t sector i
served-at b t sector i d low = get_or-map-range_with_len (sector_of b t sector) 0 (length t.entries * b * 8) i i d low (omega arith)
