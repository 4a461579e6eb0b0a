-- The tables in the blocks of a set are those of the image that has these blocks.
use Rattle.std.proofs.Common.{◌≡◌, ℕ, zero, suc, ◌+◌, ◌-◌, ◌*◌, ◌/◌, ◌%◌, ◌<◌, ◌≤◌, List, ◌++◌, map, take, drop, ap, ap₂, ◌∙◌, arith}
use Rattle.std.proofs.Math.Seq.{take-add}
use Rattle.std.proofs.lemmas.List.{drop-drop}
use Rattle.std.proofs.lemmas.Nat.{mul-add-lt}
use Rattle.std.specs.List.{range_with_len, concat}
use Rattle.zd_base.specs.Geometry.{zone_count, per}
use Rattle.zd_base.specs.Layout.{Fits, used_blocks}
use Rattle.zd_model.specs.Image.{Image, set_block}
use Rattle.zd_model.specs.Tables.{entry_at}
use Rattle.zd_model.specs.Volume.{Chosen, bitmap_block, bits_in, entry_in, tables_of}
use Rattle.zd_model.specs.declared.metadata.MapEntry.{MapEntry}
use Rattle.zd_model.proofs.SameLaws.{same_map}
use Rattle.zd_sets.specs.Blocks.{blocks_of}
use Rattle.zd_tables.specs.Tables.{bits_in_blocks, entry_in_blocks, tables_in}

-- neighbouring blocks, joined
pub joined : (bytes : List ℕ) (block : ℕ → List ℕ) (b s k : ℕ)
    → ((i : ℕ) → s ≤ i → i < s + k → blocks_of bytes (b + i) 1 ≡ block i)
    → blocks_of bytes (b + s) k ≡ concat (map block (range_with_len s k))
joined bytes block b s zero each =
    ap (λ n. take n (drop (4096 * (b + s)) bytes)) (let none : 4096 * (b + s + 0) - 4096 * (b + s) ≡ 0 = omega arith in none)
joined bytes block b s (suc k) each =
    let here : List ℕ = drop (4096 * (b + s)) bytes in
    let whole : 4096 * (b + s + suc k) - 4096 * (b + s) ≡ 4096 + 4096 * k = omega arith in
    let one : 4096 ≡ 4096 * (b + s + 1) - 4096 * (b + s) = omega arith in
    let others : 4096 * k ≡ 4096 * (b + (s + 1) + k) - 4096 * (b + (s + 1)) = omega arith in
    let behind : 4096 * (b + s) + 4096 ≡ 4096 * (b + (s + 1)) = omega arith in
    ap (λ n. take n here) whole
    ∙ take-add 4096 (4096 * k) here
    ∙ ap₂ (λ (xs ys : List ℕ). xs ++ ys)
    (ap (λ n. take n here) one ∙ each s (omega arith) (omega arith))
    (ap₂ (λ (n : ℕ) (xs : List ℕ). take n xs) others (drop-drop 4096 (4096 * (b + s)) bytes ∙ ap (λ n. drop n bytes) behind)
    ∙ joined bytes block b (s + 1) k (λ i low high. each i (omega arith) (omega arith)))

-- the tables look at no super block
module _ (image : Image) (c : Chosen) (bytes : List ℕ) (fits : Fits image.geometry c.head.layout)
    (each : (k : ℕ) → 1 ≤ k → k < used_blocks image.geometry c.head.layout
    → blocks_of bytes k 1 ≡ set_block image c.first k) where
  entry_is : (chunk : ℕ) → chunk < c.head.layout.chunks → entry_in_blocks bytes chunk ≡ entry_in image c chunk
  entry_is chunk low = (let map_fits = fits.map in ap (λ (block : List ℕ). entry_at block (chunk % 512)) (each (1 + chunk / 512) (omega arith) (omega arith)))

  bits_are : (zone : ℕ) → zone < zone_count image.geometry → bits_in_blocks image.geometry c.head.layout bytes zone ≡ bits_in image c zone
  bits_are zone low =
      let first : ℕ = 1 + c.head.layout.map_blocks + zone * per image.geometry in
      ap (λ b. blocks_of bytes b (per image.geometry)) (let e : first ≡ first + 0 = omega arith in e)
      ∙ joined bytes (bitmap_block image c zone) first 0 (per image.geometry)
      (λ i from inside. each (first + i) (omega arith) (let place = mul-add-lt zone (per image.geometry) i (zone_count image.geometry) low (omega arith) in omega arith))

  pub tables_taken : tables_in image.geometry c.head.layout bytes ≡ tables_of image c
  tables_taken =
      ap₂ (λ (es : List MapEntry) (bs : List (List ℕ)). record { entries = es; bits = bs })
      (same_map (entry_in_blocks bytes) (entry_in image c) 0 c.head.layout.chunks (λ i from low. entry_is i (omega arith)))
      (same_map (bits_in_blocks image.geometry c.head.layout bytes) (bits_in image c) 0 (zone_count image.geometry) (λ i from low. bits_are i (omega arith)))
