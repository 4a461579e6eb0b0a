-- What one write of whole blocks makes of a set.
use Rattle.std.proofs.Common.{◌≡◌, ◌⊎◌, ℕ, zero, suc, ◌+◌, ◌*◌, ◌/◌, ◌%◌, ◌<◌, ◌≤◌, List, ◌++◌, length, take, drop, refl, sym, ap, ap₂, ◌∙◌, arith, inl, inr}
use Rattle.std.proofs.Math.Nat.{mod-lt}
use Rattle.std.proofs.Math.Seq.{take-add}
use Rattle.std.proofs.lemmas.List.{drop-drop}
use Rattle.zd_base.specs.Geometry.{Shape, IsShape}
use Rattle.zd_model.specs.Image.{Image, IsImage, run_of, block_at, set_block}
use Rattle.zd_model.proofs.SameLaws.{same_run}
use Rattle.zd_disk.specs.Steps.{Wrote, piece}
use Rattle.zd_format.specs.Sets.{PutBlocks, block_in}
use Rattle.zd_disk.specs.Runs.{blocks_in}
use Rattle.zd_format.proofs.PlaceLaws.{earlier_place, place_of}
use Rattle.zd_disk.proofs.RunLaws.{place_in_zone}

-- sectors that were put are the bytes
run_put : (n a start : ℕ) (sector : ℕ → List ℕ) (bytes : List ℕ) → ((j : ℕ) → a ≤ j → j < a + n → sector (start + j) ≡ piece bytes j)
    → run_of sector (start + a) n ≡ take (512 * n) (drop (512 * a) bytes)
run_put zero a start sector bytes put = refl
run_put (suc n) a start sector bytes put =
    let one : 512 * suc n ≡ 512 + 512 * n = omega arith in
    let on : 512 * (a + 1) ≡ 512 * a + 512 = omega arith in
    let next : start + a + 1 ≡ start + (a + 1) = omega arith in
    let rest = run_put n (a + 1) start sector bytes (λ j low high. put j (omega (arith, low)) (omega (arith, high))) in
    let behind = ap (λ (m : ℕ). drop m bytes) on ∙ sym (drop-drop 512 (512 * a) bytes) in
    ap₂ (λ (x y : List ℕ). x ++ y) (put a (omega arith) (omega arith))
    (ap (λ (m : ℕ). run_of sector m n) next ∙ rest ∙ ap (λ (l : List ℕ). take (512 * n) l) behind)
    ∙ sym (take-add 512 (512 * n) (drop (512 * a) bytes))
    ∙ ap (λ (m : ℕ). take m (drop (512 * a) bytes)) (sym one)

-- a write of whole blocks into one conventional zone
module _ (first b : ℕ) (bytes : List ℕ) (old new : Image) (image : IsImage old) (shape : IsShape old.geometry)
    (whole : length bytes ≡ 4096 * blocks_in bytes)
    (low : first + b / old.geometry.zone_blocks < old.geometry.conv)
    (within : b % old.geometry.zone_blocks + blocks_in bytes ≤ old.geometry.zone_blocks)
    (wrote : Wrote (first + b / old.geometry.zone_blocks) (8 * (b % old.geometry.zone_blocks)) bytes old new) where
  abbrev w : ℕ
  w = old.geometry.zone_blocks

  abbrev z : ℕ
  z = first + b / w

  abbrev r : ℕ
  r = b % w

  -- a block of the new image by the old one's geometry
  by_old : (f k : ℕ) → set_block new f k ≡ block_at new (f + k / w) (k % w)
  by_old f k = ap (λ (g : Shape). block_at new (f + k / g.zone_blocks) (k % g.zone_blocks)) wrote.geometry

  put_there : (j : ℕ) → j < blocks_in bytes → set_block new first (b + j) ≡ block_in bytes j
  put_there j h =
      let place = place_in_zone b j w (omega (arith, within, h)) in
      let at : 8 * (r + j) ≡ 8 * r + 8 * j = omega arith in
      let from : 512 * (8 * j) ≡ 4096 * j = omega arith in
      by_old first (b + j)
      ∙ ap₂ (λ (q s : ℕ). block_at new (first + q) s) place.0 place.1
      ∙ ap (λ (s : ℕ). run_of (new.sector z) s 8) at
      ∙ run_put 8 (8 * j) (8 * r) (new.sector z) bytes (λ i from to. wrote.zone.put i (omega (arith, whole, h, to)))
      ∙ ap (λ (m : ℕ). take 4096 (drop m bytes)) from

  size : 0 < w
  size = let least = shape.size.least in omega (arith, least)

  stays : (q x : ℕ) → x < w → (q < z) ⊎ ((q ≡ z) × (x < r)) → block_at new q x ≡ block_at old q x
  stays q x inside (inl less) =
      let full = image.conventional q (omega (arith, less, low)) in
      same_run (new.sector q) (old.sector q) (8 * x) 8
      (λ i from to. (wrote.others q (omega (arith, less))).sectors i (omega (arith, full, inside, to)))
  stays q x inside (inr (same, less)) =
      let full = image.conventional z low in
      ap (λ (y : ℕ). block_at new y x) same
      ∙ same_run (new.sector z) (old.sector z) (8 * x) 8
      (λ i from to. wrote.zone.before i (omega (arith, less, to)) (omega (arith, full, inside, to)))
      ∙ ap (λ (y : ℕ). block_at old y x) (sym same)

  before_there : (f k : ℕ) → f * w + k < first * w + b → set_block new f k ≡ set_block old f k
  before_there f k h =
      let here = place_of f k w in
      let there = place_of first b w in
      let inside = mod-lt k {m = w} size in
      by_old f k ∙ stays (f + k / w) (k % w) inside
      (earlier_place (f + k / w) (k % w) z r w inside (mod-lt b {m = w} size) (omega (arith, here, there, h)))

  pub put_blocks : PutBlocks first b bytes old new
  put_blocks = record { geometry = wrote.geometry; put = put_there; before = before_there }
