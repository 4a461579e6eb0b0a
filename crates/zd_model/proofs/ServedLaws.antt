-- What tables serve: where blocks stand, and what is read of runs of sectors.
use Rattle.std.proofs.Common.{◌≡◌, ℕ, zero, suc, ◌+◌, ◌-◌, ◌*◌, ◌/◌, ◌%◌, ◌<◌, ◌≤◌, Bool, true, false}
use Rattle.std.proofs.Common.{cond, List, length, map, take, drop, replicate, ◌++◌, Option, Some, None}
use Rattle.std.proofs.Common.{refl, sym, ap, ap₂, ◌∙◌, arith, inl, inr, subst}
use Rattle.std.proofs.Math.Nat.{mul-le-mul_right}
use Rattle.std.proofs.lemmas.List.{replicate-append-replicate}
use Rattle.std.proofs.lemmas.List.FromFn.{take-map-range_with_len}
use Rattle.std.proofs.lemmas.Nat.{div-add-mod', div-mul-add, mod-mul-add}
use Rattle.std.specs.List.{range_with_len, concat, slice_range}
use Rattle.std.specs.Option.{option_map_or, option_or}
use Rattle.zd_model.specs.Bytes.{zero_sector}
use Rattle.zd_model.specs.Image.{Image, run_of}
use Rattle.zd_model.specs.Places.{chunk_sector, chunk_sectors, place_in, sector_in, spot, zone_at}
use Rattle.zd_model.specs.Plain.{reply_within}
use Rattle.zd_model.specs.Plain.Answer.{Got}
use Rattle.zd_model.specs.Tables.{NamesZone, Tables, entry_of, is_valid, sector_of, served, where_valid}
use Rattle.zd_model.specs.declared.metadata.MapEntry.{MapEntry}
use Rattle.zd_model.specs.declared.requests.What.TheVariants.{ReadSectors}
use Rattle.zd_model.proofs.FaultLaws.{some_is}

abbrev IsNamedThere : Tables → MapEntry → ℕ → ℕ → Type 0
IsNamedThere t e x zone = NamesZone e zone × (is_valid t zone x ≡ true)

-- a block with a place is valid in that zone, which the entry names
pub place_valid : (t : Tables) (e : MapEntry) (x zone : ℕ) → place_in t e x ≡ Some zone
    → NamesZone e zone × (is_valid t zone x ≡ true)
place_valid t e x zone is = by_zone e.zone refl is
  where
    by_buffer : (o : Option ℕ) → e.buffer ≡ o → where_valid t x o ≡ Some zone → IsNamedThere t e x zone
    by_buffer None named h = cc
    by_buffer (Some y) named h = by_bit (is_valid t y x) refl h
      where
        by_bit : (b : Bool) → is_valid t y x ≡ b → cond b (Some y) None ≡ Some zone
            → IsNamedThere t e x zone
        by_bit true valid k =
            (inr (named ∙ k), subst (λ (n : ℕ). is_valid t n x ≡ true) (some_is y zone k) valid)
        by_bit false valid k = cc

    by_zone : (o : Option ℕ) → e.zone ≡ o
        → option_or (where_valid t x o) (where_valid t x e.buffer) ≡ Some zone → IsNamedThere t e x zone
    by_zone None named h = by_buffer e.buffer refl h
    by_zone (Some y) named h = by_bit (is_valid t y x) refl h
      where
        by_bit : (b : Bool) → is_valid t y x ≡ b
            → option_or (cond b (Some y) None) (where_valid t x e.buffer) ≡ Some zone → IsNamedThere t e x zone
        by_bit true valid k =
            (inl (named ∙ k), subst (λ (n : ℕ). is_valid t n x ≡ true) (some_is y zone k) valid)
        by_bit false valid k = by_buffer e.buffer refl k

-- one of two places, or neither
either_place : {X : Type 0} (f : ℕ → X) (a b : Option ℕ) (d : X)
    → option_map_or f a (option_map_or f b d) ≡ option_map_or f (option_or a b) d
either_place f None b d = refl
either_place f (Some z) b d = refl

-- a sector of the device, by its zone
module _ (b : ℕ) (t : Tables) (sector : ℕ → ℕ → List ℕ) (n : ℕ) where
  by_zone : sector_of b t sector n ≡ option_map_or (λ z. sector z (spot b n)) (zone_at b t n) zero_sector
  by_zone =
      let e : MapEntry = entry_of t (n / 8 / b) in
      either_place (λ z. sector z (spot b n)) (where_valid t (n / 8 % b) e.zone)
      (where_valid t (n / 8 % b) e.buffer) zero_sector

  pub unplaced : zone_at b t n ≡ None → sector_of b t sector n ≡ zero_sector
  unplaced none = by_zone ∙ ap (λ (o : Option ℕ). option_map_or (λ z. sector z (spot b n)) o zero_sector) none

  pub placed : (z : ℕ) → zone_at b t n ≡ Some z → sector_of b t sector n ≡ sector z (spot b n)
  placed z some = by_zone ∙ ap (λ (o : Option ℕ). option_map_or (λ y. sector y (spot b n)) o zero_sector) some

-- two sectors of one chunk with one place in it are one
pub one_spot : (b m n : ℕ) → m / 8 / b ≡ n / 8 / b → spot b m ≡ spot b n → m ≡ n
one_spot b m n chunk same =
    let block : m / 8 % b ≡ n / 8 % b = omega (arith, same) in
    let blocks : m / 8 ≡ n / 8 =
    sym (div-add-mod' (m / 8) b) ∙ ap (λ (c : ℕ). c * b + m / 8 % b) chunk
    ∙ ap (λ (x : ℕ). n / 8 / b * b + x) block ∙ div-add-mod' (n / 8) b in
    omega (arith, same, blocks, block)

-- what is the same at each place is the same joined
pub same_joined : (f g : ℕ → List ℕ) (a b n : ℕ)
    → ((i : ℕ) → i < n → f (a + i) ≡ g (b + i)) → run_of f a n ≡ run_of g b n
same_joined f g a b zero same = refl
same_joined f g a b (suc n) same =
    ap₂ (λ (xs ys : List ℕ). xs ++ ys)
    (ap f (let e : a ≡ a + 0 = omega arith in e) ∙ same 0 (omega arith)
    ∙ ap g (let e : b + 0 ≡ b = omega arith in e))
    (same_joined f g (a + 1) (b + 1) n (λ i low.
    ap f (let e : a + 1 + i ≡ a + (1 + i) = omega arith in e) ∙ same (1 + i) (omega arith)
    ∙ ap g (let e : b + (1 + i) ≡ b + 1 + i = omega arith in e)))

-- sectors of blocks with a place are those of its zone
module _ (t : Tables) (e : MapEntry) (image : Image) (place : Option ℕ) (first stop at n : ℕ)
    (low : 8 * first ≤ at) (high : at + n ≤ 8 * stop)
    (all : (x : ℕ) → first ≤ x → x < stop → place_in t e x ≡ place) where
  pub span_is : run_of (sector_in place image) at n ≡ chunk_sectors t e image at n
  span_is =
      same_joined (sector_in place image) (chunk_sector t e image) at at n
      (λ i few. ap (λ (o : Option ℕ). sector_in o image (at + i))
      (sym (all ((at + i) / 8) (omega arith) (omega arith))))

-- sectors of zeros
pub zero_joined : (a n : ℕ) → run_of (λ x. zero_sector) a n ≡ replicate (512 * n) 0
unfolding zero_sector
zero_joined a zero = refl
zero_joined a (suc n) =
    ap (λ (xs : List ℕ). replicate 512 0 ++ xs) (zero_joined (a + 1) n)
    ∙ replicate-append-replicate 512 (512 * n) 0
    ∙ ap (λ (k : ℕ). replicate k 0) (let e : 512 + 512 * n ≡ 512 * suc n = omega arith in e)

-- the numbers after the first k
dropped : {X : Type 0} (f : ℕ → X) (a n k : ℕ) → k ≤ n
    → drop k (map f (range_with_len a n)) ≡ map f (range_with_len (a + k) (n - k))
dropped f a n zero low =
    ap₂ (λ (s l : ℕ). map f (range_with_len s l)) (let e : a ≡ a + 0 = omega arith in e)
    (let e : n ≡ n - 0 = omega arith in e)
dropped f a zero (suc k) low = absurd (let wrong : ⊥ = omega arith in wrong)
dropped f a (suc n) (suc k) low =
    dropped f (a + 1) n k (omega arith)
    ∙ ap₂ (λ (s l : ℕ). map f (range_with_len s l)) (let e : a + 1 + k ≡ a + suc k = omega arith in e)
    (let e : n - k ≡ suc n - suc k = omega arith in e)

-- n of the numbers from k on
ranged : {X : Type 0} (f : ℕ → X) (total k n : ℕ) → k + n ≤ total
    → slice_range (map f (range_with_len 0 total)) k (k + n) ≡ map f (range_with_len k n)
ranged {X} f total k n low =
    ap₂ (λ (m : ℕ) (xs : List X). take m xs) (let e : k + n - k ≡ n = omega arith in e)
    (dropped f 0 total k (omega arith))
    ∙ take-map-range_with_len f (0 + k) (total - k) n (omega arith)
    ∙ ap (λ s. map f (range_with_len s n)) (let e : 0 + k ≡ k = omega arith in e)

module _ (z : ℕ) (t : Tables) (image : Image) (some : 0 < z) where
  abbrev pub sectors : ℕ → List ℕ
  sectors = sector_of z t image.sector

  -- sector r of chunk q
  sector_at : (q r i : ℕ) → r < 8 * z → i ≡ q * (8 * z) + r → sectors i ≡ chunk_sector t (entry_of t q) image r
  sector_at q r i inside is =
      let whole : q * (8 * z) ≡ 8 * (q * z) = omega arith in
      let block : i / 8 ≡ q * z + r / 8 = omega (arith, is, whole) in
      let rest : i % 8 ≡ r % 8 = omega (arith, is, whole) in
      let low : r / 8 < z = omega (arith, inside) in
      let chunk : i / 8 / z ≡ q = ap (λ n. n / z) block ∙ div-mul-add q z (r / 8) low in
      let place : i / 8 % z ≡ r / 8 = ap (λ n. n % z) block ∙ mod-mul-add q z (r / 8) low in
      let at : 8 * (r / 8) + r % 8 ≡ r = omega arith in
      let e : MapEntry = entry_of t q in
      rw (chunk, place, rest) (
      either_place (λ zone. image.sector zone (8 * (r / 8) + r % 8)) (where_valid t (r / 8) (entry_of t q).zone)
      (where_valid t (r / 8) (entry_of t q).buffer) zero_sector
      ∙ ap (λ (n : ℕ). option_map_or (λ zone. image.sector zone n) (place_in t e (r / 8)) zero_sector) at)

  -- the reply to a read in one chunk
  pub reply_is : (s n : ℕ) → s / (8 * z) < length t.entries → s % (8 * z) + n ≤ 8 * z
      → Got (chunk_sectors t (entry_of t (s / (8 * z))) image (s % (8 * z)) n)
      ≡ reply_within (served z t image.sector) (ReadSectors s n)
  reply_is s n low inside =
      let whole = div-add-mod' s (8 * z) in
      let up : (s / (8 * z) + 1) * (8 * z) ≤ length t.entries * (8 * z) =
      mul-le-mul_right (8 * z) (omega arith) in
      let total : length t.entries * (8 * z) ≡ length t.entries * z * 8 = omega arith in
      let split : (s / (8 * z) + 1) * (8 * z) ≡ s / (8 * z) * (8 * z) + 8 * z = omega arith in
      ap Got (sym (ap concat (ranged sectors (length t.entries * z * 8) s n
      (omega (arith, whole, up, total, split, inside)))
      ∙ same_joined sectors (chunk_sector t (entry_of t (s / (8 * z))) image) s (s % (8 * z)) n
      (λ i few. sector_at (s / (8 * z)) (s % (8 * z) + i) (s + i) (omega (arith, inside, few))
      (omega (arith, whole)))))
