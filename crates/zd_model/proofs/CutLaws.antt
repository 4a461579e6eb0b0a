-- The pieces of a request cut it.
use Rattle.std.proofs.Common.{◌≡◌, ℕ, zero, suc, ◌+◌, ◌-◌, ◌*◌, ◌/◌, ◌%◌, ◌<◌, ◌≤◌, min, max, Bool}
use Rattle.std.proofs.Common.{true, false, List, [], ◌∷◌, map, refl, sym, ap, ap₂, ◌∙◌, arith, subst}
use Rattle.std.proofs.Math.Nat.{mod-lt, mul-le-mul_left, le-div_iff_mul-le}
use Rattle.std.proofs.lemmas.Nat.{div-add-mod', div-mul-add}
use Rattle.std.specs.List.{range_with_len, enumerate_from}
use Rattle.zd_model.specs.Requests.{first_sector, sector_count, at_sectors, operation_of, Moves}
use Rattle.zd_model.specs.Pieces.{part_of, parts_of, chunks_touched, pieces_of_request}
use Rattle.zd_model.specs.declared.requests.Request.{Request}
use Rattle.zd_model.specs.declared.requests.Piece.{Piece}
use Rattle.zd_model.specs.Cut.{IsCut}
use Rattle.zd_model.specs.Plain.{ends_past}
use Rattle.zd_model.specs.declared.requests.What.{What}
use Rattle.zd_model.specs.declared.requests.What.TheVariants.{Read, Write, Discard, Flush}
use Rattle.zd_model.specs.declared.requests.What.TheVariants.{ReadSectors, WriteSectors}

-- the chunk of a block
chunk_is : (z c x : ℕ) → z * c ≤ x → x < z * c + z → x / z ≡ c
chunk_is z c x low high =
    let same : c * z + (x - c * z) ≡ x = omega arith in
    ap (λ y. y / z) (sym same) ∙ div-mul-add c z (x - c * z) (omega arith)

-- forms in blocks begin and end at a multiple of eight sectors
abbrev in_blocks : What → Bool
in_blocks (ReadSectors i n) = false
in_blocks (WriteSectors i n s) = false
in_blocks what = true

abbrev Divides : Bool → ℕ → Type 0
Divides true x = x % 8 ≡ 0
Divides false x = Unit {0}

abbrev CanBound : What → ℕ → Type 0
CanBound what x = Divides (in_blocks what) x

divides_max : (b : Bool) (x y : ℕ) → Divides b x → Divides b y → Divides b (max x y)
divides_max true x y h k = omega arith
divides_max false x y h k = tt

divides_min : (b : Bool) (x y : ℕ) → Divides b x → Divides b y → Divides b (min x y)
divides_min true x y h k = omega arith
divides_min false x y h k = tt

divides_minus : (b : Bool) (x y : ℕ) → Divides b x → Divides b y → Divides b (x - y)
divides_minus true x y h k = omega arith
divides_minus false x y h k = tt

divides_chunk : (b : Bool) (z c : ℕ) → Divides b (8 * z * c)
divides_chunk true z c = let same : 8 * z * c ≡ 8 * (z * c) = omega arith in omega arith
divides_chunk false z c = tt

divides_end : (b : Bool) (z c : ℕ) → Divides b (8 * z * c + 8 * z)
divides_end true z c = let same : 8 * z * c ≡ 8 * (z * c) = omega arith in omega arith
divides_end false z c = tt

first_divides : (what : What) → CanBound what (first_sector what)
first_divides (Read b n) = omega arith
first_divides (Write b n s) = omega arith
first_divides (Discard b n) = omega arith
first_divides Flush = refl
first_divides (ReadSectors i n) = tt
first_divides (WriteSectors i n s) = tt

end_divides : (what : What) → CanBound what (first_sector what + sector_count what)
end_divides (Read b n) = omega arith
end_divides (Write b n s) = omega arith
end_divides (Discard b n) = omega arith
end_divides Flush = refl
end_divides (ReadSectors i n) = tt
end_divides (WriteSectors i n s) = tt

first_at : (what : What) (x y : ℕ) → Moves (operation_of what) → CanBound what x → first_sector (at_sectors what x y) ≡ x
first_at (Read b n) x y m f = omega arith
first_at (Write b n s) x y m f = omega arith
first_at (Discard b n) x y m f = omega arith
first_at Flush x y m f = absurd m
first_at (ReadSectors i n) x y m f = refl
first_at (WriteSectors i n s) x y m f = refl

count_at : (what : What) (x y : ℕ) → Moves (operation_of what) → CanBound what y → sector_count (at_sectors what x y) ≡ y
count_at (Read b n) x y m f = omega arith
count_at (Write b n s) x y m f = omega arith
count_at (Discard b n) x y m f = omega arith
count_at Flush x y m f = absurd m
count_at (ReadSectors i n) x y m f = refl
count_at (WriteSectors i n s) x y m f = refl

-- n sectors from sector b on, from chunk q to chunk t
module _ (z b n q t : ℕ) (some : 1 ≤ z) (full : 1 ≤ n) (low : 8 * z * q ≤ b) (high : b < 8 * z * q + 8 * z) (last_low : 8 * z * t < b + n) (last_high : b + n ≤ 8 * z * t + 8 * z) where
  record Part (c : ℕ) : Type 0 where
    begins : 8 * z * c < b + n
    ends : b < 8 * z * c + 8 * z

  each_part : (c : ℕ) → q ≤ c → c ≤ t → Part c
  each_part c from to =
      let up : 8 * z * c ≤ 8 * z * t = mul-le-mul_left (8 * z) to in
      let base : 8 * z * q ≤ 8 * z * c = mul-le-mul_left (8 * z) from in
      record { begins = omega arith; ends = omega arith }

  module _ (what : What) (moves : Moves (operation_of what)) (is_first : first_sector what ≡ b) (is_count : sector_count what ≡ n) (chunk : b / (8 * z) ≡ q) where
    begin_of : ℕ → ℕ
    begin_of i = max b (8 * z * (q + i))

    size_of : ℕ → ℕ
    size_of i = min (b + n) (8 * z * (q + i) + 8 * z) - max b (8 * z * (q + i))

    part_is : (i : ℕ) → part_of z what i ≡ at_sectors what (begin_of i) (size_of i)
    unfolding begin_of size_of
    part_is i = rw (is_first, is_count, chunk) refl

    begin_divides : (i : ℕ) → CanBound what (begin_of i)
    unfolding begin_of
    begin_divides i =
        divides_max (in_blocks what) b (8 * z * (q + i)) (subst (CanBound what) is_first (first_divides what))
        (divides_chunk (in_blocks what) z (q + i))

    size_divides : (i : ℕ) → CanBound what (size_of i)
    unfolding begin_of size_of
    size_divides i =
        let whole = subst (CanBound what) (ap₂ (λ (x y : ℕ). x + y) is_first is_count) (end_divides what) in
        let next = divides_end (in_blocks what) z (q + i) in
        divides_minus (in_blocks what) (min (b + n) (8 * z * (q + i) + 8 * z)) (max b (8 * z * (q + i)))
        (divides_min (in_blocks what) (b + n) (8 * z * (q + i) + 8 * z) whole next) (begin_divides i)

    first_is : (i : ℕ) → first_sector (part_of z what i) ≡ begin_of i
    first_is i = ap first_sector (part_is i) ∙ first_at what (begin_of i) (size_of i) moves (begin_divides i)

    count_is : (i : ℕ) → sector_count (part_of z what i) ≡ size_of i
    count_is i = ap sector_count (part_is i) ∙ count_at what (begin_of i) (size_of i) moves (size_divides i)

    cut_from : (m i : ℕ) → q + i + m ≡ t + 1 → (from : ℕ) → from ≡ min (b + n) (max b (8 * z * (q + i))) → IsCut z from (b + n) (map (part_of z what) (range_with_len i m))
    unfolding begin_of size_of
    cut_from zero i places from e =
        let at_end : 8 * z * (q + i) ≡ 8 * z * (t + 1) = ap (λ c. 8 * z * c) (omega arith) in
        omega arith
    cut_from (suc m) i places from e =
        let p = each_part (q + i) (omega arith) (omega arith) in
        let begins = p.begins in
        let ends = p.ends in
        let is : from ≡ max b (8 * z * (q + i)) = omega arith in
        let count = count_is i in
        let next : 8 * z * (q + (i + 1)) ≡ 8 * z * (q + i) + 8 * z = omega arith in (
          first_is i ∙ sym is,
          omega arith,
          chunk_is (8 * z) (q + i) from (omega arith) (omega arith) ∙ sym (chunk_is (8 * z) (q + i) (from + sector_count (part_of z what i) - 1) (omega arith) (omega arith)),
          cut_from m (i + 1) (omega arith) (from + sector_count (part_of z what i)) (omega arith),
        )

-- each request that is no flush is cut so
pub parts_cut : (z : ℕ) (what : What) → 1 ≤ z → Moves (operation_of what) → 1 ≤ sector_count what → IsCut z (first_sector what) (first_sector what + sector_count what) (map (part_of z what) (range_with_len 0 (chunks_touched z what)))
parts_cut z what some moves full =
    let b : ℕ = first_sector what in
    let n : ℕ = sector_count what in
    let w : ℕ = 8 * z in
    let q : ℕ = b / w in
    let t : ℕ = (b + n - 1) / w in
    let wide : 1 ≤ w = omega arith in
    let order : b / w ≤ (b + n - 1) / w = (le-div_iff_mul-le {x = b / w} {y = b + n - 1} wide).1 (omega arith) in
    cut_from z b n q t some full (omega arith) (omega arith) (omega arith) (omega arith) what moves refl refl refl ((b + n - 1) / w - b / w + 1) 0 (omega arith) b (omega arith)

whats_of : (z blocks k : ℕ) (n : ℕ) (r : Request) (parts : List What) → map (λ (p : Piece). p.what) (map (λ (p : ℕ × What). record { caller = r.caller; request = n; piece = p.0; what = p.1; range = ends_past (8 * blocks) r.what }) (enumerate_from k parts)) ≡ parts
whats_of z blocks k n r [] = refl
whats_of z blocks k n r (w ∷ parts) = ap (λ xs. w ∷ xs) (whats_of z blocks (k + 1) n r parts)

-- a request in range is cut; a flush has the one part that it is
pub parts_within : (z blocks : ℕ) (what : What) → ends_past (8 * blocks) what ≡ false → parts_of z blocks what ≡ map (part_of z what) (range_with_len 0 (chunks_touched z what))
parts_within z blocks (Read b n) within = rw within refl
parts_within z blocks (Write b n s) within = rw within refl
parts_within z blocks (Discard b n) within = rw within refl
parts_within z blocks (ReadSectors i n) within = rw within refl
parts_within z blocks (WriteSectors i n s) within = rw within refl
parts_within z blocks Flush within =
    let one : chunks_touched z Flush ≡ 1 = omega arith in
    sym (ap (λ m. map (part_of z Flush) (range_with_len 0 m)) one)

pub pieces_cut : (z blocks n : ℕ) (r : Request) → 1 ≤ z → Moves (operation_of r.what) → 1 ≤ sector_count r.what → ends_past (8 * blocks) r.what ≡ false → IsCut z (first_sector r.what) (first_sector r.what + sector_count r.what) (map (λ (p : Piece). p.what) (pieces_of_request z blocks (n, r)))
pieces_cut z blocks n r some moves full within = rw (whats_of z blocks 0 n r (parts_of z blocks r.what), parts_within z blocks r.what within) (parts_cut z r.what some moves full)

-- a request that ends past the device is one part, and so is a flush
pub parts_past : (z blocks : ℕ) (what : What) → ends_past (8 * blocks) what ≡ true → parts_of z blocks what ≡ what ∷ []
parts_past z blocks (Read b n) past = rw past refl
parts_past z blocks (Write b n s) past = rw past refl
parts_past z blocks (Discard b n) past = rw past refl
parts_past z blocks (ReadSectors i n) past = rw past refl
parts_past z blocks (WriteSectors i n s) past = rw past refl
parts_past z blocks Flush past = refl

-- sectors whose first and last lie in one chunk
pub in_one_chunk : (w b n : ℕ) → 1 ≤ w → 1 ≤ n → b / w ≡ (b + n - 1) / w → b % w + n ≤ w
in_one_chunk w b n some full same =
    let last : ℕ = b + n - 1 in
    let low = div-add-mod' b w in
    let high = div-add-mod' last w in
    let rest : last % w < w = mod-lt last (omega arith) in
    let chunk : b / w * w ≡ last / w * w = ap (λ q. q * w) same in
    omega arith

-- cuts go up
pub cut_up : (z from to : ℕ) (parts : List What) → IsCut z from to parts → from ≤ to
cut_up z from to [] h = omega arith
cut_up z from to (p ∷ parts) h = let up = cut_up z (from + sector_count p) to parts h.3 in omega arith
