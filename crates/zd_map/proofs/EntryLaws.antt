-- Numbers of four bytes in a block into which one is written.
use Rattle.std.proofs.Common.{◌≡◌, ◌⊎◌, ℕ, ◌+◌, ◌-◌, ◌^◌, ◌<◌, ◌≤◌, List, length, take, drop, get_or, replicate, refl, sym, ap, ◌∙◌, arith, inl, inr, Option, Some, None, lit<, if◌then◌else◌}
use Rattle.std.proofs.lemmas.List.{length-take, length-drop, get_or-take, get_or-drop, ext_get_or, length-replicate, get_or-replicate}
use Rattle.std.proofs.lemmas.Bool.{ne_eqb}
use Rattle.std.proofs.lemmas.Nat.{from_le_bytes-to_le_bytes_4}
use Rattle.std.specs.Int.{w32, to_le_bytes, from_le_bytes}
use Rattle.zd_model.specs.Bytes.{overwrite, u32_at}
use Rattle.zd_model.specs.Tables.{named}
use Rattle.zd_model.proofs.ArrayLaws.{length-overwrite, overwrite_before, overwrite_behind, overwrite_inside}
use Rattle.zd_map.specs.Numbers.{number_of, IsZoneField}

-- four places that hold the same
same_four : (xs ys : List ℕ) (k : ℕ) → length xs ≡ length ys → ((i : ℕ) → i < 4 → get_or xs (k + i) 0 ≡ get_or ys (k + i) 0)
    → take (k + 4 - k) (drop k xs) ≡ take (k + 4 - k) (drop k ys)
same_four xs ys k size same =
    let four : k + 4 - k ≡ 4 = omega arith in
    ext_get_or 0 (take (k + 4 - k) (drop k xs)) (take (k + 4 - k) (drop k ys))
    (omega (arith, length-take (k + 4 - k) (drop k xs), length-take (k + 4 - k) (drop k ys), length-drop k xs, length-drop k ys, size))
    (λ i h.
    let low : i < 4 = omega (arith, h, length-take (k + 4 - k) (drop k xs), four) in
    get_or-take (k + 4 - k) (drop k xs) i 0 (omega (arith, low, four)) ∙ get_or-drop k xs i 0 ∙ same i low
    ∙ sym (get_or-take (k + 4 - k) (drop k ys) i 0 (omega (arith, low, four)) ∙ get_or-drop k ys i 0))

-- a number that stands elsewhere stays
pub stays : (xs : List ℕ) (at n k : ℕ) → at + 4 ≤ length xs → (k + 4 ≤ at) ⊎ (at + 4 ≤ k)
    → u32_at (overwrite xs at (to_le_bytes w32 n)) k ≡ u32_at xs k
unfolding u32_at
stays xs at n k fits apart =
    let new : List ℕ = to_le_bytes w32 n in
    ap (from_le_bytes w32) (same_four (overwrite xs at new) xs k (length-overwrite xs at new fits) (each apart))
  where
    each : (k + 4 ≤ at) ⊎ (at + 4 ≤ k) → (i : ℕ) → i < 4
        → get_or (overwrite xs at (to_le_bytes w32 n)) (k + i) 0 ≡ get_or xs (k + i) 0
    each (inl low) i h = overwrite_before xs at (to_le_bytes w32 n) fits (k + i) 0 (omega arith)
    each (inr high) i h = overwrite_behind xs at (to_le_bytes w32 n) fits (k + i) 0 (omega arith)

-- and the one that is written stands there
pub stands : (xs : List ℕ) (at n : ℕ) → at + 4 ≤ length xs → n < 2 ^ 32
    → u32_at (overwrite xs at (to_le_bytes w32 n)) at ≡ n
unfolding u32_at
stands xs at n fits small =
    let new : List ℕ = to_le_bytes w32 n in
    let here : take (at + 4 - at) (drop at (overwrite xs at new)) ≡ new = ext_get_or 0 (take (at + 4 - at) (drop at (overwrite xs at new))) new
    (omega (arith, length-take (at + 4 - at) (drop at (overwrite xs at new)), length-drop at (overwrite xs at new), length-overwrite xs at new fits))
    (λ i h.
    let low : i < 4 = omega (arith, h, length-take (at + 4 - at) (drop at (overwrite xs at new))) in
    let back : at + i - at ≡ i = omega arith in
    get_or-take (at + 4 - at) (drop at (overwrite xs at new)) i 0 (omega (arith, low)) ∙ get_or-drop at (overwrite xs at new) i 0
    ∙ overwrite_inside xs at new fits (at + i) 0 (omega arith) (omega (arith, low)) ∙ ap (λ j. get_or new j 0) back) in
    ap (from_le_bytes w32) here ∙ from_le_bytes-to_le_bytes_4 n small

-- a zone's number names it
pub named_back : (zone : Option ℕ) → IsZoneField zone → named (number_of zone) ≡ zone
named_back None h = refl
named_back (Some zone) h =
    ap (λ none. if none then None else Some zone) (ne_eqb zone 0xFFFFFFFF (λ same. omega (arith, same, h)))

-- and has four bytes
pub is_small : (zone : Option ℕ) → IsZoneField zone → number_of zone < 2 ^ 32
is_small None h = lit< tt
is_small (Some zone) h = omega (arith, h)

-- so it can be written and read
pub named_there : (block xs : List ℕ) (at : ℕ) (zone : Option ℕ) → at + 4 ≤ length xs → IsZoneField zone
    → block ≡ overwrite xs at (to_le_bytes w32 (number_of zone)) → named (u32_at block at) ≡ zone
named_there block xs at zone fits h is =
    ap (λ (l : List ℕ). named (u32_at l at)) is ∙ ap named (stands xs at (number_of zone) fits (is_small zone h))
    ∙ named_back zone h

-- in a block of these bytes no zone is named
pub none_named : (k : ℕ) → k + 4 ≤ 4096 → named (u32_at (replicate 4096 255) k) ≡ None
unfolding u32_at
none_named k fits =
    let byte : ℕ = 255 in
    let block : List ℕ = replicate 4096 byte in
    let size : length block ≡ 4096 = length-replicate 4096 byte in
    let here : take (k + 4 - k) (drop k block) ≡ replicate 4 byte = ext_get_or 0 (take (k + 4 - k) (drop k block)) (replicate 4 byte)
    (omega (arith, length-take (k + 4 - k) (drop k block), length-drop k block, size))
    (λ i h.
    let low : i < 4 = omega (arith, h, length-take (k + 4 - k) (drop k block)) in
    get_or-take (k + 4 - k) (drop k block) i 0 (omega (arith, low)) ∙ get_or-drop k block i 0
    ∙ get_or-replicate 4096 (k + i) byte 0 (omega (arith, low)) ∙ sym (get_or-replicate 4 i byte 0 low)) in
    ap (λ bytes. named (from_le_bytes w32 bytes)) here
