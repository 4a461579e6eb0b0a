-- Where the sectors of the device stand after a discard of blocks of one chunk.
use Rattle.std.proofs.Common.{◌≡◌, ◌≢◌, ℕ, ◌+◌, ◌-◌, ◌*◌, ◌/◌, ◌%◌, ◌<◌, ◌≤◌, Bool, false, cond, List, Option, Some}
use Rattle.std.proofs.Common.{None, inl, inr, refl, sym, ap, ap₂, ◌∙◌, subst, arith}
use Rattle.std.proofs.Math.Nat.{mul-le-mul_right}
use Rattle.std.proofs.lemmas.Bool.{cases_eq}
use Rattle.std.proofs.lemmas.Nat.{div-add-mod', div-mul-add, mod-mul-add}
use Rattle.std.specs.Option.{option_or}
use Rattle.zd_model.specs.Bytes.{zero_sector}
use Rattle.zd_model.specs.Places.{place_in, zone_at}
use Rattle.zd_model.specs.Plain.{ends_past, put_by}
use Rattle.zd_model.specs.Requests.{block_count, first_block, first_sector, operation_of, sector_count}
use Rattle.zd_model.specs.Requests.Operation.{Discarding}
use Rattle.zd_model.specs.Stops.{Covers}
use Rattle.zd_model.specs.Tables.{NamesZone, Tables, entry_of, is_valid, sector_of, where_valid}
use Rattle.zd_model.specs.declared.metadata.MapEntry.{MapEntry}
use Rattle.zd_model.specs.declared.requests.What.{What}
use Rattle.zd_model.specs.declared.requests.What.TheVariants.{Read, Write, Discard, Flush, ReadSectors, WriteSectors}
use Rattle.zd_model.proofs.ArrayLaws.{ends_inside}
use Rattle.zd_model.proofs.LastLaws.{IsOutside}
use Rattle.zd_model.proofs.ServedLaws.{placed, unplaced}
use Rattle.zd_volume.specs.Discards.{ClearsBits, DiscardsBlocks, chunk_touched, range_end, range_first}
use Rattle.zd_volume.specs.Sets.{Sets, device_sectors}
use Rattle.zd_volume.proofs.DropTables.{in_or_out}
use Rattle.zd_volume.proofs.PlaceLaws.{cases_place}

-- THE PLACE OF A BLOCK, by the bits of its chunk's zones
module _ (u : Tables) (x : ℕ) where
  where_none : (o : Option ℕ) → ((z : ℕ) → o ≡ Some z → is_valid u z x ≡ false) → where_valid u x o ≡ None
  where_none None bare = refl
  where_none (Some y) bare = ap (λ (b : Bool). cond b (Some y) None) (bare y refl)

  where_same : (t : Tables) (o : Option ℕ) → ((z : ℕ) → o ≡ Some z → is_valid u z x ≡ is_valid t z x)
      → where_valid u x o ≡ where_valid t x o
  where_same t None same = refl
  where_same t (Some y) same = ap (λ (b : Bool). cond b (Some y) None) (same y refl)

  -- valid in neither
  pub place_none : (e : MapEntry) → ((z : ℕ) → NamesZone e z → is_valid u z x ≡ false) → place_in u e x ≡ None
  place_none e bare =
      ap (λ (o : Option ℕ). option_or o (where_valid u x e.buffer)) (where_none e.zone (λ z h. bare z (inl h)))
      ∙ where_none e.buffer (λ z h. bare z (inr h))

  -- as before
  pub place_same : (t : Tables) (e : MapEntry) → ((z : ℕ) → NamesZone e z → is_valid u z x ≡ is_valid t z x)
      → place_in u e x ≡ place_in t e x
  place_same t e same =
      ap₂ option_or (where_same t e.zone (λ z h. same z (inl h))) (where_same t e.buffer (λ z h. same z (inr h)))

-- a sector with the same place is the same
pub sector_same : (b : ℕ) (t u : Tables) (sector : ℕ → ℕ → List ℕ) (n : ℕ) → zone_at b u n ≡ zone_at b t n
    → sector_of b u sector n ≡ sector_of b t sector n
sector_same b t u sector n same = elim (cases_place (zone_at b t n)) [
  | inl none ↦ unplaced b u sector n (same ∙ none) ∙ sym (unplaced b t sector n none)
  | inr at ↦ placed b u sector n at.0 (same ∙ at.1) ∙ sym (placed b t sector n at.0 at.1)
]

-- sector n is in these blocks of the chunk, where zones have b blocks
abbrev pub IsWithin : ℕ → ℕ → ℕ → ℕ → ℕ → Type 0
IsWithin b chunk first end n = (n / 8 / b ≡ chunk) × (first ≤ n / 8 % b) × (n / 8 % b < end)

-- THE SECTORS: those of the range stand nowhere, all others where they stood
module _ (b chunk first end : ℕ) (t u : Tables) (clears : ClearsBits (entry_of t chunk) first end t u)
    (apart : (c z : ℕ) → c ≢ chunk → NamesZone (entry_of t c) z → NamesZone (entry_of t chunk) z → ⊥) where
  pub inside_nowhere : (n : ℕ) → IsWithin b chunk first end n → zone_at b u n ≡ None
  inside_nowhere n h =
      ap (λ (c : ℕ). place_in u (entry_of u c) (n / 8 % b)) h.0
      ∙ ap (λ (e : MapEntry). place_in u e (n / 8 % b)) (clears.entries chunk)
      ∙ place_none u (n / 8 % b) (entry_of t chunk) (λ z named. clears.inside z (n / 8 % b) named h.1 h.2)

  outside_same : (c x : ℕ) → ((z : ℕ) → NamesZone (entry_of t c) z → is_valid u z x ≡ is_valid t z x)
      → place_in u (entry_of u c) x ≡ place_in t (entry_of t c) x
  outside_same c x same =
      ap (λ (e : MapEntry). place_in u e x) (clears.entries c) ∙ place_same u x t (entry_of t c) same

  pub outside_there : (n : ℕ) → (IsWithin b chunk first end n → ⊥) → zone_at b u n ≡ zone_at b t n
  outside_there n off = outside_same (n / 8 / b) (n / 8 % b) (elim (cases_eq (n / 8 / b) chunk) [
    | inr other ↦ λ z named. clears.others z (n / 8 % b) (λ m. apart (n / 8 / b) z other named m)
    | inl here ↦ elim (in_or_out (n / 8 % b) first end) [
      | inl at ↦ absurd (off (here, at.0, at.1))
      | inr out ↦ λ z named.
          clears.outside z (n / 8 % b) (subst (λ (c : ℕ). NamesZone (entry_of t c) z) here named) out
    ]
  ])

-- A DISCARD is one of whole blocks
pub whole_blocks : (what : What) → operation_of what ≡ Discarding
    → (first_sector what ≡ 8 * first_block what) × (sector_count what ≡ 8 * block_count what)
whole_blocks (Read block count) is = absurd (let f : ⊥ = cc in f)
whole_blocks (Write block count seed) is = absurd (let f : ⊥ = cc in f)
whole_blocks (Discard block count) is = (omega arith, omega arith)
whole_blocks Flush is = absurd (let f : ⊥ = cc in f)
whole_blocks (ReadSectors sector count) is = absurd (let f : ⊥ = cc in f)
whole_blocks (WriteSectors sector count seed) is = absurd (let f : ⊥ = cc in f)

pub puts_zeros : (what : What) → operation_of what ≡ Discarding → put_by what ≡ Some (λ i. zero_sector)
puts_zeros (Read block count) is = absurd (let f : ⊥ = cc in f)
puts_zeros (Write block count seed) is = absurd (let f : ⊥ = cc in f)
puts_zeros (Discard block count) is = refl
puts_zeros Flush is = absurd (let f : ⊥ = cc in f)
puts_zeros (ReadSectors sector count) is = absurd (let f : ⊥ = cc in f)
puts_zeros (WriteSectors sector count seed) is = absurd (let f : ⊥ = cc in f)

module _ (s : Sets) (what : What) (is : DiscardsBlocks s what) where
  abbrev b : ℕ
  b = s.geometry.zone_blocks

  -- its sectors are those of its blocks of its chunk
  pub covers_within : (n : ℕ) → Covers what n
      → IsWithin s.geometry.zone_blocks (chunk_touched s.geometry.zone_blocks what)
      (range_first s.geometry.zone_blocks what)
      (range_end s.geometry.zone_blocks what) n
  covers_within n covers =
      let whole = whole_blocks what is.discards in
      let inside = is.inside in
      let blocks = div-add-mod' (first_block what) b in
      let c : ℕ = chunk_touched b what in
      let r : ℕ = n / 8 - c * b in
      let at : n / 8 ≡ c * b + r = omega (arith, whole.0, whole.1, blocks, covers.0, covers.1) in
      let low : range_first b what ≤ r = omega (arith, whole.0, whole.1, blocks, covers.0, covers.1) in
      let high : r < range_end b what = omega (arith, whole.0, whole.1, blocks, covers.0, covers.1) in
      let few : r < b = omega (arith, high, inside) in
      let rest : n / 8 % b ≡ r = ap (λ (k : ℕ). k % b) at ∙ mod-mul-add c b r few in
      (ap (λ (k : ℕ). k / b) at ∙ div-mul-add c b r few, omega (arith, rest, low), omega (arith, rest, high))

  pub within_covers : (n : ℕ)
      → IsWithin s.geometry.zone_blocks (chunk_touched s.geometry.zone_blocks what)
      (range_first s.geometry.zone_blocks what)
      (range_end s.geometry.zone_blocks what) n
      → Covers what n
  within_covers n h =
      let whole = whole_blocks what is.discards in
      let blocks = div-add-mod' (first_block what) b in
      let there : chunk_touched b what * b + n / 8 % b ≡ n / 8 =
      ap (λ (c : ℕ). c * b + n / 8 % b) (sym h.0) ∙ div-add-mod' (n / 8) b in
      (omega (arith, whole.0, blocks, there, h.1), omega (arith, whole.0, whole.1, blocks, there, h.2))

  -- one that is outside isn't within
  pub outside_within : (n : ℕ) → IsOutside what n
      → IsWithin s.geometry.zone_blocks (chunk_touched s.geometry.zone_blocks what)
      (range_first s.geometry.zone_blocks what)
      (range_end s.geometry.zone_blocks what) n → ⊥
  outside_within n off h =
      let c = within_covers n h in
      elim off [ inl before ↦ omega (arith, before, c.0) | inr behind ↦ omega (arith, behind, c.1) ]

  -- it is in range
  pub in_range : ends_past (device_sectors s) what ≡ false
  in_range =
      let whole = whole_blocks what is.discards in
      let inside = is.inside in
      let there = is.there in
      let blocks = div-add-mod' (first_block what) b in
      let up = mul-le-mul_right {m = chunk_touched b what + 1} {n = s.head.layout.chunks} b (omega (arith, there)) in
      let split : (chunk_touched b what + 1) * b ≡ chunk_touched b what * b + b = omega arith in
      let total : device_sectors s ≡ 8 * (s.head.layout.chunks * b) = omega arith in
      ends_inside (device_sectors s) what (omega (arith, whole.0, whole.1, inside, blocks, up, split, total))
