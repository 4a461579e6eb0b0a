-- The sectors of a chunk, by their blocks: where they stand among those of the device, and where the chunk's zones have
-- them.
use Rattle.std.proofs.Common.{inl, inr, ◌≡◌, ℕ, ◌+◌, ◌*◌, ◌/◌, ◌%◌, ◌<◌, true, List, Some, sym, ap, ap₂, ◌∙◌, arith}
use Rattle.std.proofs.Math.Nat.{mul-le-mul_right}
use Rattle.std.proofs.lemmas.Bool.{false_from_ne_true, false≢true}
use Rattle.std.proofs.lemmas.Nat.{div-add-mod', mod-mul-add}
use Rattle.zd_base.specs.Geometry.{Shape}
use Rattle.zd_model.specs.History.{HistoryEntry}
use Rattle.zd_model.specs.Image.{Image}
use Rattle.zd_model.specs.Places.{place_in, spot, zone_at}
use Rattle.zd_model.specs.Safe.{last_at}
use Rattle.zd_model.specs.Tables.{NamesZone, entry_of, is_valid}
use Rattle.zd_model.specs.declared.metadata.MapEntry.{MapEntry}
use Rattle.zd_model.proofs.ServedLaws.{placed}
use Rattle.zd_volume.specs.Jobs.{sector_of_chunk}
use Rattle.zd_volume.specs.LeftImages.{ReadsAs}
use Rattle.zd_volume.specs.Sets.{AreSets, Sets, new_tables}
use Rattle.zd_volume.specs.declared.phase.Phase.{Phase}
use Rattle.zd_volume.proofs.DropCopies.{chunk_of_sector}
use Rattle.zd_routes.proofs.WritePlaces.{place_buffer, place_zone}

-- A SECTOR, by the block of its chunk
module _ (g : Shape) (chunk x j : ℕ) (inside : x < g.zone_blocks) (few : j < 8) where
  pub block_of_sector : sector_of_chunk g chunk x j / 8 % g.zone_blocks ≡ x
  block_of_sector =
      let block : sector_of_chunk g chunk x j / 8 ≡ chunk * g.zone_blocks + x = omega (arith, few) in
      ap (λ (k : ℕ). k % g.zone_blocks) block ∙ mod-mul-add chunk g.zone_blocks x inside

  pub spot_of_sector : spot g.zone_blocks (sector_of_chunk g chunk x j) ≡ 8 * x + j
  spot_of_sector =
      let rest : sector_of_chunk g chunk x j % 8 ≡ j = omega (arith, few) in
      ap₂ (λ (y i : ℕ). 8 * y + i) block_of_sector rest

  -- it is one of the device
  pub sector_low : (chunks : ℕ) → chunk < chunks → sector_of_chunk g chunk x j < chunks * g.zone_blocks * 8
  sector_low chunks low =
      let up = mul-le-mul_right {m = chunk + 1} {n = chunks} g.zone_blocks (omega (arith, low)) in
      let split : (chunk + 1) * g.zone_blocks ≡ chunk * g.zone_blocks + g.zone_blocks = omega arith in
      omega (arith, up, split, inside, few)

-- and each sector is that of a block of its chunk
pub as_chunk_sector : (g : Shape) (n : ℕ)
    → n ≡ sector_of_chunk g (n / 8 / g.zone_blocks) (n / 8 % g.zone_blocks) (n % 8)
as_chunk_sector g n =
    let blocks = div-add-mod' (n / 8) g.zone_blocks in
    omega (arith, blocks)

module _ (s : Sets) (are : AreSets s) (chunk y x : ℕ) (own : NamesZone (entry_of (new_tables s) chunk) y)
    (inside : x < s.geometry.zone_blocks) (valid : is_valid (new_tables s) y x ≡ true) where
  abbrev e : MapEntry
  e = entry_of (new_tables s) chunk

  -- A VALID BLOCK of one of its zones stands there
  pub own_place : place_in (new_tables s) (entry_of (new_tables s) chunk) x ≡ Some y
  own_place = elim own [
    | inl zone ↦ place_zone (new_tables s) x e y zone valid
    | inr buffer ↦
        place_buffer (new_tables s) x e y buffer valid (λ z zone.
        false_from_ne_true (is_valid (new_tables s) z x) (λ also.
        false≢true (sym (are.new_rules.bits.one_place chunk z y x zone buffer inside also) ∙ valid)))
  ]

  module _ (j : ℕ) (few : j < 8) where
    pub own_stands : zone_at s.geometry.zone_blocks (new_tables s) (sector_of_chunk s.geometry chunk x j) ≡ Some y
    own_stands =
        ap₂ (λ (c b : ℕ). place_in (new_tables s) (entry_of (new_tables s) c) b)
        (chunk_of_sector s.geometry chunk x j inside few) (block_of_sector s.geometry chunk x j inside few)
        ∙ own_place

    -- SO ITS SECTORS have what was there last
    pub own_last : chunk < s.head.layout.chunks → (p : Phase) (base : List (List ℕ)) (h : List HistoryEntry)
        (r : Image) → ReadsAs p s base h r
        → r.sector y (8 * x + j) ≡ last_at base h (sector_of_chunk s.geometry chunk x j)
    own_last there p base h r reads =
        sym (ap (λ (i : ℕ). r.sector y i) (spot_of_sector s.geometry chunk x j inside few))
        ∙ sym (placed s.geometry.zone_blocks (new_tables s) r.sector (sector_of_chunk s.geometry chunk x j) y
        own_stands)
        ∙ reads.served (sector_of_chunk s.geometry chunk x j)
        (sector_low s.geometry chunk x j inside few s.head.layout.chunks there)
