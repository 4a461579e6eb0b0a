-- A valid block of the device is read from its place in its zone.
use Rattle.std.proofs.Common.{◌≡◌, ℕ, ◌+◌, ◌*◌, ◌/◌, ◌%◌, ◌<◌, ◌≤◌, Some, sym, ap, ◌∙◌, arith}
use Rattle.zd_model.specs.Image.{Image, run_of}
use Rattle.zd_model.proofs.ServedLaws.{placed, same_joined}
use Rattle.zd_disk.specs.OfGeometry.{IsImageOf}
use Rattle.zd_disk.specs.Told.{IsInside}
use Rattle.zd_tables.specs.Rules.{AreBelow}
use Rattle.zd_volume.specs.Flights.{place_now, tables_now}
use Rattle.zd_volume.specs.Sets.{AreSets, sector_by}
use Rattle.zd_volume.specs.Volumes.{PlainVolume, sets_of}
use Rattle.zd_volume.proofs.FlightLaws.{run_held, run_zone}
use Rattle.zd_routes.specs.Edges.{block_served}

module _ (v : PlainVolume) (are : AreSets (sets_of v)) (block z : ℕ)
    (is : place_now v (block / v.geometry.zone_blocks) (block % v.geometry.zone_blocks) ≡ Some z) where
  inside : block % v.geometry.zone_blocks < v.geometry.zone_blocks
  inside = (let least = are.shape.size.least in omega (arith, least))

  pub place_inside : IsInside z (8 * (block % v.geometry.zone_blocks)) 8 v.geometry
  place_inside =
      let low = inside in
      (run_zone v are (block / v.geometry.zone_blocks) (block % v.geometry.zone_blocks) z is, omega (arith, low))

  pub place_held : (i : Image) → IsImageOf v.geometry i → AreBelow v.geometry i.held (tables_now v)
      → 8 * (block % v.geometry.zone_blocks) + 8 ≤ i.held z
  place_held i of below =
      run_held v are (block / v.geometry.zone_blocks) (block % v.geometry.zone_blocks) z is i of below inside

  pub read_served : (i : Image)
      → run_of (i.sector z) (8 * (block % v.geometry.zone_blocks)) 8 ≡ block_served v i block
  read_served i =
      same_joined (i.sector z) (sector_by (sets_of v) (tables_now v) i) (8 * (block % v.geometry.zone_blocks))
      (8 * block) 8
      (λ j few.
      let at : (8 * block + j) / 8 ≡ block = omega (arith, few) in
      let rest : (8 * block + j) % 8 ≡ j = omega (arith, few) in
      let spot_is = ap (λ (x : ℕ). 8 * (x % v.geometry.zone_blocks)) at in
      let here = ap (λ (x : ℕ). place_now v (x / v.geometry.zone_blocks) (x % v.geometry.zone_blocks)) at in
      ap (i.sector z) (omega (arith, rest, spot_is))
      ∙ sym (placed v.geometry.zone_blocks (tables_now v) i.sector (8 * block + j) z (here ∙ is)))
