-- The sectors and the blocks of a write in one chunk.
use Rattle.std.proofs.Common.{◌≡◌, ℕ, ◌+◌, ◌-◌, ◌*◌, ◌/◌, ◌%◌, ◌<◌, ◌≤◌, false, sym, ap, ◌∙◌, arith}
use Rattle.std.proofs.Math.Nat.{mul-le-mul_right}
use Rattle.std.proofs.lemmas.Nat.{div-add-mod', div-mul-add, mod-mul-add}
use Rattle.zd_model.specs.Places.{spot}
use Rattle.zd_model.specs.Plain.{ends_past}
use Rattle.zd_model.specs.Requests.{block_count, first_block}
use Rattle.zd_model.specs.Stops.{Covers}
use Rattle.zd_model.specs.declared.requests.What.{What}
use Rattle.zd_model.proofs.ArrayLaws.{ends_inside}
use Rattle.zd_volume.specs.Discards.{chunk_touched, range_end, range_first}
use Rattle.zd_volume.specs.Sets.{Sets, device_sectors}
use Rattle.zd_volume.proofs.DropPlaces.{IsWithin}
use Rattle.zd_routes.specs.Routes.{WritesBlocks}

-- a sector of the chunk, by its place there
module _ (b : ℕ) (what : What) (n : ℕ) (here : n / 8 / b ≡ chunk_touched b what) where
  -- its block
  pub block_here : n / 8 + range_first b what ≡ first_block what + n / 8 % b
  block_here =
      let there : chunk_touched b what * b + n / 8 % b ≡ n / 8 =
      ap (λ (c : ℕ). c * b + n / 8 % b) (sym here) ∙ div-add-mod' (n / 8) b in
      let blocks = div-add-mod' (first_block what) b in
      omega (arith, there, blocks)

  -- the sector at this place behind the first block
  pub sector_here : (j : ℕ) → spot b n ≡ 8 * range_first b what + j → n ≡ 8 * first_block what + j
  sector_here j is = (let at = block_here in omega (arith, is, at))

  pub spot_here : range_first b what ≤ n / 8 % b
      → spot b n ≡ 8 * range_first b what + (n - 8 * first_block what)
  spot_here from = (let at = block_here in omega (arith, at, from))

  -- it isn't before the first block, nor behind the last
  pub from_first : range_first b what ≤ n / 8 % b → 8 * first_block what ≤ n
  from_first from = (let at = block_here in omega (arith, at, from))

  pub below_end : n / 8 % b < range_end b what → n < 8 * (first_block what + block_count what)
  below_end low = (let at = block_here in omega (arith, at, low))

module _ (s : Sets) (what : What) (is : WritesBlocks s what) where
  abbrev b : ℕ
  b = s.geometry.zone_blocks

  -- a sector of its blocks
  pub block_within : (n : ℕ) → 8 * first_block what ≤ n → n < 8 * (first_block what + block_count what)
      → IsWithin s.geometry.zone_blocks (chunk_touched s.geometry.zone_blocks what)
      (range_first s.geometry.zone_blocks what) (range_end s.geometry.zone_blocks what) n
  block_within n from below =
      let inside = is.inside in
      let blocks = div-add-mod' (first_block what) b in
      let c : ℕ = chunk_touched b what in
      let r : ℕ = n / 8 - c * b in
      let at : n / 8 ≡ c * b + r = omega (arith, blocks, from) in
      let low : range_first b what ≤ r = omega (arith, blocks, from) in
      let high : r < range_end b what = omega (arith, blocks, below) in
      let few : r < b = omega (arith, high, inside) in
      let rest : n / 8 % b ≡ r = ap (λ (k : ℕ). k % b) at ∙ mod-mul-add c b r few in
      (ap (λ (k : ℕ). k / b) at ∙ div-mul-add c b r few, omega (arith, rest, low), omega (arith, rest, high))

  -- its sectors are those of its blocks of its chunk
  pub touched_within : (n : ℕ) → Covers what n
      → IsWithin s.geometry.zone_blocks (chunk_touched s.geometry.zone_blocks what)
      (range_first s.geometry.zone_blocks what) (range_end s.geometry.zone_blocks what) n
  touched_within n covers = block_within n (omega (arith, covers.0)) (omega (arith, covers.1))

  last_block : first_block what + block_count what ≤ s.head.layout.chunks * s.geometry.zone_blocks
  last_block =
      let inside = is.inside in
      let there = is.there in
      let blocks = div-add-mod' (first_block what) b in
      let up = mul-le-mul_right {m = chunk_touched b what + 1} {n = s.head.layout.chunks} b (omega (arith, there)) in
      let split : (chunk_touched b what + 1) * b ≡ chunk_touched b what * b + b = omega arith in
      omega (arith, inside, blocks, up, split)

  -- they are sectors of the device
  pub within_device : (n : ℕ) → n < 8 * (first_block what + block_count what) → n < device_sectors s
  within_device n below =
      let last = last_block in
      let total : device_sectors s ≡ 8 * (s.head.layout.chunks * b) = omega arith in
      omega (arith, below, last, total)

  -- it is in range
  pub write_in_range : ends_past (device_sectors s) what ≡ false
  write_in_range =
      let last = last_block in
      let total : device_sectors s ≡ 8 * (s.head.layout.chunks * b) = omega arith in
      ends_inside (device_sectors s) what (omega (arith, last, total))
