-- Where the blocks of chunks and the sectors of the device stand, by a map and bitmaps.
use Rattle.std.specs.Prelude.{◌≡◌, ℕ, ◌+◌, ◌*◌, ◌/◌, ◌%◌, ◌<◌, ◌≤◌, List, Option}
use Rattle.std.specs.Option.{option_map_or, option_or}
use Rattle.zd_model.specs.Bytes.{zero_sector}
use Rattle.zd_model.specs.Image.{Image, run_of}
use Rattle.zd_model.specs.Tables.{Tables, entry_of, where_valid}
use Rattle.zd_model.specs.declared.metadata.MapEntry.{MapEntry}

-- the zone in which block x of a chunk is valid: the chunk's, else its buffer, else none
abbrev pub place_in : Tables → MapEntry → ℕ → Option ℕ
place_in t e x = option_or (where_valid t x e.zone) (where_valid t x e.buffer)

-- from block `at` on stand exactly so many blocks with this place, before `end` or a block that has
-- another one
pub record IsPlacedRun (place : ℕ → Option ℕ) (at end : ℕ) (zone : Option ℕ) (count : ℕ) : Type 0 where
  pub some : 0 < count
  pub inside : at + count ≤ end
  pub same : (x : ℕ) → at ≤ x → x < at + count → place x ≡ zone
  pub longest : at + count < end → place (at + count) ≡ zone → ⊥

-- sector j of a zone: zeros where it is none, whatever the zones hold
abbrev pub sector_in : Option ℕ → Image → ℕ → List ℕ
sector_in place image j = option_map_or (λ zone. image.sector zone j) place zero_sector

-- sector j of a chunk
abbrev pub chunk_sector : Tables → MapEntry → Image → ℕ → List ℕ
chunk_sector t e image j = sector_in (place_in t e (j / 8)) image j

-- so many sectors of a chunk from this one on
abbrev pub chunk_sectors : Tables → MapEntry → Image → ℕ → ℕ → List ℕ
chunk_sectors t e image = run_of (chunk_sector t e image)

-- the zone in which sector n of the device stands, where zones have b blocks
abbrev pub zone_at : ℕ → Tables → ℕ → Option ℕ
zone_at b t n = place_in t (entry_of t (n / 8 / b)) (n / 8 % b)

-- its place in that zone, whichever that is
abbrev pub spot : ℕ → ℕ → ℕ
spot b n = 8 * (n / 8 % b) + n % 8
