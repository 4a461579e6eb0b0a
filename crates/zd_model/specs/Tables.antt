-- The map and the bitmaps of a volume: what they look like in blocks, which rules they follow, what
-- they make of the zones.
use Rattle.std.specs.Prelude.{◌≡◌, ◌⊎◌, ℕ, ◌+◌, ◌*◌, ◌/◌, ◌%◌, ◌<◌, ◌≤◌, ◌==◌, if◌then◌else◌, Bool}
use Rattle.std.specs.Prelude.{false, List, [], ◌++◌, length, map, flat_map, Option, Some, None}
use Rattle.std.specs.Prelude.{IsTrue, IsSomeAnd, slice_index, slice_index_or, option_and_then}
use Rattle.std.specs.Prelude.{option_to_list}
use Rattle.std.specs.Int.{bit_at}
use Rattle.std.specs.Option.{option_map_or}
use Rattle.std.specs.List.{range_with_len}
use Rattle.zd_model.specs.Bytes.{u32_at, zero_sector}
use Rattle.zd_base.specs.Geometry.{Shape, zone_count}
use Rattle.zd_base.specs.Layout.{first_data_zone}
use Rattle.zd_base.specs.declared.layout.Layout.{Layout}
use Rattle.zd_model.specs.declared.metadata.MapEntry.{MapEntry}

-- a zone's number, or none
abbrev pub named : ℕ → Option ℕ
named n = if n == 0xFFFFFFFF then None else Some n

-- entry i of a map block
abbrev pub entry_at : List ℕ → ℕ → MapEntry
entry_at block i = record {
  zone = named (u32_at block (8 * i));
  buffer = named (u32_at block (8 * i + 4));
}

-- bit n of the bitmap blocks of a zone, the least bit of a byte first
abbrev pub is_set : List ℕ → ℕ → Bool
is_set bits n = bit_at (slice_index bits (n / 8)) (n % 8) == 1

-- the entry of each chunk, and the bitmap of each zone
pub record Tables : Type 0 where
  pub entries : List MapEntry
  pub bits : List (List ℕ)

-- the entry of a chunk; behind the last chunk nothing is named
abbrev pub entry_in_map : List MapEntry → ℕ → MapEntry
entry_in_map entries c = slice_index_or entries c (record { zone = None; buffer = None })

-- the same, of tables
abbrev pub entry_of : Tables → ℕ → MapEntry
entry_of t c = entry_in_map t.entries c

-- block x of a zone is valid
abbrev pub is_valid : Tables → ℕ → ℕ → Bool
is_valid t zone x = is_set (slice_index_or t.bits zone []) x

-- the zones that an entry names, zone and buffer
abbrev pub zones_of : MapEntry → List ℕ
zones_of e = option_to_list e.zone ++ option_to_list e.buffer

-- the zones that all entries name
abbrev pub named_zones : Tables → List ℕ
named_zones t = flat_map zones_of t.entries

-- the entry names this zone
abbrev pub NamesZone : MapEntry → ℕ → Type 0
NamesZone e z = (e.zone ≡ Some z) ⊎ (e.buffer ≡ Some z)

-- the zones named are data zones, each named by one chunk; a buffer is conventional, and stands
-- beside a sequential zone
pub record MapFollowsRules (g : Shape) (l : Layout) (entries : List MapEntry) : Type 0 where
  pub data_zones : (c z : ℕ) → NamesZone (entry_in_map entries c) z →
      (first_data_zone g l ≤ z) × (z < zone_count g)
  pub named_once : (c d z : ℕ) →
      NamesZone (entry_in_map entries c) z → NamesZone (entry_in_map entries d) z → c ≡ d
  pub buffers : (c b : ℕ) → (entry_in_map entries c).buffer ≡ Some b →
      (b < g.conv) × IsSomeAnd (entry_in_map entries c).zone (λ z. g.conv ≤ z)

-- a valid block stands in a named zone, in a sequential one whole below the pointer, and in one of
-- a chunk's two zones alone; pointer z is the number of sectors below the pointer of zone z
pub record BitsFollowRules (g : Shape) (pointer : ℕ → ℕ) (t : Tables) : Type 0 where
  pub named : (z x : ℕ) → z < zone_count g → x < g.zone_blocks → IsTrue (is_valid t z x) →
      (c : ℕ) × NamesZone (entry_of t c) z
  pub below : (z x : ℕ) → g.conv ≤ z → z < zone_count g → x < g.zone_blocks →
      IsTrue (is_valid t z x) → 8 * x + 8 ≤ pointer z
  pub one_place : (c z b x : ℕ) →
      (entry_of t c).zone ≡ Some z → (entry_of t c).buffer ≡ Some b → x < g.zone_blocks →
      IsTrue (is_valid t z x) → is_valid t b x ≡ false

-- this zone, where block x is valid there
abbrev pub where_valid : Tables → ℕ → Option ℕ → Option ℕ
where_valid t x zone = option_and_then (λ z. if is_valid t z x then Some z else None) zone

-- sector i, from zones of b blocks: at the same place of the chunk's zone where its block is valid
-- there, else of the buffer where it is valid there, else zeros
abbrev pub sector_of : ℕ → Tables → (ℕ → ℕ → List ℕ) → ℕ → List ℕ
sector_of b t sector i =
    let x = i / 8 % b in
    let entry = entry_of t (i / 8 / b) in
    let at = λ (zone : ℕ). sector zone (8 * x + i % 8) in
    option_map_or at (where_valid t x entry.zone)
    (option_map_or at (where_valid t x entry.buffer) zero_sector)

-- the sectors of all chunks
abbrev pub served : ℕ → Tables → (ℕ → ℕ → List ℕ) → List (List ℕ)
served b t sector =
    map (sector_of b t sector) (range_with_len 0 (length t.entries * b * 8))
