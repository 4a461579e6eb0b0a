-- Where the metadata and the data of a volume stand.
use Rattle.std.specs.Prelude.{ℕ, ◌+◌, ◌-◌, ◌*◌, ◌/◌, ◌<◌, ◌≤◌}
use Rattle.zd_base.specs.Geometry.{Shape, zone_count, per}
use Rattle.zd_base.specs.declared.layout.Layout.{Layout}

-- a / b rounded up
abbrev pub rounded_up : ℕ → ℕ → ℕ
rounded_up a b = (a + b - 1) / b

-- the zones that a set takes
abbrev pub set_zones : Shape → Layout → ℕ
set_zones g l = rounded_up l.meta_blocks g.zone_blocks

-- the layout with which a disk is formatted, where it fits: a map entry and a bitmap for each zone, and as
-- many chunks as there are zones left behind both sets and those that are reserved
abbrev pub formatted : Shape → ℕ → Layout
formatted g reserved =
    let map_blocks = rounded_up (zone_count g) 512 in
    let bitmap_blocks = zone_count g * per g in
    let meta_blocks = 1 + map_blocks + bitmap_blocks in
    record {
      meta_blocks = meta_blocks;
      reserved = reserved;
      chunks = zone_count g - 2 * rounded_up meta_blocks g.zone_blocks - reserved;
      map_blocks = map_blocks;
      bitmap_blocks = bitmap_blocks;
    }

-- data zones begin behind both sets
abbrev pub first_data_zone : Shape → Layout → ℕ
first_data_zone g l = 2 * set_zones g l

-- the blocks of a set that are in use: super block, map, and the bitmaps of all zones
abbrev pub used_blocks : Shape → Layout → ℕ
used_blocks g l = 1 + l.map_blocks + zone_count g * per g

-- the blocks of the logical device
abbrev pub device_blocks : Shape → Layout → ℕ
device_blocks g l = l.chunks * g.zone_blocks

-- the disk has room for the chunks and for both sets
pub record Fits (g : Shape) (l : Layout) : Type 0 where
  pub some_reserved : 1 ≤ l.reserved
  pub reserved_sequential : l.reserved ≤ g.seq
  pub some_chunk : 1 ≤ l.chunks
  pub map : l.chunks ≤ l.map_blocks * 512
  pub bitmaps : zone_count g * per g ≤ l.bitmap_blocks
  pub set : 1 + l.map_blocks + l.bitmap_blocks ≤ l.meta_blocks
  pub conventional_data : first_data_zone g l < g.conv
  pub room : l.chunks + l.reserved + first_data_zone g l ≤ zone_count g
