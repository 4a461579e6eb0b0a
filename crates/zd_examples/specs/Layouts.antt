-- Disks and layouts of the examples.
use Rattle.std.specs.Prelude.{ℕ}
use Rattle.zd_base.specs.Geometry.{Shape}
use Rattle.zd_base.specs.declared.layout.Layout.{Layout}
use Rattle.zd_examples.specs.Fresh.{fresh_layout}

-- a disk of ordinary size: zones of 65,536 blocks, each with two blocks of bits, and sets of two
-- zones
abbrev pub large : Shape
large = record { zone_blocks = 65536; conv = 524; seq = 51632 }

abbrev pub large_layout : Layout
large_layout = record {
  meta_blocks = 104415;
  reserved = 2;
  chunks = 52150;
  map_blocks = 102;
  bitmap_blocks = 104312;
}

-- a block of bits for each zone, where each wants two
abbrev pub few_bitmaps : Layout
few_bitmaps = record large_layout { bitmap_blocks = 52156 }

-- no conventional zone behind the sets of one zone each
abbrev pub no_data_zone : Shape
no_data_zone = record { zone_blocks = 16; conv = 2; seq = 10 }

abbrev pub one_data_zone : Shape
one_data_zone = record { zone_blocks = 16; conv = 3; seq = 9 }

-- the fresh layout with one number changed
abbrev pub with_reserved : ℕ → Layout
with_reserved n = record fresh_layout { reserved = n }

abbrev pub with_chunks : ℕ → Layout
with_chunks n = record fresh_layout { chunks = n }

abbrev pub with_map : ℕ → Layout
with_map n = record fresh_layout { map_blocks = n }

abbrev pub with_bitmaps : ℕ → Layout
with_bitmaps n = record fresh_layout { bitmap_blocks = n }

abbrev pub with_meta : ℕ → Layout
with_meta n = record fresh_layout { meta_blocks = n }

-- 513 chunks of 600 zones, with one block of map, and with two
abbrev pub wide : Shape
wide = record { zone_blocks = 1024; conv = 6; seq = 594 }

abbrev pub wide_layout : ℕ → Layout
wide_layout maps = record {
  meta_blocks = 610;
  reserved = 2;
  chunks = 513;
  map_blocks = maps;
  bitmap_blocks = 600;
}
