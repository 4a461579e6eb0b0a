-- The volume of the worked examples, as it is formatted: zones of 16 blocks, 6 conventional and 6
-- sequential, 8 chunks.
use Rattle.std.specs.Prelude.{ℕ, List, [], ◌∷◌, ◌++◌, replicate}
use Rattle.zd_base.specs.Geometry.{Shape}
use Rattle.zd_base.specs.declared.layout.Layout.{Layout}
use Rattle.zd_model.specs.Volume.{Chosen}
use Rattle.zd_model.specs.declared.metadata.MapEntry.{MapEntry}
use Rattle.zd_model.specs.declared.metadata.Super.{Super}
use Rattle.std.specs.Prelude.{Some, None}

-- its disk
abbrev pub small : Shape
small = record { zone_blocks = 16; conv = 6; seq = 6 }

-- its numbers: sets of one zone each
abbrev pub fresh_layout : Layout
fresh_layout = record {
  meta_blocks = 14;
  reserved = 2;
  chunks = 8;
  map_blocks = 1;
  bitmap_blocks = 12;
}

-- the identifier of the volume, 00000000-0000-4000-8000-000000000001
abbrev pub fresh_volume : List ℕ
fresh_volume = replicate 6 0 ++ 0x40 ∷ 0 ∷ 0x80 ∷ replicate 6 0 ++ 1 ∷ []

-- the identifier that follows from it and the name `device 0`
abbrev pub fresh_device : List ℕ
fresh_device =
    0x70 ∷ 0x5d ∷ 0x13 ∷ 0xab ∷ 0x1a ∷ 0x26 ∷ 0x52 ∷ 0xae
    ∷ 0xa1 ∷ 0xfa ∷ 0x31 ∷ 0x08 ∷ 0xdf ∷ 0x83 ∷ 0x26 ∷ 0xab ∷ []

-- a head with this generation, own number and layout
abbrev pub head : ℕ → ℕ → Layout → Super
head generation own layout = record {
  version = 2;
  generation = generation;
  own = own;
  layout = layout;
  label = replicate 32 0;
  volume = fresh_volume;
  device = fresh_device;
}

-- those of the fresh volume, in blocks 0 and 16
abbrev pub fresh_head : ℕ → Super
fresh_head own = head 1 own fresh_layout

-- those of the same volume in version 1, with this generation
abbrev pub bare_head : ℕ → ℕ → Super
bare_head generation own = record {
  version = 1;
  generation = generation;
  own = own;
  layout = fresh_layout;
  label = replicate 32 0;
  volume = replicate 16 0;
  device = replicate 16 0;
}

-- set 0 is the chosen one
abbrev pub fresh_chosen : Chosen
fresh_chosen = record { set = 0; first = 0; other = 1; head = fresh_head 0 }

abbrev pub bare_chosen : Chosen
bare_chosen = record { set = 0; first = 0; other = 1; head = bare_head 1 0 }

-- entries with a zone alone, with a buffer too, and with neither
abbrev pub only : ℕ → MapEntry
only zone = record { zone = Some zone; buffer = None }

abbrev pub buffered : ℕ → ℕ → MapEntry
buffered zone buffer = record { zone = Some zone; buffer = Some buffer }

abbrev pub unmapped_entry : MapEntry
unmapped_entry = record { zone = None; buffer = None }
