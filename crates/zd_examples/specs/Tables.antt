-- Maps and bitmaps of the examples. Bitmaps are cut short behind their last byte that isn't zero.
use Rattle.std.specs.Prelude.{ℕ, List, [], ◌∷◌, ◌++◌, None, Some, replicate}
use Rattle.zd_model.specs.Tables.{Tables}
use Rattle.zd_model.specs.declared.metadata.MapEntry.{MapEntry}
use Rattle.zd_examples.specs.Fresh.{buffered, only, unmapped_entry}

-- a buffer that stands alone
abbrev pub buffer_alone : ℕ → MapEntry
buffer_alone buffer = record { zone = None; buffer = Some buffer }

-- the bits of one zone, and none of those before it
abbrev pub bits_of : ℕ → List ℕ → List (List ℕ)
bits_of zone bits = replicate zone [] ++ bits ∷ []

abbrev pub with_bits : List MapEntry → ℕ → List ℕ → Tables
with_bits entries zone bits = record { entries = entries; bits = bits_of zone bits }

-- chunk 0 on zone 6 with buffer 4: these bits of the buffer, and those of the zone
abbrev pub buffered_tables : ℕ → ℕ → Tables
buffered_tables buffer zone = record {
  entries = buffered 6 4 ∷ only 7 ∷ [];
  bits = replicate 4 [] ++ (buffer ∷ []) ∷ [] ∷ (zone ∷ []) ∷ (1 ∷ []) ∷ [];
}

-- block 5 of zone 3 and block 0 of zone 4, where no zone is named
abbrev pub two_unnamed : Tables
two_unnamed = record {
  entries = [];
  bits = [] ∷ [] ∷ [] ∷ (0x20 ∷ []) ∷ (1 ∷ []) ∷ [];
}

-- chunk 0 on zone 6 with buffer 4, block 0 valid there and block 3 here; chunk 2 on zone 2, its
-- first and last blocks valid
abbrev pub served_tables : Tables
served_tables = record {
  entries = buffered 6 4 ∷ unmapped_entry ∷ only 2 ∷ [];
  bits = [] ∷ [] ∷ (1 ∷ 0x80 ∷ []) ∷ [] ∷ (8 ∷ []) ∷ [] ∷ (1 ∷ []) ∷ [];
}

-- sectors that tell their place: the zone, and the number in it
abbrev pub place_sector : ℕ → ℕ → List ℕ
place_sector zone i = zone ∷ i ∷ []
