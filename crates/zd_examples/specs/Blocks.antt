-- Blocks of the examples.
use Rattle.std.specs.Prelude.{ℕ, ◌%◌, ◌^◌, List, [], ◌∷◌, ◌++◌, replicate}
use Rattle.std.specs.Int.{w32, to_le_bytes}
use Rattle.std.specs.List.{range_with_len}
use Rattle.zd_model.specs.Bytes.{overwrite}
use Rattle.zd_model.specs.Crc.{crc32_le}
use Rattle.zd_model.specs.Super.{before_crc}
use Rattle.zd_model.specs.declared.metadata.Super.{Super}
use Rattle.zd_examples.specs.Fresh.{fresh_head, fresh_layout}

-- the bytes of the fresh volume's first super block before its crc
abbrev pub fresh_front : List ℕ
fresh_front =
    0x44 ∷ 0x42 ∷ 0x5a ∷ 0x44 ∷ 2 ∷ 0 ∷ 0 ∷ 0
    ∷ 1 ∷ 0 ∷ 0 ∷ 0 ∷ 0 ∷ 0 ∷ 0 ∷ 0
    ∷ 0 ∷ 0 ∷ 0 ∷ 0 ∷ 0 ∷ 0 ∷ 0 ∷ 0
    ∷ 14 ∷ 0 ∷ 0 ∷ 0 ∷ 2 ∷ 0 ∷ 0 ∷ 0 ∷ 8 ∷ 0 ∷ 0 ∷ 0
    ∷ 1 ∷ 0 ∷ 0 ∷ 0 ∷ 12 ∷ 0 ∷ 0 ∷ 0 ∷ []

-- a head whose bytes are all different: 1 to 32, 33 to 48, 49 to 64
abbrev pub named_head : Super
named_head = record {
  version = 2;
  generation = 1;
  own = 0;
  layout = fresh_layout;
  label = range_with_len 1 32;
  volume = range_with_len 33 16;
  device = range_with_len 49 16;
}

-- these heads with a byte in the label, with an identifier, with another version
abbrev pub labelled : Super → Super
labelled s = record s { label = 1 ∷ replicate 31 0 }

abbrev pub identified : Super → Super
identified s = record s { volume = replicate 15 0 ++ 1 ∷ [] }

abbrev pub with_device : Super → Super
with_device s = record s { device = replicate 15 0 ++ 1 ∷ [] }

abbrev pub of_version : ℕ → Super
of_version version = record (fresh_head 0) { version = version }

-- a super block that is cut short behind these bytes. Its crc is soon computed, and no definition
-- looks at its length
abbrev pub short_with : Super → ℕ → List ℕ → List ℕ
short_with s crc tail =
    before_crc s ++ to_le_bytes w32 crc ++ s.label ++ s.volume ++ s.device ++ tail

abbrev pub short_crc : Super → List ℕ → ℕ
short_crc s tail = crc32_le (s.generation % 2 ^ 32) (short_with s 0 tail)

-- with the right crc, and eight zeros behind the fields
unfoldable pub short_block : Super → List ℕ
short_block s = short_with s (short_crc s (replicate 8 0)) (replicate 8 0)

-- with the right crc, and a byte behind the fields that isn't zero
abbrev pub first_tail : List ℕ
first_tail = 1 ∷ replicate 7 0

abbrev pub last_tail : List ℕ
last_tail = replicate 7 0 ++ 1 ∷ []

abbrev pub with_tail : List ℕ → List ℕ
with_tail tail = short_with (fresh_head 0) (short_crc (fresh_head 0) tail) tail

-- with a byte changed, and the crc left as it was
abbrev pub with_byte : ℕ → ℕ → List ℕ
with_byte at byte = overwrite (short_block (fresh_head 0)) at (byte ∷ [])

-- the entries (6, 4), (5, none) and none, in a block of a map
abbrev pub map_bytes : List ℕ
map_bytes =
    6 ∷ 0 ∷ 0 ∷ 0 ∷ 4 ∷ 0 ∷ 0 ∷ 0
    ∷ 5 ∷ 0 ∷ 0 ∷ 0 ∷ 255 ∷ 255 ∷ 255 ∷ 255
    ∷ 255 ∷ 255 ∷ 255 ∷ 255 ∷ 255 ∷ 255 ∷ 255 ∷ 255 ∷ []
