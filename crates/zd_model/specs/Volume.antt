-- The set of metadata that is chosen, when an image is well-formed, and what it then holds.
use Rattle.std.specs.Prelude.{◌≡◌, ℕ, ◌+◌, ◌-◌, ◌*◌, ◌/◌, ◌%◌, ◌<◌, ◌≤◌, Bool, false, ◌&&◌, nat_lt}
use Rattle.std.specs.Prelude.{◌==◌, if◌then◌else◌, List, map, Option, Some, None, IsNone, Result}
use Rattle.std.specs.Prelude.{Ok, Err, find, option_map, option_and_then}
use Rattle.std.specs.Option.{option_map_or}
use Rattle.std.specs.List.{range_with_len, concat}
use Rattle.zd_model.specs.Bytes.{u32_at}
use Rattle.zd_base.specs.Geometry.{zone_count, per}
use Rattle.zd_base.specs.Layout.{Fits, set_zones}
use Rattle.zd_model.specs.Image.{Image, block_at, set_block}
use Rattle.zd_model.specs.Super.{decoded}
use Rattle.zd_model.specs.Tables.{Tables, MapFollowsRules, BitsFollowRules, entry_at, served}
use Rattle.zd_model.specs.declared.metadata.MapEntry.{MapEntry}
use Rattle.zd_model.specs.declared.metadata.NotSuper.{NotSuper}
use Rattle.zd_model.specs.declared.metadata.Super.{Super}

-- a set, its first zone, the other set's first zone, and its super block
pub record Chosen : Type 0 where
  pub set : ℕ
  pub first : ℕ
  pub other : ℕ
  pub head : Super

-- the record, where it stands at its own number
abbrev pub if_own : ℕ → Result Super NotSuper → Option Super
if_own number (Ok s) = if s.own == number then Some s else None
if_own number (Err e) = None

-- the good super block at a zone
abbrev pub good_super : Image → ℕ → Option Super
good_super image zone = if_own (zone * image.geometry.zone_blocks) (decoded (block_at image zone 0))

-- the good super block at zone n, a conventional one, where its set takes n zones too
abbrev pub second_super : Image → ℕ → Option Super
second_super image n = option_and_then
    (λ s. if nat_lt n image.geometry.conv && set_zones image.geometry s.layout == n
    then Some s
    else None)
    (good_super image n)

-- it begins with the magic bytes, good or not
abbrev pub has_magic : List ℕ → Bool
has_magic block = u32_at block 0 == 0x445A4244

-- set 0, which begins in zone 0, where set 1 begins in zone n
abbrev pub first_set : ℕ → Super → Chosen
first_set n s = record { set = 0; first = 0; other = n; head = s }

-- set 1
abbrev pub second_set : ℕ → Super → Chosen
second_set n t = record { set = 1; first = n; other = 0; head = t }

-- the greater generation, the first set at a tie
abbrev pub greater_of : ℕ → Super → Option Super → Chosen
greater_of n s None = first_set n s
greater_of n s (Some t) =
    if nat_lt s.generation t.generation then second_set n t else first_set n s

-- the first zone behind zone 0 that begins with the magic bytes
abbrev pub zone_with_magic : Image → Option ℕ
zone_with_magic image =
    find (λ z. has_magic (block_at image z 0)) (range_with_len 1 (image.geometry.conv - 1))

-- where the first super block is bad: that zone decides
abbrev pub scanned : Image → Option Chosen
scanned image = option_and_then
    (λ n. option_map (second_set n) (second_super image n))
    (zone_with_magic image)

-- where the first super block is good: its layout says where the second set begins
abbrev pub chosen_with : Image → Super → Chosen
chosen_with image s =
    let n = set_zones image.geometry s.layout in greater_of n s (second_super image n)

-- the chosen set
abbrev pub chosen : Image → Option Chosen
chosen image =
    option_map_or (λ s. Some (chosen_with image s)) (good_super image 0) (scanned image)

-- the map entry of a chunk in the chosen set
abbrev pub entry_in : Image → Chosen → ℕ → MapEntry
entry_in image c chunk = entry_at (set_block image c.first (1 + chunk / 512)) (chunk % 512)

-- block i of the bitmap of a zone there
abbrev pub bitmap_block : Image → Chosen → ℕ → ℕ → List ℕ
bitmap_block image c zone i =
    set_block image c.first (1 + c.head.layout.map_blocks + zone * per image.geometry + i)

-- the bitmap of a zone: its blocks together
abbrev pub bits_in : Image → Chosen → ℕ → List ℕ
bits_in image c zone =
    concat (map (bitmap_block image c zone) (range_with_len 0 (per image.geometry)))

-- the entries of all chunks, and the bitmaps of all zones
abbrev pub tables_of : Image → Chosen → Tables
tables_of image c = record {
  entries = map (entry_in image c) (range_with_len 0 c.head.layout.chunks);
  bits = map (bits_in image c) (range_with_len 0 (zone_count image.geometry));
}

-- a set is chosen, its layout fits, no other super block can be meant, and its tables follow the
-- rules
pub record IsWellFormed (image : Image) (c : Chosen) : Type 0 where
  pub is_chosen : chosen image ≡ Some c
  pub layout : Fits image.geometry c.head.layout
  pub no_other_magic : IsNone (good_super image 0) → (k : ℕ) →
      1 ≤ k → k < set_zones image.geometry c.head.layout →
      has_magic (block_at image (c.first + k) 0) ≡ false
  pub map : MapFollowsRules image.geometry c.head.layout (tables_of image c).entries
  pub bits : BitsFollowRules image.geometry image.held (tables_of image c)

-- some set is
abbrev pub WellFormed : Image → Type 0
WellFormed image = (c : Chosen) × IsWellFormed image c

-- the sectors of the logical device, by the map and the bitmaps of the chosen set
abbrev pub content : Image → Chosen → List (List ℕ)
content image c = served image.geometry.zone_blocks (tables_of image c) image.sector
