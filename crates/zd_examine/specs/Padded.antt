-- The blocks of a disk that a pointer cuts, made whole by zeros.
use Rattle.std.specs.Prelude.{◌≡◌, ◌≢◌, ◌⊎◌, ℕ, ◌+◌, ◌-◌, ◌*◌, ◌%◌, ◌<◌, ◌≤◌, ◌^◌, ◌==◌, Bool, true, false, not, ◌&&◌}
use Rattle.std.specs.Prelude.{List, length, map, count_by, slice_index, slice_index_or}
use Rattle.std.specs.List.{range_with_len}
use Rattle.zd_base.specs.Geometry.{Shape, is_conventional, zone_count}
use Rattle.zd_base.specs.Layout.{rounded_up}
use Rattle.zd_disk.specs.Told.{WhereTold}
use Rattle.zd_disk.specs.View.{View}
use Rattle.zd_model.specs.Bytes.{zero_sector}
use Rattle.zd_model.specs.Faults.{has}
use Rattle.zd_model.specs.Image.{Image, SameZone}
use Rattle.zd_model.specs.Tables.{Tables, named_zones}

-- for each zone a flag, whether an entry of the map names it
abbrev pub named_flags : Shape → Tables → List Bool
named_flags g t = map (has (named_zones t)) (range_with_len 0 (zone_count g))

-- a pointer is to be padded: that of a sequential zone that the map names, where it stands inside a block
abbrev pub is_cut : Shape → List Bool → ℕ → ℕ → Bool
is_cut g named z pointer =
    not (is_conventional g z) && (slice_index_or named z false && not (pointer % 8 == 0))

-- a zone needs a pad
abbrev pub needs_pad : List Bool → Image → ℕ → Bool
needs_pad named image z = is_cut image.geometry named z (image.held z)

-- how many zones below this one do, and how many in all
abbrev pub pads_before : List Bool → Image → ℕ → ℕ
pads_before named image z = count_by (needs_pad named image) (range_with_len 0 z)

abbrev pub pad_count : List Bool → Image → ℕ
pad_count named image = pads_before named image (zone_count image.geometry)

-- the sector at which the block ends that begins below this one
abbrev pub block_end : ℕ → ℕ
block_end pointer = 8 * rounded_up pointer 8

-- zone z of new is that of old with zero sectors behind its pointer, up to the block's end at most
pub record HasPartOfPad (old new : Image) (z : ℕ) : Type 0 where
  pub least : old.held z ≤ new.held z
  pub most : new.held z ≤ block_end (old.held z)
  pub before : (i : ℕ) → i < old.held z → new.sector z i ≡ old.sector z i
  pub zeros : (i : ℕ) → old.held z ≤ i → i < new.held z → new.sector z i ≡ zero_sector

-- and that whole: its pointer stands at the block's end
pub record HasPad (old new : Image) (z : ℕ) : Type 0 where
  pub held : new.held z ≡ block_end (old.held z)
  pub part : HasPartOfPad old new z

-- new is old with a pad in this zone
pub record PadsZone (z : ℕ) (old new : Image) : Type 0 where
  pub geometry : new.geometry ≡ old.geometry
  pub others : (y : ℕ) → y ≢ z → SameZone old new y
  pub zone : HasPad old new z

-- what a pad that is cut short may make of an image, where the disk reads so: the zone is as it was, or has a
-- part of its pad
pub record IsPadStep (reads : Image) (z : ℕ) (old new : Image) : Type 0 where
  pub geometry : new.geometry ≡ old.geometry
  pub others : (y : ℕ) → y ≢ z → SameZone old new y
  pub zone : SameZone old new z ⊎ HasPartOfPad reads new z

-- the zones below `upto` that need a pad have it, and all others are as they were
pub record IsPadded (named : List Bool) (upto : ℕ) (old new : Image) : Type 0 where
  pub geometry : new.geometry ≡ old.geometry
  pub pads : (z : ℕ) → z < upto → needs_pad named old z ≡ true → HasPad old new z
  pub later : (z : ℕ) → upto ≤ z → SameZone old new z
  pub others : (z : ℕ) → needs_pad named old z ≡ false → SameZone old new z

-- each zone that needs a pad has a part of it at most, and all others are as they were
pub record HasPartOfPads (named : List Bool) (old new : Image) : Type 0 where
  pub geometry : new.geometry ≡ old.geometry
  pub pads : (z : ℕ) → needs_pad named old z ≡ true → HasPartOfPad old new z
  pub others : (z : ℕ) → needs_pad named old z ≡ false → SameZone old new z

-- Pads by one call each, ascending by zone: when k calls have returned since the first moment and the next may
-- be under way, a stop leaves each zone as it was before which more than k zones need a pad. The first moment
-- is that of `from`, and `reads` is what the disk then reads as.
abbrev pub ArePadsAscending : List Bool → Image → ℕ → View → Type 0
ArePadsAscending named reads from v = (k z : ℕ) (i : Image) →
    from ≤ k → k ≤ v.calls → v.left k i → k < from + pads_before named reads z → SameZone reads i z

pub record PadsAscending (named : List Bool) (u v : View) : Type 0 where
  pub left : v.calls < 2 ^ 64 - 1 → WhereTold u.zones (λ reads. ArePadsAscending named reads u.calls v)

-- the pointers, of which those of zones below `upto` that are to be padded are rounded up to blocks
pub record AreRoundedUp (g : Shape) (named : List Bool) (upto : ℕ) (old new : List ℕ) : Type 0 where
  pub count : length new ≡ length old
  pub pads : (z : ℕ) → z < upto → is_cut g named z (slice_index old z) ≡ true →
      slice_index new z ≡ block_end (slice_index old z)
  pub later : (z : ℕ) → upto ≤ z → slice_index new z ≡ slice_index old z
  pub others : (z : ℕ) → is_cut g named z (slice_index old z) ≡ false → slice_index new z ≡ slice_index old z

-- part holds the same as full, but that sectors at the ends of sequential zones may lack
pub record IsShortOf (full part : Image) : Type 0 where
  pub geometry : part.geometry ≡ full.geometry
  pub conventional : (z : ℕ) → z < full.geometry.conv → SameZone full part z
  pub held : (z : ℕ) → full.geometry.conv ≤ z → part.held z ≤ full.held z
  pub sectors : (z i : ℕ) → full.geometry.conv ≤ z → i < part.held z → part.sector z i ≡ full.sector z i
