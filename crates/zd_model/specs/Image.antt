-- What a disk holds. A conventional zone holds all its sectors, a sequential one those below its
-- pointer.
use Rattle.std.specs.Prelude.{◌≡◌, ℕ, ◌+◌, ◌*◌, ◌/◌, ◌%◌, ◌<◌, ◌≤◌, List, map}
use Rattle.std.specs.List.{concat, range_with_len}
use Rattle.zd_model.specs.Bytes.{IsSector}
use Rattle.zd_base.specs.Geometry.{Shape}

-- for each zone, how many sectors it holds, and what they are
pub record Image : Type 0 where
  pub geometry : Shape
  pub held : ℕ → ℕ
  pub sector : ℕ → ℕ → List ℕ

-- each zone stands there, in sectors of 512 bytes
pub record IsImage (image : Image) : Type 0 where
  pub sectors : (z i : ℕ) → i < image.held z → IsSector (image.sector z i)
  pub conventional : (z : ℕ) → z < image.geometry.conv →
      image.held z ≡ 8 * image.geometry.zone_blocks
  pub sequential : (z : ℕ) → image.geometry.conv ≤ z →
      image.held z ≤ 8 * image.geometry.zone_blocks

-- the bytes of n sectors from start on
abbrev pub run_of : (ℕ → List ℕ) → ℕ → ℕ → List ℕ
run_of sector start n = concat (map sector (range_with_len start n))

-- block x of a zone: the bytes of its eight sectors
abbrev pub block_at : Image → ℕ → ℕ → List ℕ
block_at image zone x = run_of (image.sector zone) (8 * x) 8

-- block k of the set of metadata that begins in this zone; a set may take several zones
abbrev pub set_block : Image → ℕ → ℕ → List ℕ
set_block image first k =
    block_at image (first + k / image.geometry.zone_blocks) (k % image.geometry.zone_blocks)

-- the zone holds the same in both
pub record SameZone (old new : Image) (z : ℕ) : Type 0 where
  pub held : new.held z ≡ old.held z
  pub sectors : (i : ℕ) → i < old.held z → new.sector z i ≡ old.sector z i

-- the images hold the same
pub record Same (old new : Image) : Type 0 where
  pub geometry : new.geometry ≡ old.geometry
  pub zones : (z : ℕ) → SameZone old new z
