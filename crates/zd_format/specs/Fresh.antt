-- A volume that was formatted, and that nobody wrote.
use Rattle.std.specs.Prelude.{◌≡◌, ℕ, ◌*◌, List, ◌++◌, take, codes, replicate}
use Rattle.std.specs.Prelude.{Option, Some, IsSomeAnd}
use Rattle.sha1.specs.Sha1.{sha1}
use Rattle.uuid.specs.Parts.{with_version, with_variant}
use Rattle.uuid.specs.declared.Version.TheVariants.{Sha1}
use Rattle.uuid.specs.declared.Variant.TheVariants.{RFC4122}
use Rattle.zd_base.specs.Geometry.{Shape}
use Rattle.zd_base.specs.Layout.{Fits, formatted, set_zones, device_blocks}
use Rattle.zd_base.specs.declared.layout.Layout.{Layout}
use Rattle.zd_model.specs.Bytes.{zero_sector}
use Rattle.zd_model.specs.Image.{Image}
use Rattle.zd_model.specs.Volume.{IsWellFormed, good_super, first_set, content}
use Rattle.zd_model.specs.declared.metadata.Super.{Super}

-- the identifier of a volume's one device: that of version 5 for the volume's as name space and the
-- name `device 0`
unfoldable pub device_of : List ℕ → List ℕ
device_of volume =
    with_version (with_variant (take 16 (sha1 (volume ++ codes "device 0"))) RFC4122) Sha1

-- the head of a set, in version 2, whose super block has this number among the disk's blocks
abbrev pub head_of : Layout → List ℕ → List ℕ → ℕ → Super
head_of layout label volume own = record {
  version = 2;
  generation = 1;
  own = own;
  layout = layout;
  label = label;
  volume = volume;
  device = device_of volume;
}

-- both heads stand at their places, with the layout for so many reserved zones, and the volume is
-- well-formed and holds zeros
pub record IsFresh
    (reserved : ℕ) (label volume : List ℕ) (layout : Layout) (image : Image) : Type 0 where
  pub numbers : layout ≡ formatted image.geometry reserved
  pub fits : Fits image.geometry layout
  pub first : good_super image 0 ≡ Some (head_of layout label volume 0)
  pub second : good_super image (set_zones image.geometry layout)
      ≡ Some (head_of layout label volume
      (set_zones image.geometry layout * image.geometry.zone_blocks))
  pub well_formed : IsWellFormed image
      (first_set (set_zones image.geometry layout) (head_of layout label volume 0))
  pub zeros : content image
      (first_set (set_zones image.geometry layout) (head_of layout label volume 0))
      ≡ replicate (8 * device_blocks image.geometry layout) zero_sector

-- the disk tells this geometry, and the layout is the one for so many reserved zones, which fits it
pub record IsFormatted
    (reserved : ℕ) (g : Shape) (layout : Layout) (told : Option Shape) : Type 0 where
  pub geometry : told ≡ Some g
  pub numbers : layout ≡ formatted g reserved
  pub fits : Fits g layout

-- the layout is the one for the geometry that the disk tells
abbrev pub IsFormattedBy : ℕ → Layout → Option Shape → Type 0
IsFormattedBy reserved layout told = (g : Shape) × IsFormatted reserved g layout told

-- the disk tells a geometry, which has no room for a volume with so many reserved zones
abbrev pub IsUnfit : ℕ → Option Shape → Type 0
IsUnfit reserved told = IsSomeAnd told (λ g. Fits g (formatted g reserved) → ⊥)
