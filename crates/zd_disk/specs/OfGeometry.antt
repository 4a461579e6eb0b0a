-- Images of a known geometry.
use Rattle.std.specs.Prelude.{◌≡◌}
use Rattle.zd_base.specs.Geometry.{Shape}
use Rattle.zd_model.specs.Image.{Image, IsImage}

-- an image of this geometry
pub record IsImageOf (g : Shape) (i : Image) : Type 0 where
  pub image : IsImage i
  pub geometry : i.geometry ≡ g
