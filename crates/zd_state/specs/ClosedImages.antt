-- What a stop leaves of a closed volume.
use Rattle.std.specs.Prelude.{◌≡◌, ℕ, List}
use Rattle.zd_base.specs.Layout.{set_zones, used_blocks}
use Rattle.zd_model.specs.History.{HistoryEntry, last_array}
use Rattle.zd_model.specs.Image.{Image}
use Rattle.zd_model.specs.Volume.{Chosen, IsWellFormed, content}
use Rattle.zd_model.specs.declared.metadata.Super.{Super}
use Rattle.zd_sets.specs.Stages.{HasSet}

-- The image is well-formed, its content is what the history made of the sectors before it, and both
-- sets are good: they have the same fields, beside their own numbers, and the same used blocks.
pub record IsClosedImage (base : List (List ℕ)) (history : List HistoryEntry) (i : Image) : Type 0 where
  pub set : Chosen
  pub well_formed : IsWellFormed i set
  pub last : content i set ≡ last_array base history
  pub head : Super
  pub bytes : List ℕ
  pub first : HasSet i.geometry 0 (used_blocks i.geometry head.layout) head bytes i
  pub second : HasSet i.geometry (set_zones i.geometry head.layout)
      (used_blocks i.geometry head.layout) head bytes i
