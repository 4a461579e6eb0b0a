-- A volume that was opened and started.
use Rattle.std.specs.Prelude.{◌≡◌, ℕ, List, map, Result, Ok, Err}
use Rattle.zd_base.specs.Layout.{rounded_up}
use Rattle.zd_disk.specs.View.{View}
use Rattle.zd_examine.specs.Opened.{IsOpening}
use Rattle.zd_examine.specs.declared.examining.Image.{Image}
use Rattle.zd_examine.specs.declared.examining.OpenFault.{OpenFault}
use Rattle.zd_state.specs.Seen.{Seen}
use Rattle.zd_state.specs.Started.{IsStarted}

-- pointers in sectors, as pointers in blocks
abbrev pub in_blocks : List ℕ → List ℕ
in_blocks pointers = map (λ p. rounded_up p 8) pointers

-- the disk that an answer hands back
abbrev pub disk_of : {D : Type 0} → Result (Seen D) (OpenFault × D) → D
disk_of (Ok v) = v.disk
disk_of (Err e) = e.1

-- An image was opened over a disk that told u before and tells w now, and the volume is started over that
-- disk with what the image has.
pub record IsOpenedVolume {D : Type 0} (u w : View) (v : Seen D) : Type 0 where
  pub image : Image
  pub opened : IsOpening image u w
  pub opening : v.opening ≡ v.disk
  pub values : IsStarted image.geometry image.chosen.head image.blocks (in_blocks image.pointers.items) v.plain
