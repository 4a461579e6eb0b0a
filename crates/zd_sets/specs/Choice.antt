-- The set of metadata that is chosen, as the code tells it.
use Rattle.std.specs.Prelude.{◌≡◌, ◌⊎◌, ℕ, ◌+◌, ◌<◌, ◌≤◌, Bool, true, false, ◌&&◌, nat_lt, ◌==◌}
use Rattle.std.specs.Prelude.{if◌then◌else◌, Option, Some, None, IsNone, option_and_then, Result, Ok, Err}
use Rattle.std.specs.Option.{is_some}
use Rattle.zd_base.specs.Geometry.{Shape}
use Rattle.zd_base.specs.Layout.{Fits, set_zones}
use Rattle.zd_model.specs.Image.{Image, block_at}
use Rattle.zd_model.specs.Super.{FitsVersion}
use Rattle.zd_model.specs.Volume.{Chosen, chosen, good_super, greater_of, has_magic}
use Rattle.zd_model.specs.declared.metadata.NotSuper.{NotSuper}
use Rattle.zd_model.specs.declared.metadata.NotSuper.TheVariants.{Magic, Version, Crc, Tail}
use Rattle.zd_model.specs.declared.metadata.Super.{Super}
use Rattle.zd_sets.specs.declared.choice.Chosen.{Chosen as Choice}
use Rattle.zd_sets.specs.declared.choice.SetFault.{SetFault}
use Rattle.zd_sets.specs.declared.choice.SetFault.TheVariants.{NoSuperBlock, Layout, Device}

-- the set that it names
abbrev pub chosen_of : Choice → Chosen
chosen_of c = record { set = c.set; first = c.zone; other = c.other; head = c.head }

-- a block that decodes so begins with the magic bytes
abbrev pub tells_magic : Result Super NotSuper → Bool
tells_magic (Err Magic) = false
tells_magic (Err Version) = true
tells_magic (Err Crc) = true
tells_magic (Err Tail) = true
tells_magic (Ok s) = true

-- the good super block at a zone, where the zone is conventional
abbrev pub good_conventional : Image → ℕ → Option Super
good_conventional image zone = if nat_lt zone image.geometry.conv then good_super image zone else None

-- the head of the second set, where it begins in zone n and takes n zones
abbrev pub counting : Shape → ℕ → Option Super → Option Super
counting g n = option_and_then
    (λ s. if nat_lt n g.conv && set_zones g s.layout == n then Some s else None)

-- set 0 begins in zone 0 and set 1 in zone n
abbrev pub StandsAt : ℕ → ℕ → ℕ → ℕ → Type 0
StandsAt n set zone other =
    ((set ≡ 0) × (zone ≡ 0) × (other ≡ n)) ⊎ ((set ≡ 1) × (zone ≡ n) × (other ≡ 0))

-- the set of the greater generation, of a good first super block and the other one, where that is good
pub record IsGreater (g : Shape) (first : Super) (second : Option Super) (c : Choice) : Type 0 where
  pub value : chosen_of c
      ≡ greater_of (set_zones g first.layout) first (counting g (set_zones g first.layout) second)
  pub places : StandsAt (set_zones g first.layout) c.set c.zone c.other
  pub takes : set_zones g c.head.layout ≡ set_zones g first.layout
  pub second_good : c.set ≡ 0 → c.other_good ≡ is_some second
  pub first_good : c.set ≡ 1 → c.other_good ≡ true

-- set 1, as the scan finds it: the other set's super block is bad
pub record IsFound (g : Shape) (c : Choice) : Type 0 where
  pub set : c.set ≡ 1
  pub zone : c.zone ≡ set_zones g c.head.layout
  pub other : c.other ≡ 0
  pub other_good : c.other_good ≡ false

-- both sets stand where its layout puts them, there is room for them, and its head fits its version, so that the
-- other set may get it
pub record IsPlacedChoice (g : Shape) (c : Choice) : Type 0 where
  pub head : FitsVersion c.head
  pub fits : Fits g c.head.layout
  pub places : StandsAt (set_zones g c.head.layout) c.set c.zone c.other
  pub zone : c.zone < g.conv
  pub other : c.other < g.conv

-- one of the n zones from this one on, after the first, begins with the magic bytes
abbrev pub HasMagicAfter : Image → ℕ → ℕ → Type 0
HasMagicAfter image first n =
    (k : ℕ) × (1 ≤ k) × (k < n) × (has_magic (block_at image (first + k) 0) ≡ true)

-- none does
abbrev pub NoMagicAfter : Image → ℕ → ℕ → Type 0
NoMagicAfter image first n =
    (k : ℕ) → 1 ≤ k → k < n → has_magic (block_at image (first + k) 0) ≡ false

-- the chosen set, its layout fits, no other super block can be meant, and the other set's super block
-- is good as it says
pub record IsChoice (c : Choice) (image : Image) : Type 0 where
  pub is_chosen : chosen image ≡ Some (chosen_of c)
  pub layout : Fits image.geometry c.head.layout
  pub no_other_magic : IsNone (good_super image 0) →
      NoMagicAfter image c.zone (set_zones image.geometry c.head.layout)
  pub other_good : c.other_good ≡ is_some (good_super image c.other)

-- the layout doesn't fit, or another super block can be meant
abbrev pub IsMisplaced : Image → Chosen → Type 0
IsMisplaced image c = (Fits image.geometry c.head.layout → ⊥)
    ⊎ (IsNone (good_super image 0)
    × HasMagicAfter image c.first (set_zones image.geometry c.head.layout))

-- why there is no choice, where the disk tells what it reads as
abbrev pub ExplainsChoice : SetFault → Image → Type 0
ExplainsChoice NoSuperBlock image = chosen image ≡ None
ExplainsChoice Layout image = (c : Chosen) × (chosen image ≡ Some c) × IsMisplaced image c
ExplainsChoice Device image = Unit {0}
