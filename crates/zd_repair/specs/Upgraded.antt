-- A volume of version 1 that was made one of version 2.
use Rattle.std.specs.Prelude.{◌≡◌, ℕ, ◌+◌, ◌-◌, ◌^◌, List}
use Rattle.zd_disk.specs.View.{View}
use Rattle.zd_examine.specs.Examined.{ExplainsRefusal}
use Rattle.zd_examine.specs.Opened.{IsFlushed, IsRefusal}
use Rattle.zd_examine.specs.declared.examining.OpenFault.TheVariants.{Device as FailedDevice}
use Rattle.zd_format.specs.Fresh.{device_of}
use Rattle.zd_model.specs.Image.{Image}
use Rattle.zd_model.specs.Volume.{Chosen, IsWellFormed}
use Rattle.zd_model.specs.declared.metadata.Super.{Super}
use Rattle.zd_repair.specs.Reheaded.{ChangesHeads, IsOnlyOpened}
use Rattle.zd_repair.specs.declared.upgrading.UpgradeFault.{UpgradeFault}
use Rattle.zd_repair.specs.declared.upgrading.UpgradeFault.TheVariants.{Open, NotOld, Generation, Device}

-- the head in version 2, of the next generation, with this label, this identifier of the volume and that of its
-- device
abbrev pub upgraded : List ℕ → List ℕ → Super → Super
upgraded label volume head = record {
  version = 2;
  generation = head.generation + 1;
  own = head.own;
  layout = head.layout;
  label = label;
  volume = volume;
  device = device_of volume;
}

-- why a head can't be made one of version 2
abbrev pub CannotUpgrade : Super → UpgradeFault → Type 0
CannotUpgrade head (Open fault) = ⊥
CannotUpgrade head NotOld = head.version ≡ 2
CannotUpgrade head Generation = (head.version ≡ 1) × (head.generation ≡ 2 ^ 64 - 1)
CannotUpgrade head Device = ⊥

-- what was wrong with the image
abbrev pub ExplainsUpgrade : UpgradeFault → Image → Type 0
ExplainsUpgrade (Open fault) image = ExplainsRefusal fault image
ExplainsUpgrade NotOld image = (c : Chosen) × IsWellFormed image c × (c.head.version ≡ 2)
ExplainsUpgrade Generation image =
    (c : Chosen) × IsWellFormed image c × (c.head.version ≡ 1) × (c.head.generation ≡ 2 ^ 64 - 1)
ExplainsUpgrade Device image = Unit {0}

-- what was done: one flush where the disk is no volume; opening alone where the volume can't be upgraded; else the
-- calls up to the one that failed
abbrev pub UpgradeLeaves : List ℕ → List ℕ → UpgradeFault → View → View → Type 0
UpgradeLeaves label volume (Open fault) u w = IsRefusal fault → IsFlushed u w
UpgradeLeaves label volume NotOld u w = IsOnlyOpened u w
UpgradeLeaves label volume Generation u w = IsOnlyOpened u w
UpgradeLeaves label volume Device u w = ChangesHeads 1 (upgraded label volume) (w.calls - 1) u w

-- a call of the disk failed
abbrev pub BlamesUpgrade : UpgradeFault → Type 0
BlamesUpgrade (Open fault) = fault ≡ FailedDevice
BlamesUpgrade NotOld = ⊥
BlamesUpgrade Generation = ⊥
BlamesUpgrade Device = Unit {0}
