-- A volume that got a new label.
use Rattle.std.specs.Prelude.{◌≡◌, ℕ, ◌+◌, ◌-◌, ◌^◌, List}
use Rattle.zd_disk.specs.View.{View}
use Rattle.zd_examine.specs.Examined.{ExplainsRefusal}
use Rattle.zd_examine.specs.Opened.{IsFlushed, IsRefusal}
use Rattle.zd_examine.specs.declared.examining.OpenFault.TheVariants.{Device as FailedDevice}
use Rattle.zd_model.specs.Image.{Image}
use Rattle.zd_model.specs.Volume.{Chosen, IsWellFormed}
use Rattle.zd_model.specs.declared.metadata.Super.{Super}
use Rattle.zd_repair.specs.Reheaded.{ChangesHeads, IsOnlyOpened}
use Rattle.zd_repair.specs.declared.relabeling.RelabelFault.{RelabelFault}
use Rattle.zd_repair.specs.declared.relabeling.RelabelFault.TheVariants.{Open, Old, Generation, Device}

-- the head with this label, of the next generation
abbrev pub relabeled : List ℕ → Super → Super
relabeled label head = record head { generation = head.generation + 1; label = label }

-- why a head can't have another label
abbrev pub CannotRelabel : Super → RelabelFault → Type 0
CannotRelabel head (Open fault) = ⊥
CannotRelabel head Old = head.version ≡ 1
CannotRelabel head Generation = (head.version ≡ 2) × (head.generation ≡ 2 ^ 64 - 1)
CannotRelabel head Device = ⊥

-- what was wrong with the image
abbrev pub ExplainsRelabel : RelabelFault → Image → Type 0
ExplainsRelabel (Open fault) image = ExplainsRefusal fault image
ExplainsRelabel Old image = (c : Chosen) × IsWellFormed image c × (c.head.version ≡ 1)
ExplainsRelabel Generation image =
    (c : Chosen) × IsWellFormed image c × (c.head.version ≡ 2) × (c.head.generation ≡ 2 ^ 64 - 1)
ExplainsRelabel Device image = Unit {0}

-- what was done: one flush where the disk is no volume; opening alone where the volume can't have the label;
-- else the calls up to the one that failed
abbrev pub RelabelLeaves : List ℕ → RelabelFault → View → View → Type 0
RelabelLeaves label (Open fault) u w = IsRefusal fault → IsFlushed u w
RelabelLeaves label Old u w = IsOnlyOpened u w
RelabelLeaves label Generation u w = IsOnlyOpened u w
RelabelLeaves label Device u w = ChangesHeads 2 (relabeled label) (w.calls - 1) u w

-- a call of the disk failed
abbrev pub BlamesRelabel : RelabelFault → Type 0
BlamesRelabel (Open fault) = fault ≡ FailedDevice
BlamesRelabel Old = ⊥
BlamesRelabel Generation = ⊥
BlamesRelabel Device = Unit {0}
