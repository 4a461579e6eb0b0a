-- A head in version 2, or none that can be.
use Rattle.std.proofs.Common.{◌≡◌, ℕ, List, Result, Err, ap}
use Rattle.zd_examine.specs.declared.examining.Image.{Image as Volume}
use Rattle.zd_examine.specs.declared.examining.OpenFault.{OpenFault}
use Rattle.zd_examine.specs.declared.examining.OpenFault.TheVariants.{Device as FailedDevice}
use Rattle.zd_model.specs.Image.{Image}
use Rattle.zd_model.specs.Volume.{IsWellFormed}
use Rattle.zd_sets.specs.Choice.{chosen_of}
use Rattle.zd_sets.specs.declared.choice.Chosen.{Chosen as Choice}
use Rattle.zd_disk.specs.View.{View}
use Rattle.zd_model.specs.declared.metadata.Super.{Super}
use Rattle.zd_repair.specs.Heads.{IsNextHead}
use Rattle.zd_repair.specs.Reheaded.{IsOnlyOpened}
use Rattle.zd_repair.specs.Upgraded.{CannotUpgrade, ExplainsUpgrade, UpgradeLeaves, upgraded}
use Rattle.zd_repair.specs.declared.upgrading.UpgradeFault.{UpgradeFault}
use Rattle.zd_repair.specs.declared.upgrading.UpgradeFault.TheVariants.{Open, NotOld, Generation, Device}

pub next_upgraded : {head next : Super} {label volume : List ℕ} → next ≡ upgraded label volume head → IsNextHead head next
next_upgraded e = record { layout = ap (λ (s : Super). s.layout) e; generation = ap (λ (s : Super). s.generation) e }

pub refused_upgrade : (head : Super) (label volume : List ℕ) {u w : View} (fault : UpgradeFault) → CannotUpgrade head fault
    → IsOnlyOpened u w → UpgradeLeaves label volume fault u w
refused_upgrade head label volume (Open fault) why opened = absurd why
refused_upgrade head label volume NotOld why opened = opened
refused_upgrade head label volume Generation why opened = opened
refused_upgrade head label volume Device why opened = absurd why

pub explains_upgrade : (c : Choice) (fault : UpgradeFault) (image : Image) → IsWellFormed image (chosen_of c) → CannotUpgrade c.head fault
    → ExplainsUpgrade fault image
explains_upgrade c (Open fault) image well why = absurd why
explains_upgrade c NotOld image well why = (chosen_of c, well, why)
explains_upgrade c Generation image well why = (chosen_of c, well, why.0, why.1)
explains_upgrade c Device image well why = absurd why

pub open_fault : {f : OpenFault} → ◌≡◌ {A = Result Volume OpenFault} (Err f) (Err FailedDevice) → Open f ≡ Open FailedDevice
open_fault {f} e = ap Open (let same : f ≡ FailedDevice = cc in same)
