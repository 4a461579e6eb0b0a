-- A head with a new label, or none that can be.
use Rattle.std.proofs.Common.{◌≡◌, ℕ, List, Result, Err, ap}
use Rattle.zd_examine.specs.declared.examining.Image.{Image as Volume}
use Rattle.zd_examine.specs.declared.examining.OpenFault.{OpenFault}
use Rattle.zd_examine.specs.declared.examining.OpenFault.TheVariants.{Device as FailedDevice}
use Rattle.zd_model.specs.Image.{Image}
use Rattle.zd_model.specs.Volume.{IsWellFormed}
use Rattle.zd_sets.specs.Choice.{chosen_of}
use Rattle.zd_sets.specs.declared.choice.Chosen.{Chosen as Choice}
use Rattle.zd_disk.specs.View.{View}
use Rattle.zd_model.specs.declared.metadata.Super.{Super}
use Rattle.zd_repair.specs.Heads.{IsNextHead}
use Rattle.zd_repair.specs.Reheaded.{IsOnlyOpened}
use Rattle.zd_repair.specs.Relabeled.{CannotRelabel, ExplainsRelabel, RelabelLeaves, relabeled}
use Rattle.zd_repair.specs.declared.relabeling.RelabelFault.{RelabelFault}
use Rattle.zd_repair.specs.declared.relabeling.RelabelFault.TheVariants.{Open, Old, Generation, Device}

pub next_relabeled : {head next : Super} {label : List ℕ} → next ≡ relabeled label head → IsNextHead head next
next_relabeled e = record { layout = ap (λ (s : Super). s.layout) e; generation = ap (λ (s : Super). s.generation) e }

pub refused_relabel : (head : Super) (label : List ℕ) {u w : View} (fault : RelabelFault) → CannotRelabel head fault
    → IsOnlyOpened u w → RelabelLeaves label fault u w
refused_relabel head label (Open fault) why opened = absurd why
refused_relabel head label Old why opened = opened
refused_relabel head label Generation why opened = opened
refused_relabel head label Device why opened = absurd why

pub explains_relabel : (c : Choice) (fault : RelabelFault) (image : Image) → IsWellFormed image (chosen_of c) → CannotRelabel c.head fault
    → ExplainsRelabel fault image
explains_relabel c (Open fault) image well why = absurd why
explains_relabel c Old image well why = (chosen_of c, well, why)
explains_relabel c Generation image well why = (chosen_of c, well, why.0, why.1)
explains_relabel c Device image well why = absurd why

pub open_fault : {f : OpenFault} → ◌≡◌ {A = Result Volume OpenFault} (Err f) (Err FailedDevice) → Open f ≡ Open FailedDevice
open_fault {f} e = ap Open (let same : f ≡ FailedDevice = cc in same)
