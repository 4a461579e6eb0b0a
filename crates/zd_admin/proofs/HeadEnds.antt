-- How a new label and an upgrade end, by their answers.
use Rattle.std.proofs.Common.{◌≡◌, ℕ, List, Option, ap}
use Rattle.zd_disk.specs.Told.{WhereTold}
use Rattle.zd_disk.specs.View.{View}
use Rattle.zd_disk.proofs.ViewLaws.{turned}
use Rattle.zd_examine.specs.declared.examining.OpenFault.TheVariants as faults
use Rattle.zd_model.specs.Image.{Image}
use Rattle.zd_model.specs.Volume.{WellFormed}
use Rattle.zd_model.specs.declared.metadata.Super.{Super as Head}
use Rattle.zd_repair.specs.Reheaded.{ChangesHeads, HasChangedHeads}
use Rattle.zd_repair.specs.Relabeled.{BlamesRelabel, ExplainsRelabel, RelabelLeaves, relabeled}
use Rattle.zd_repair.specs.Upgraded.{BlamesUpgrade, ExplainsUpgrade, UpgradeLeaves, upgraded}
use Rattle.zd_repair.specs.declared.relabeling.RelabelFault.{RelabelFault}
use Rattle.zd_repair.specs.declared.relabeling.RelabelFault.TheVariants as relabels
use Rattle.zd_repair.specs.declared.upgrading.UpgradeFault.{UpgradeFault}
use Rattle.zd_repair.specs.declared.upgrading.UpgradeFault.TheVariants as upgrades
use Rattle.zd_sets.specs.Choice.{chosen_of}
use Rattle.zd_admin.specs.Answers.{relabel_outcome, upgrade_outcome}
use Rattle.zd_admin.specs.Ends.{CanRise, ExamineEnds, IsAtLast, IsOfVersion, RelabelEnds, UpgradeEnds}
use Rattle.zd_admin.specs.Admin.{AskedLeaves, EndsAsked}
use Rattle.zd_admin.specs.declared.outcome.AdminWork.TheVariants.{Relabeled, Upgraded}
use Rattle.zd_admin.specs.declared.outcome.Outcome.{Outcome}
use Rattle.zd_admin.specs.declared.outcome.Outcome.TheVariants.{Done, Device, Generation, Old, NotOld}
use Rattle.zd_admin.specs.declared.words.Asked.TheVariants.{Relabel, Upgrade}
use Rattle.zd_admin.proofs.EndLaws.{examining, examining_device, examining_leaves, in_run}

-- new heads

-- the volume was opened, of this version, and its generation could rise
changed_rise : (version : ℕ) (change : Head → Head) (done : ℕ) (u w : View) → ChangesHeads version change done u w
    → WhereTold u.zones (CanRise version)
changed_rise version change done u w changes image is =
    let opened = turned changes.opened image is in
    (chosen_of changes.volume.chosen, opened.2.well_formed, changes.version_is, changes.rises)

rise_opens : (version : ℕ) (zones : Option Image) → WhereTold zones (CanRise version) → WhereTold zones WellFormed
rise_opens version zones rise image is = let r = rise image is in (r.0, r.1)

last_opens : (version : ℕ) (zones : Option Image) → WhereTold zones (IsAtLast version) → WhereTold zones WellFormed
last_opens version zones last image is = let r = last image is in (r.0, r.1)

version_opens : (version : ℕ) (zones : Option Image) → WhereTold zones (IsOfVersion version) → WhereTold zones WellFormed
version_opens version zones old image is = let r = old image is in (r.0, r.1)

-- a new label

examine_relabel : (zones : Option Image) (o : Outcome) → ExamineEnds zones o → RelabelEnds zones o
examine_relabel zones (Done Relabeled) ends = absurd ends
examine_relabel zones Generation ends = absurd ends
examine_relabel zones Old ends = absurd ends
examine_relabel zones o ends = ends

pub relabel_done : (label : List ℕ) (u w : View) → HasChangedHeads 2 (relabeled label) u w
    → EndsAsked (Relabel label) u w (Done Relabeled)
relabel_done label u w done =
    let rise = changed_rise 2 (relabeled label) w.calls u w done.changes in
    in_run (Relabel label) u w (Done Relabeled) tt (rise_opens 2 u.zones rise) rise

pub relabel_ends : (label : List ℕ) (u w : View) (fault : RelabelFault) → WhereTold u.zones (ExplainsRelabel fault)
    → RelabelLeaves label fault u w → EndsAsked (Relabel label) u w (relabel_outcome fault)
relabel_ends label u w (relabels.Open fault) why leaves = examining (Relabel label) u w (examine_relabel u.zones) fault why
relabel_ends label u w relabels.Old why leaves = in_run (Relabel label) u w Old tt (version_opens 1 u.zones why) why
relabel_ends label u w relabels.Generation why leaves = in_run (Relabel label) u w Generation tt (last_opens 2 u.zones why) why
relabel_ends label u w relabels.Device why leaves =
    in_run (Relabel label) u w Device tt (rise_opens 2 u.zones (changed_rise 2 (relabeled label) _ u w leaves)) tt

pub relabel_leaves : (label : List ℕ) (u w : View) (fault : RelabelFault) → RelabelLeaves label fault u w
    → AskedLeaves (Relabel label) (relabel_outcome fault) u w
relabel_leaves label u w (relabels.Open fault) leaves = examining_leaves (Relabel label) u w fault leaves
relabel_leaves label u w relabels.Old leaves = leaves
relabel_leaves label u w relabels.Generation leaves = leaves
relabel_leaves label u w relabels.Device leaves = tt

pub relabel_device : (fault : RelabelFault) → relabel_outcome fault ≡ Device → BlamesRelabel fault
relabel_device (relabels.Open fault) e = examining_device fault e
relabel_device relabels.Old e = cc
relabel_device relabels.Generation e = cc
relabel_device relabels.Device e = tt

pub relabel_open : (fault : RelabelFault) → fault ≡ relabels.Open faults.Device → relabel_outcome fault ≡ Device
relabel_open fault e = ap relabel_outcome e

-- an upgrade

examine_upgrade : (zones : Option Image) (o : Outcome) → ExamineEnds zones o → UpgradeEnds zones o
examine_upgrade zones (Done Upgraded) ends = absurd ends
examine_upgrade zones Generation ends = absurd ends
examine_upgrade zones NotOld ends = absurd ends
examine_upgrade zones o ends = ends

pub upgrade_done : (label volume : List ℕ) (u w : View) → HasChangedHeads 1 (upgraded label volume) u w
    → EndsAsked (Upgrade volume) u w (Done Upgraded)
upgrade_done label volume u w done =
    let rise = changed_rise 1 (upgraded label volume) w.calls u w done.changes in
    in_run (Upgrade volume) u w (Done Upgraded) tt (rise_opens 1 u.zones rise) rise

pub upgrade_ends : (label volume : List ℕ) (u w : View) (fault : UpgradeFault) → WhereTold u.zones (ExplainsUpgrade fault)
    → UpgradeLeaves label volume fault u w → EndsAsked (Upgrade volume) u w (upgrade_outcome fault)
upgrade_ends label volume u w (upgrades.Open fault) why leaves = examining (Upgrade volume) u w (examine_upgrade u.zones) fault why
upgrade_ends label volume u w upgrades.NotOld why leaves = in_run (Upgrade volume) u w NotOld tt (version_opens 2 u.zones why) why
upgrade_ends label volume u w upgrades.Generation why leaves = in_run (Upgrade volume) u w Generation tt (last_opens 1 u.zones why) why
upgrade_ends label volume u w upgrades.Device why leaves =
    in_run (Upgrade volume) u w Device tt (rise_opens 1 u.zones (changed_rise 1 (upgraded label volume) _ u w leaves)) tt

pub upgrade_leaves : (label volume : List ℕ) (u w : View) (fault : UpgradeFault) → UpgradeLeaves label volume fault u w
    → AskedLeaves (Upgrade volume) (upgrade_outcome fault) u w
upgrade_leaves label volume u w (upgrades.Open fault) leaves = examining_leaves (Upgrade volume) u w fault leaves
upgrade_leaves label volume u w upgrades.NotOld leaves = leaves
upgrade_leaves label volume u w upgrades.Generation leaves = leaves
upgrade_leaves label volume u w upgrades.Device leaves = tt

pub upgrade_device : (fault : UpgradeFault) → upgrade_outcome fault ≡ Device → BlamesUpgrade fault
upgrade_device (upgrades.Open fault) e = examining_device fault e
upgrade_device upgrades.NotOld e = cc
upgrade_device upgrades.Generation e = cc
upgrade_device upgrades.Device e = tt

pub upgrade_open : (fault : UpgradeFault) → fault ≡ upgrades.Open faults.Device → upgrade_outcome fault ≡ Device
upgrade_open fault e = ap upgrade_outcome e
