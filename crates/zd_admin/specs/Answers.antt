-- How a run ends, by the answer of what was asked for.
use Rattle.std.specs.Prelude.{Result, Ok, Err}
use Rattle.zd_check.specs.declared.comparing.Verdict.{Verdict}
use Rattle.zd_check.specs.declared.comparing.Verdict.TheVariants as verdicts
use Rattle.zd_examine.specs.declared.examining.OpenFault.{OpenFault}
use Rattle.zd_examine.specs.declared.examining.OpenFault.TheVariants as faults
use Rattle.zd_format.specs.declared.formatting.FormatFault.{FormatFault}
use Rattle.zd_format.specs.declared.formatting.FormatFault.TheVariants as formats
use Rattle.zd_format.specs.declared.formatting.Formatted.{Formatted as Made}
use Rattle.zd_model.specs.declared.texts.NoVolume.TheVariants as kinds
use Rattle.zd_repair.specs.declared.relabeling.RelabelFault.{RelabelFault}
use Rattle.zd_repair.specs.declared.relabeling.RelabelFault.TheVariants as relabels
use Rattle.zd_repair.specs.declared.repairing.RepairFault.{RepairFault}
use Rattle.zd_repair.specs.declared.repairing.RepairFault.TheVariants as repairs
use Rattle.zd_repair.specs.declared.upgrading.UpgradeFault.{UpgradeFault}
use Rattle.zd_repair.specs.declared.upgrading.UpgradeFault.TheVariants as upgrades
use Rattle.zd_admin.specs.declared.outcome.AdminWork.TheVariants.{Formatted, Checked, Shown}
use Rattle.zd_admin.specs.declared.outcome.Difference.TheVariants as differences
use Rattle.zd_admin.specs.declared.outcome.Outcome.{Outcome}
use Rattle.zd_admin.specs.declared.outcome.Outcome.TheVariants.{Done, NoVolume, Device, Memory, Generation, Differs, Unfit, Old, NotOld}
use Rattle.zd_admin.specs.declared.volume.VolumeStatus.{VolumeStatus}

-- a disk that can't be examined, or is no volume
abbrev pub examine_outcome : OpenFault → Outcome
examine_outcome faults.NoSuperBlock = NoVolume kinds.NoSuperBlock
examine_outcome faults.Layout = NoVolume kinds.Layout
examine_outcome (faults.BadMap chunk) = NoVolume (kinds.BadMap chunk)
examine_outcome (faults.BadBits zone block) = NoVolume (kinds.BadBits zone block)
examine_outcome faults.Device = Device
examine_outcome faults.Memory = Memory

-- formatting
abbrev pub format_outcome : Result Made FormatFault → Outcome
format_outcome (Ok made) = Done (Formatted made.layout.chunks made.geometry.zone_blocks)
format_outcome (Err formats.Unfit) = Unfit
format_outcome (Err formats.Device) = Device
format_outcome (Err formats.Memory) = Memory

-- checking
abbrev pub check_outcome : Result Verdict OpenFault → Outcome
check_outcome (Ok verdicts.Same) = Done Checked
check_outcome (Ok (verdicts.Super set)) = Differs (differences.Super set)
check_outcome (Ok (verdicts.Block block)) = Differs (differences.Block block)
check_outcome (Err fault) = examine_outcome fault

-- showing a volume
abbrev pub status_outcome : Result VolumeStatus OpenFault → Outcome
status_outcome (Ok status) = Done (Shown status)
status_outcome (Err fault) = examine_outcome fault

-- a repair that wasn't made
abbrev pub repair_outcome : RepairFault → Outcome
repair_outcome repairs.NoSuperBlock = NoVolume kinds.NoSuperBlock
repair_outcome repairs.Layout = NoVolume kinds.Layout
repair_outcome repairs.Device = Device
repair_outcome repairs.Generation = Generation
repair_outcome repairs.Memory = Memory

-- a new label that wasn't given, and an upgrade that wasn't made
abbrev pub relabel_outcome : RelabelFault → Outcome
relabel_outcome (relabels.Open fault) = examine_outcome fault
relabel_outcome relabels.Old = Old
relabel_outcome relabels.Generation = Generation
relabel_outcome relabels.Device = Device

abbrev pub upgrade_outcome : UpgradeFault → Outcome
upgrade_outcome (upgrades.Open fault) = examine_outcome fault
upgrade_outcome upgrades.NotOld = NotOld
upgrade_outcome upgrades.Generation = Generation
upgrade_outcome upgrades.Device = Device
