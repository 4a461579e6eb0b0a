-- How a repair ends, by its answer.
use Rattle.std.proofs.Common.{◌≡◌, ◌+◌, ◌<◌, ◌^◌, inl, inr, ap, ◌∙◌}
use Rattle.std.proofs.lemmas.List.FromFn.{length-map-range_with_len}
use Rattle.zd_disk.specs.Told.{WhereTold}
use Rattle.zd_disk.specs.View.{HasFailed, View}
use Rattle.zd_disk.proofs.ViewLaws.{turned}
use Rattle.zd_examine.specs.Examined.{IsPlacedSet}
use Rattle.zd_model.specs.Image.{Image}
use Rattle.zd_model.specs.Volume.{Chosen as Set, entry_in, tables_of}
use Rattle.zd_model.specs.declared.metadata.Super.{Super as Head}
use Rattle.zd_repair.specs.Repaired.{IsNothing}
use Rattle.zd_repair.specs.Repairing.{ExplainsRepair, HasRepaired, IsHeadAfter, IsRepair, RepairLeaves, equal_set}
use Rattle.zd_repair.specs.declared.repairing.RepairFault.{RepairFault}
use Rattle.zd_repair.specs.declared.repairing.RepairFault.TheVariants as repairs
use Rattle.zd_repair.specs.declared.tables.Repaired.{Repaired as Dropped}
use Rattle.zd_admin.proofs.EndLaws.{in_opening, in_run}
use Rattle.zd_admin.specs.Answers.{repair_outcome}
use Rattle.zd_admin.specs.Ends.{CanRepair}
use Rattle.zd_admin.specs.Admin.{AskedLeaves, EndsAsked}
use Rattle.zd_admin.specs.declared.outcome.AdminWork.TheVariants.{Repaired}
use Rattle.zd_admin.specs.declared.outcome.Outcome.TheVariants.{Done, Device, Memory, Generation}
use Rattle.zd_admin.specs.declared.words.Asked.TheVariants.{Repair}

-- the next head has the same layout, and its generation could rise
same_chunks : (dropped : Dropped) (old new : Head) → IsHeadAfter dropped old new → new.layout.chunks ≡ old.layout.chunks
same_chunks dropped old new (inl still) = ap (λ (h : Head). h.layout.chunks) still.1
same_chunks dropped old new (inr next) = ap (λ (h : Head). h.layout.chunks) next.2

could_rise : (dropped : Dropped) (old new : Head) → IsHeadAfter dropped old new → (IsNothing dropped → ⊥) → old.generation + 1 < 2 ^ 64
could_rise dropped old new (inl still) some = absurd (some still.0)
could_rise dropped old new (inr next) some = next.1

can_repair : (dropped : Dropped) (old new : Image) (c : Set) → IsPlacedSet old c → IsRepair c dropped old new → CanRepair dropped old
can_repair dropped old new c placed repair = record {
  set = c;
  placed = placed;
  left = tables_of new (equal_set old.geometry repair.head);
  count = length-map-range_with_len (entry_in new (equal_set old.geometry repair.head)) 0 repair.head.layout.chunks
      ∙ same_chunks dropped c.head repair.head repair.head_is;
  tables = repair.left;
  counts = repair.counts;
  rises = could_rise dropped c.head repair.head repair.head_is;
}

module _ (u w : View) where
  was_able : (dropped : Dropped) → HasRepaired dropped u w → WhereTold u.zones (CanRepair dropped)
  was_able dropped done image is =
      let now = turned done.repaired image is in
      can_repair dropped image now.0 now.2.0 now.2.1 now.2.2

  pub repair_done : (dropped : Dropped) → HasRepaired dropped u w → EndsAsked Repair u w (Done (Repaired dropped))
  repair_done dropped done =
      let able = was_able dropped done in
      in_run Repair u w (Done (Repaired dropped)) tt (λ image is. let can = able image is in (can.set, can.placed)) able

  pub repair_ends : (fault : RepairFault) → WhereTold u.zones (ExplainsRepair fault) → EndsAsked Repair u w (repair_outcome fault)
  repair_ends repairs.NoSuperBlock why = in_opening Repair u w (repair_outcome repairs.NoSuperBlock) tt why
  repair_ends repairs.Layout why = in_opening Repair u w (repair_outcome repairs.Layout) tt why
  repair_ends repairs.Device why = in_opening Repair u w Device tt tt
  repair_ends repairs.Generation why = in_run Repair u w Generation tt (λ image is. let last = why image is in (last.0, last.1)) why
  repair_ends repairs.Memory why = in_opening Repair u w Memory tt tt

  pub repair_leaves : (fault : RepairFault) → RepairLeaves fault u w → AskedLeaves Repair (repair_outcome fault) u w
  repair_leaves repairs.NoSuperBlock leaves = leaves
  repair_leaves repairs.Layout leaves = leaves
  repair_leaves repairs.Device leaves = tt
  repair_leaves repairs.Generation leaves = leaves
  repair_leaves repairs.Memory leaves = tt

  pub repair_device : (fault : RepairFault) → RepairLeaves fault u w → repair_outcome fault ≡ Device → HasFailed u w
  repair_device repairs.NoSuperBlock leaves e = cc
  repair_device repairs.Layout leaves e = cc
  repair_device repairs.Device leaves e = leaves
  repair_device repairs.Generation leaves e = cc
  repair_device repairs.Memory leaves e = cc

pub repair_failed : (fault : RepairFault) → fault ≡ repairs.Device → repair_outcome fault ≡ Device
repair_failed fault e = ap repair_outcome e
