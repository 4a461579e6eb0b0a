-- An edge whose read failed stops a volume, and keeps it. One that was read changes none of its values: `kept_read`.
use Rattle.std.proofs.Common.{◌≡◌, Some, None, refl}
use Rattle.zd_base.specs.declared.numbers.Why.{Why}
use Rattle.zd_disk.specs.View.{HasFailed, OnlyReads, View}
use Rattle.zd_volume.specs.Volumes.{IsKeptVolume, PlainVolume}
use Rattle.zd_volume.proofs.FaultEntries.{faults_failed}
use Rattle.zd_volume.proofs.FixedLaws.{fixed_beside}
use Rattle.zd_volume.proofs.Still.{kept_still}

module _ (v : PlainVolume) where
  abbrev stopped : PlainVolume
  stopped = record v { stopped = Some Why.Device }

  pub kept_merge_failed : (opening u x : View) → v.stopped ≡ None → IsKeptVolume v opening u → OnlyReads u x
      → HasFailed u x → IsKeptVolume (record v { stopped = Some Why.Device }) opening x
  kept_merge_failed opening u x runs was io failed =
      kept_still v stopped opening u x
      (record { geometry = refl; head = refl; since = refl; opening = refl; runs = λ _. runs }) io was
      (record {
        fixed = fixed_beside v was.fixed v.phase v.history v.since (Some Why.Device) was.fixed.under_way;
        by_now = was.counted.by_now;
        faulted = faults_failed v.history v.stopped opening.faults u.faults x.faults was.faulted io.stays.later failed;
        calm = λ no. absurd (let f : ⊥ = cc in f);
        legal = λ r t l. l;
        more = λ k n y m. m;
        reads = λ no. absurd (let f : ⊥ = cc in f);
        stops = λ no. absurd (let f : ⊥ = cc in f);
      })
