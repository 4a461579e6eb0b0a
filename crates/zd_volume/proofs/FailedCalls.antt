-- A call of a commit that failed: the volume is stopped, and the flushes that wait are entered with Fault.
use Rattle.std.proofs.Common.{◌≡◌, ℕ, ◌≤◌, List, ◌++◌, None, Some, arith}
use Rattle.std.specs.List.{AllByRecursion}
use Rattle.zd_base.specs.declared.numbers.Why.{Why}
use Rattle.zd_model.specs.History.{HistoryEntry, IsLegal}
use Rattle.zd_model.specs.Image.{Image}
use Rattle.zd_model.specs.Safe.{IsSafe, base_at}
use Rattle.zd_model.proofs.HeldLaws.{AreBy-append}
use Rattle.zd_model.proofs.SafeHistory.{safe_more}
use Rattle.zd_disk.specs.Told.{next_count}
use Rattle.zd_disk.specs.View.{HasFailed, View}
use Rattle.zd_volume.specs.FaultCounts.{IsFailedFlushAt}
use Rattle.zd_volume.specs.Volumes.{IsKeptVolume, Known, MakesCall, PlainVolume}
use Rattle.zd_volume.proofs.FaultEntries.{faults_flushes}
use Rattle.zd_volume.proofs.FaultStops.{failed_by, failed_hold}
use Rattle.zd_volume.proofs.FixedLaws.{fixed_beside}
use Rattle.zd_volume.proofs.InPhases.{by_next}
use Rattle.zd_volume.proofs.Kept.{kept_call}

-- the volume is stopped after one more call, with these entries
abbrev pub failed_with : PlainVolume → List HistoryEntry → PlainVolume
failed_with v entries = record v {
  history = v.history ++ entries;
  since = next_count v.since;
  stopped = Some Why.Device;
}

pub kept_failed_call : (v : PlainVolume) (entries : List HistoryEntry) (opening d e : View)
    (step : Image → Image → Image → Type 0)
    → v.stopped ≡ None → IsKeptVolume v opening d → MakesCall v (failed_with v entries) d e step → HasFailed d e
    → AllByRecursion (IsFailedFlushAt (next_count v.since)) entries
    → ((r : Image) → d.zones ≡ Some r → IsLegal (base_at opening.zones) v.history
    → IsLegal (base_at opening.zones) (v.history ++ entries))
    → ((k : ℕ) (r i c : Image) → v.since ≤ k → Known v (base_at opening.zones) r i c → step r i c → d.zones ≡ Some r
    → IsSafe (base_at opening.zones) v.history k c)
    → IsKeptVolume (failed_with v entries) opening e
kept_failed_call v entries opening d e step runs was did rose all legal safe =
    kept_call v (failed_with v entries) opening d e step runs was did (record {
      fixed = fixed_beside v was.fixed v.phase (v.history ++ entries) (next_count v.since) (Some Why.Device)
          was.fixed.under_way;
      by_now = AreBy-append (next_count v.since) v.history entries (by_next v opening d was)
          (failed_by (next_count v.since) entries all);
      generation = λ one g. omega (arith, one, g);
      faulted = faults_flushes (next_count v.since) v.history entries v.stopped opening.faults d.faults e.faults
          was.faulted (was.calm runs) did.stays.later rose all;
      calm = λ x. absurd (let f : ⊥ = cc in f);
      legal = λ _. legal;
      past = λ k n x l m. failed_hold (base_at opening.zones) (next_count v.since) k n x v.history entries all m;
      reads = λ x. absurd (let f : ⊥ = cc in f);
      before = λ r i c one known w t. more v.since c (safe v.since r i c (omega arith) known w t);
      after = λ r i c one known w t _ _.
          more (next_count v.since) c (safe (next_count v.since) r i c (omega arith) known w t);
      stops = λ x. absurd (let f : ⊥ = cc in f);
    })
  where
    more : (k : ℕ) (c : Image) → IsSafe (base_at opening.zones) v.history k c
        → IsSafe (base_at opening.zones) (v.history ++ entries) k c
    more k c s = safe_more (base_at opening.zones) v.history (v.history ++ entries) k k c
        (λ n x m. failed_hold (base_at opening.zones) (next_count v.since) k n x v.history entries all m) s
