-- Faults: what replies tell of the faults of the disk.
use Rattle.std.specs.Prelude.{◌≡◌, ℕ, ◌+◌, ◌-◌, ◌^◌, ◌<◌, ◌≤◌, Bool, true, false, List, count_by}
use Rattle.std.specs.Prelude.{Option, Some, if◌then◌else◌}
use Rattle.std.specs.List.{AllByRecursion, list_any}
use Rattle.zd_base.specs.declared.numbers.Why.{Why}
use Rattle.zd_model.specs.History.{HistoryEntry, IsFailedFlush}
use Rattle.zd_model.specs.Plain.{Answer}
use Rattle.zd_model.specs.Plain.Answer.{Fault}
use Rattle.zd_model.specs.Requests.{Operation, operation_of}
use Rattle.zd_model.specs.Requests.Operation.{Reading, Writing, Flushing}

-- such an operation was answered Fault
abbrev pub has_fault : (Operation → Bool) → Operation → Answer → Bool
has_fault such operation Fault = such operation
has_fault such operation reply = false

abbrev pub is_reading : Operation → Bool
is_reading Reading = true
is_reading operation = false

abbrev pub is_data : Operation → Bool
is_data Reading = true
is_data Writing = true
is_data operation = false

abbrev pub is_flushing : Operation → Bool
is_flushing Flushing = true
is_flushing operation = false

abbrev pub is_faulted : (Operation → Bool) → HistoryEntry → Bool
is_faulted such e = has_fault such (operation_of e.what) e.reply

-- how many reads were answered Fault
abbrev pub read_faults : List HistoryEntry → ℕ
read_faults history = count_by (is_faulted is_reading) history

-- how many reads and writes were, and one more where a flush was
abbrev pub told_faults : List HistoryEntry → ℕ
told_faults history =
    count_by (is_faulted is_data) history
    + (if list_any (is_faulted is_flushing) history then 1 else 0)

-- The disk's count rose at least as often as faults are told; and once more than reads tell where the
-- volume stopped by its failure. While the count is below its end.
pub record TellsFaults (history : List HistoryEntry) (stopped : Option Why) (opening now : ℕ)
    : Type 0 where
  pub later : opening ≤ now
  pub told : now < 2 ^ 64 - 1 → opening + told_faults history ≤ now
  pub cause : now < 2 ^ 64 - 1 → stopped ≡ Some Why.Device → opening + read_faults history < now

-- no fault is told but of a read
abbrev pub IsCalm : HistoryEntry → Type 0
IsCalm e = e.reply ≡ Fault → operation_of e.what ≡ Reading

abbrev pub AreCalm : List HistoryEntry → Type 0
AreCalm history = AllByRecursion IsCalm history

-- a flush that failed when just so many calls had returned
pub record IsFailedFlushAt (at : ℕ) (e : HistoryEntry) : Type 0 where
  pub failed : IsFailedFlush e
  pub when : e.at ≡ at
