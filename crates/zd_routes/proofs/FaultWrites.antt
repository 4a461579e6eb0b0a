-- A write that failed tells the one fault by which the disk's count rose.
use Rattle.std.proofs.Common.{◌≡◌, ℕ, ◌+◌, ◌≤◌, Bool, true, false, cond, ◌||◌, List, [], ◌∷◌, ◌++◌, Option, Some, refl}
use Rattle.std.proofs.Common.{ap, ap₂, ◌∙◌, arith}
use Rattle.std.proofs.lemmas.List.Folds.{list_any-append}
use Rattle.std.proofs.lemmas.List.Sums.{sum_by-append}
use Rattle.std.specs.List.{count_by, list_any}
use Rattle.zd_base.specs.Faults.{Rose}
use Rattle.zd_base.specs.declared.numbers.Why.{Why}
use Rattle.zd_model.specs.History.{HistoryEntry}
use Rattle.zd_model.specs.Plain.{Answer}
use Rattle.zd_model.specs.Plain.Answer.{Fault}
use Rattle.zd_model.specs.Requests.{Operation, operation_of}
use Rattle.zd_model.specs.Requests.Operation.{Writing}
use Rattle.zd_volume.specs.FaultCounts.{TellsFaults, has_fault, is_data, is_faulted, is_flushing, is_reading}
use Rattle.zd_volume.specs.FaultCounts.{read_faults, told_faults}
use Rattle.zd_volume.proofs.FaultEntries.{read_few}

abbrev one_if : Bool → ℕ
one_if b = cond b 1 0

or_none : (b : Bool) → (b || false) ≡ b
or_none true = refl
or_none false = refl

module _ (h : List HistoryEntry) (e : HistoryEntry) (fault : e.reply ≡ Fault)
    (writes : operation_of e.what ≡ Writing) where
  told_by : (such : Operation → Bool) → is_faulted such e ≡ such Writing
  told_by such = ap₂ (λ (o : Operation) (a : Answer). has_fault such o a) writes fault

  counted : (such : Operation → Bool)
      → count_by (is_faulted such) (h ++ e ∷ []) ≡ count_by (is_faulted such) h + one_if (such Writing)
  counted such =
      let parts : count_by (is_faulted such) (h ++ e ∷ [])
      ≡ count_by (is_faulted such) h + count_by (is_faulted such) (e ∷ []) =
      sum_by-append (λ f. one_if (is_faulted such f)) h (e ∷ []) in
      let one : one_if (is_faulted such e) ≡ one_if (such Writing) = ap one_if (told_by such) in
      omega (arith, parts, one)

  told_more : told_faults (h ++ e ∷ []) ≡ told_faults h + 1
  told_more =
      let both : count_by (is_faulted is_data) (h ++ e ∷ []) ≡ count_by (is_faulted is_data) h + 1 = counted is_data in
      let any : one_if (list_any (is_faulted is_flushing) (h ++ e ∷ []))
      ≡ one_if (list_any (is_faulted is_flushing) h) =
      ap one_if
      (list_any-append (is_faulted is_flushing) h (e ∷ [])
      ∙ ap (λ (b : Bool). list_any (is_faulted is_flushing) h || (b || false)) (told_by is_flushing)
      ∙ or_none (list_any (is_faulted is_flushing) h)) in
      omega (arith, both, any)

  read_same : read_faults (h ++ e ∷ []) ≡ read_faults h
  read_same = (let none : count_by (is_faulted is_reading) (h ++ e ∷ [])
      ≡ count_by (is_faulted is_reading) h + 0 = counted is_reading in omega (arith, none))

  pub faults_write : (stopped : Option Why) (opening now then : ℕ) → TellsFaults h stopped opening now → now ≤ then
      → Rose now then → TellsFaults (h ++ e ∷ []) (Some Why.Device) opening then
  faults_write stopped opening now then counts more rose =
      let l = counts.later in
      let one = told_more in
      let same = read_same in
      let few = read_few h in
      record {
        later = omega (arith, more);
        told = λ small. (let t = counts.told (omega (arith, rose)) in omega (arith, rose, one, t));
        cause = λ small why. (let t = counts.told (omega (arith, rose)) in omega (arith, rose, same, few, t));
      }
