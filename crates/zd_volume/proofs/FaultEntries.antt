-- What entries and failures make of the count of faults.
use Rattle.std.proofs.Common.{◌≡◌, ◌≢◌, ℕ, ◌+◌, ◌≤◌, Bool, true, false, cond, ◌||◌, List, [], ◌∷◌, ◌++◌, Option, Some, refl, sym, ap, ap₂, ◌∙◌, arith}
use Rattle.std.proofs.lemmas.List.Folds.{list_any-append}
use Rattle.std.proofs.lemmas.List.Sums.{sum_by-append}
use Rattle.std.specs.List.{AllByRecursion, count_by, list_any}
use Rattle.zd_base.specs.Faults.{Rose}
use Rattle.zd_base.specs.declared.numbers.Why.{Why}
use Rattle.zd_model.specs.History.{HistoryEntry}
use Rattle.zd_model.specs.Plain.{Answer}
use Rattle.zd_model.specs.Plain.Answer.{Got, Done, Range, Fault}
use Rattle.zd_model.specs.Requests.{Operation, operation_of}
use Rattle.zd_model.specs.Requests.Operation.{Reading, Writing, Discarding, Flushing}
use Rattle.zd_model.specs.Stops.{IsFlushAt}
use Rattle.zd_model.specs.declared.requests.What.{What}
use Rattle.zd_model.specs.declared.requests.What.TheVariants.{Flush}
use Rattle.zd_volume.specs.FaultCounts.{AreCalm, TellsFaults, IsFailedFlushAt, has_fault, is_data, is_faulted, is_flushing, is_reading, read_faults, told_faults}

count_more : (p : HistoryEntry → Bool) (h es : List HistoryEntry) → count_by p (h ++ es) ≡ count_by p h + count_by p es
count_more p h es = sum_by-append (λ e. cond (p e) 1 0) h es

abbrev tally : Bool → ℕ
tally b = cond b 1 0

count_first : (p : HistoryEntry → Bool) (e : HistoryEntry) (h : List HistoryEntry)
    → count_by p (e ∷ h) ≡ tally (p e) + count_by p h
count_first p e h = (let n = count_more p (e ∷ []) h in omega (arith, n))

-- where it isn't counted
count_passed : (p : HistoryEntry → Bool) (e : HistoryEntry) (h : List HistoryEntry) → p e ≡ false
    → count_by p h ≡ 0 → count_by p (e ∷ h) ≡ 0
count_passed p e h off none =
    let n = count_first p e h in
    let z : tally (p e) ≡ 0 = ap tally off in
    omega (arith, n, z, none)

count_one : (p : HistoryEntry → Bool) (e : HistoryEntry) → p e ≡ true → count_by p (e ∷ []) ≡ 1
count_one p e is =
    let n = count_first p e [] in
    let z : tally (p e) ≡ 1 = ap tally is in
    omega (arith, n, z)

-- one entry's part
read_part : (e : HistoryEntry) → cond (is_faulted is_reading e) 1 0 ≤ cond (is_faulted is_data e) 1 0
read_part e = by (operation_of e.what) e.reply
  where
    by : (o : Operation) (a : Answer) → cond (has_fault is_reading o a) 1 0 ≤ cond (has_fault is_data o a) 1 0
    by o (Got bytes) = omega arith
    by o Done = omega arith
    by o Range = omega arith
    by Reading Fault = omega arith
    by Writing Fault = omega arith
    by Discarding Fault = omega arith
    by Flushing Fault = omega arith

read_parts : (h : List HistoryEntry) → count_by (is_faulted is_reading) h ≤ count_by (is_faulted is_data) h
read_parts [] = omega arith
read_parts (e ∷ h) =
    let a = read_part e in
    let b = read_parts h in
    let c = count_first (is_faulted is_reading) e h in
    let d = count_first (is_faulted is_data) e h in
    omega (arith, a, b, c, d)

-- reads tell no more than all do
pub read_few : (h : List HistoryEntry) → read_faults h ≤ told_faults h
read_few h = (let a = read_parts h in omega (arith, a))

-- the count goes on
pub faults_later : (h : List HistoryEntry) (stopped : Option Why) (opening now then : ℕ)
    → TellsFaults h stopped opening now → now ≤ then → TellsFaults h stopped opening then
faults_later h stopped opening now then counts more =
    let l = counts.later in
    record {
      later = omega (arith, more);
      told = λ small. (let t = counts.told (omega (arith, more)) in omega (arith, more));
      cause = λ small why. (let t = counts.cause (omega (arith, more)) why in omega (arith, more));
    }

-- THE DISK FAILED: the count rose once more
pub faults_failed : (h : List HistoryEntry) (stopped : Option Why) (opening now then : ℕ)
    → TellsFaults h stopped opening now → now ≤ then → Rose now then → TellsFaults h (Some Why.Device) opening then
faults_failed h stopped opening now then counts more rose =
    let l = counts.later in
    record {
      later = omega (arith, more);
      told = λ small. (let t = counts.told (omega (arith, rose)) in omega (arith, rose));
      cause = λ small why.
          let t = counts.told (omega (arith, rose)) in
          let few = read_few h in
          omega (arith, rose, few);
    }

-- entries that tell no fault
pub record TellsNone (e : HistoryEntry) : Type 0 where
  pub reply : e.reply ≢ Fault

no_fault : (such : Operation → Bool) (e : HistoryEntry) → e.reply ≢ Fault → is_faulted such e ≡ false
no_fault such e none = by e.reply none
  where
    by : (a : Answer) → a ≢ Fault → has_fault such (operation_of e.what) a ≡ false
    by (Got bytes) none = refl
    by Done none = refl
    by Range none = refl
    by Fault none = absurd (none refl)

none_counted : (such : Operation → Bool) (es : List HistoryEntry) → AllByRecursion TellsNone es
    → count_by (is_faulted such) es ≡ 0
none_counted such [] all = refl
none_counted such (e ∷ es) all =
    count_passed (is_faulted such) e es (no_fault such e all.0.reply) (none_counted such es all.1)

none_found : (such : Operation → Bool) (es : List HistoryEntry) → AllByRecursion TellsNone es
    → list_any (is_faulted such) es ≡ false
none_found such [] all = refl
none_found such (e ∷ es) all =
    ap (λ (b : Bool). b || list_any (is_faulted such) es) (no_fault such e all.0.reply) ∙ none_found such es all.1

or_false : (b : Bool) → (b || false) ≡ b
or_false true = refl
or_false false = refl

module _ (h es : List HistoryEntry) (all : AllByRecursion TellsNone es) where
  told_same : told_faults (h ++ es) ≡ told_faults h
  told_same =
      ap₂ (λ (n : ℕ) (b : Bool). n + cond b 1 0)
      (count_more (is_faulted is_data) h es
      ∙ (let z = none_counted is_data es all in
      let s : count_by (is_faulted is_data) h + count_by (is_faulted is_data) es ≡ count_by (is_faulted is_data) h =
      omega (arith, z) in s))
      (list_any-append (is_faulted is_flushing) h es
      ∙ ap (λ (b : Bool). list_any (is_faulted is_flushing) h || b) (none_found is_flushing es all)
      ∙ or_false (list_any (is_faulted is_flushing) h))

  read_same : read_faults (h ++ es) ≡ read_faults h
  read_same =
      let c = count_more (is_faulted is_reading) h es in
      let z = none_counted is_reading es all in
      omega (arith, c, z)

  pub faults_none : (stopped : Option Why) (opening now : ℕ) → TellsFaults h stopped opening now
      → TellsFaults (h ++ es) stopped opening now
  faults_none stopped opening now counts =
      let t = told_same in
      let r = read_same in
      record {
        later = counts.later;
        told = λ small. (let c = counts.told small in omega (arith, t, c));
        cause = λ small why. (let c = counts.cause small why in omega (arith, r, c));
      }

-- they are calm
pub none_calm : (es : List HistoryEntry) → AllByRecursion TellsNone es → AreCalm es
none_calm [] all = tt
none_calm (e ∷ es) all = ((λ fault. absurd (all.0.reply fault)), none_calm es all.1)

pub calm_more : (h es : List HistoryEntry) → AreCalm h → AreCalm es → AreCalm (h ++ es)
calm_more [] es calm also = also
calm_more (e ∷ h) es calm also = (calm.0, calm_more h es calm.1 also)

-- flushes that were done
pub done_none : (at : ℕ) (es : List HistoryEntry) → AllByRecursion (IsFlushAt at) es → AllByRecursion TellsNone es
done_none at [] all = tt
done_none at (e ∷ es) all = (
  record { reply = λ fault. (let no : Done ≡ Fault = sym all.0.done ∙ fault in let f : ⊥ = cc in f) },
  done_none at es all.1,
)

-- A READ THAT FAILED tells the one fault by which the count rose
faulted_is : (such : Operation → Bool) (e : HistoryEntry) (o : Operation) → e.reply ≡ Fault → operation_of e.what ≡ o
    → is_faulted such e ≡ such o
faulted_is such e o fault is = ap₂ (λ (p : Operation) (a : Answer). has_fault such p a) is fault

pub faults_read : (h : List HistoryEntry) (e : HistoryEntry) (stopped : Option Why) (opening now then : ℕ)
    → TellsFaults h stopped opening now → now ≤ then → Rose now then → e.reply ≡ Fault → operation_of e.what ≡ Reading
    → TellsFaults (h ++ e ∷ []) stopped opening then
faults_read h e stopped opening now then counts more rose fault reads =
    let l = counts.later in
    let both = count_more (is_faulted is_data) h (e ∷ []) in
    let read = count_more (is_faulted is_reading) h (e ∷ []) in
    let one : count_by (is_faulted is_data) (e ∷ []) ≡ 1 =
    count_one (is_faulted is_data) e (faulted_is is_data e Reading fault reads) in
    let first : count_by (is_faulted is_reading) (e ∷ []) ≡ 1 =
    count_one (is_faulted is_reading) e (faulted_is is_reading e Reading fault reads) in
    let none : list_any (is_faulted is_flushing) (e ∷ []) ≡ false =
    ap (λ (b : Bool). b || false) (faulted_is is_flushing e Reading fault reads) in
    let any : list_any (is_faulted is_flushing) (h ++ e ∷ []) ≡ list_any (is_faulted is_flushing) h =
    list_any-append (is_faulted is_flushing) h (e ∷ [])
    ∙ ap (λ (b : Bool). list_any (is_faulted is_flushing) h || b) none
    ∙ or_false (list_any (is_faulted is_flushing) h) in
    let same : tally (list_any (is_faulted is_flushing) (h ++ e ∷ [])) ≡ tally (list_any (is_faulted is_flushing) h) =
    ap tally any in
    record {
      later = omega (arith, more);
      told = λ small. (let t = counts.told (omega (arith, rose)) in omega (arith, rose, both, one, same, t));
      cause = λ small why. (let t = counts.cause (omega (arith, rose)) why in omega (arith, rose, read, first, t));
    }

-- FLUSHES THAT FAILED tell one fault together
calm_flushes : (h : List HistoryEntry) → AreCalm h → list_any (is_faulted is_flushing) h ≡ false
calm_flushes [] calm = refl
calm_flushes (e ∷ h) calm =
    ap₂ (λ (a b : Bool). a || b) (by (operation_of e.what) e.reply calm.0) (calm_flushes h calm.1)
  where
    by : (o : Operation) (a : Answer) → (a ≡ Fault → o ≡ Reading) → has_fault is_flushing o a ≡ false
    by o (Got bytes) is = refl
    by o Done is = refl
    by o Range is = refl
    by Reading Fault is = refl
    by Writing Fault is = refl
    by Discarding Fault is = refl
    by Flushing Fault is = absurd (let no = is refl in let f : ⊥ = cc in f)

flush_of : (w : What) → w ≡ Flush → operation_of w ≡ Flushing
flush_of w is = ap operation_of is

failed_counted : (at : ℕ) (such : Operation → Bool) → such Flushing ≡ false → (es : List HistoryEntry)
    → AllByRecursion (IsFailedFlushAt at) es → count_by (is_faulted such) es ≡ 0
failed_counted at such off [] all = refl
failed_counted at such off (e ∷ es) all =
    count_passed (is_faulted such) e es
    (faulted_is such e Flushing all.0.failed.1 (flush_of e.what all.0.failed.0) ∙ off)
    (failed_counted at such off es all.1)

one_most : (b : Bool) → tally b ≤ 1
one_most true = omega arith
one_most false = omega arith

pub faults_flushes : (at : ℕ) (h es : List HistoryEntry) (stopped : Option Why) (opening now then : ℕ)
    → TellsFaults h stopped opening now → AreCalm h → now ≤ then → Rose now then
    → AllByRecursion (IsFailedFlushAt at) es
    → TellsFaults (h ++ es) (Some Why.Device) opening then
faults_flushes at h es stopped opening now then counts calm more rose all =
    let l = counts.later in
    let both = count_more (is_faulted is_data) h es in
    let read = count_more (is_faulted is_reading) h es in
    let none = failed_counted at is_data refl es all in
    let no = failed_counted at is_reading refl es all in
    let few = read_few h in
    let one = one_most (list_any (is_faulted is_flushing) (h ++ es)) in
    let before : tally (list_any (is_faulted is_flushing) h) ≡ 0 = ap tally (calm_flushes h calm) in
    record {
      later = omega (arith, more);
      told = λ small. (let t = counts.told (omega (arith, rose)) in omega (arith, rose, both, none, one, before, t));
      cause = λ small why. (let t = counts.told (omega (arith, rose)) in omega (arith, rose, read, no, few, t));
    }
