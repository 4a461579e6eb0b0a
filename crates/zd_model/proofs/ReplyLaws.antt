-- A plain array of sectors stays one, and what it replies can be reported.
use Rattle.std.proofs.Common.{◌≡◌, ℕ, zero, suc, ◌+◌, ◌-◌, ◌*◌, ◌<◌, ◌≤◌, Bool, true, false, cond}
use Rattle.std.proofs.Common.{List, [], ◌∷◌, ◌++◌, length, map, take, drop, refl, sym, ap, Option, Some}
use Rattle.std.proofs.Common.{None, slice_range, ◌∙◌, arith, inl, inr, All, subst}
use Rattle.std.specs.List.{AllByRecursion, concat, range_with_len}
use Rattle.std.specs.Option.{option_map_or}
use Rattle.std.proofs.lemmas.List.{length-append, length-drop, length-take-le}
use Rattle.zd_model.specs.Bytes.{IsSector, overwrite}
use Rattle.zd_model.specs.History.{HistoryEntry, AllAnswer, entry_after, last_array}
use Rattle.zd_model.specs.Requests.{Operation, first_sector, operation_of, sector_count}
use Rattle.zd_model.specs.Requests.Operation.{Reading, Writing, Discarding, Flushing}
use Rattle.zd_model.specs.Plain.{Answer, answer_in_range, ends_past, put_by, reply_within, reply_to}
use Rattle.zd_model.specs.Plain.{within_after}
use Rattle.zd_model.specs.Plain.Answer.{Got, Done, Range, Fault}
use Rattle.zd_model.specs.Report.{HasReply, IsReported, IsReplyOf}
use Rattle.zd_model.specs.declared.requests.What.{What}
use Rattle.zd_model.specs.declared.requests.What.TheVariants.{Read, Write, Discard, Flush}
use Rattle.zd_model.specs.declared.requests.What.TheVariants.{ReadSectors, WriteSectors}
use Rattle.zd_model.proofs.ArrayLaws.{ends_within}
use Rattle.zd_model.proofs.SectorLaws.{each-append, pattern-sector, zero_sector-sector}

abbrev pub AreSectors : List (List ℕ) → Type 0
AreSectors xs = AllByRecursion IsSector xs

-- each element, where it is known by its place
pub each-from : {X : Type 0} (P : X → Type 0) (xs : List X) → All P xs → AllByRecursion P xs
each-from P [] h = tt
each-from P (x ∷ xs) h = (h 0 x (omega arith), each-from P xs (λ k d low. h (suc k) d (omega arith)))

each-take : {X : Type 0} (P : X → Type 0) (n : ℕ) (xs : List X) → AllByRecursion P xs → AllByRecursion P (take n xs)
each-take P zero xs h = tt
each-take P (suc n) [] h = tt
each-take P (suc n) (x ∷ xs) h = (h.0, each-take P n xs h.1)

each-drop : {X : Type 0} (P : X → Type 0) (n : ℕ) (xs : List X) → AllByRecursion P xs → AllByRecursion P (drop n xs)
each-drop P zero xs h = h
each-drop P (suc n) [] h = tt
each-drop P (suc n) (x ∷ xs) h = each-drop P n xs h.1

each-map : {X : Type 0} (P : X → Type 0) (f : ℕ → X) → ((i : ℕ) → P (f i)) → (a n : ℕ) → AllByRecursion P (map f (range_with_len a n))
each-map P f h a zero = tt
each-map P f h a (suc n) = (h a, each-map P f h (a + 1) n)

-- sectors joined
concat-bytes : (xs : List (List ℕ)) → AreSectors xs → AllByRecursion (λ b. b < 256) (concat xs)
concat-bytes [] h = tt
concat-bytes (x ∷ xs) h = each-append (λ b. b < 256) x (concat xs) (each-from (λ b. b < 256) x h.0.1) (concat-bytes xs h.1)

length-concat : (xs : List (List ℕ)) → AreSectors xs → length (concat xs) ≡ 512 * length xs
length-concat [] h = refl
length-concat (x ∷ xs) h = length-append x (concat xs) ∙ (let one = h.0.0 in let rest = length-concat xs h.1 in omega arith)

-- what is put are sectors
PutsSectors : Option (ℕ → List ℕ) → Type 0
PutsSectors None = Unit {0}
PutsSectors (Some put) = (i : ℕ) → IsSector (put i)

put-sectors : (what : What) → PutsSectors (put_by what)
unfolding PutsSectors
put-sectors (Read b n) = tt
put-sectors (Write b n s) = pattern-sector s
put-sectors (Discard b n) = λ i. zero_sector-sector
put-sectors Flush = tt
put-sectors (ReadSectors i n) = tt
put-sectors (WriteSectors i n s) = pattern-sector s

over-sectors : (array : List (List ℕ)) (first n : ℕ) (put : Option (ℕ → List ℕ)) → AreSectors array → PutsSectors put
    → AreSectors (option_map_or (λ p. overwrite array first (map p (range_with_len first n))) put array)
unfolding PutsSectors
over-sectors array first n None h puts = h
over-sectors array first n (Some p) h puts =
    let before = each-take IsSector first array h in
    let new = each-map IsSector p puts first n in
    each-append IsSector (take first array ++ map p (range_with_len first n)) _
    (each-append IsSector (take first array) _ before new) (each-drop IsSector _ array h)

pub within-sectors : (array : List (List ℕ)) (what : What) → AreSectors array → AreSectors (within_after array what)
within-sectors array what h =
    over-sectors array (first_sector what) (sector_count what) (put_by what) h (put-sectors what)

pub entry-sectors : (array : List (List ℕ)) (what : What) (reply : Answer) → AreSectors array → AreSectors (entry_after array what reply)
entry-sectors array what (Got bytes) h = h
entry-sectors array what Done h = by_test (ends_past (length array) what)
  where
    by_test : (b : Bool) → AreSectors (cond b array (within_after array what))
    by_test true = h
    by_test false = within-sectors array what h
entry-sectors array what Range h = h
entry-sectors array what Fault h = h

-- the bytes of n sectors
AreBytesOf : ℕ → List ℕ → Type 0
AreBytesOf n bytes = (length bytes ≡ 512 * n) × AllByRecursion (λ b. b < 256) bytes

bytes_between : (array : List (List ℕ)) (first n : ℕ) → AreSectors array → first + n ≤ length array
    → AreBytesOf n (concat (slice_range array first (first + n)))
unfolding AreBytesOf
bytes_between array first n h within =
    let part : List (List ℕ) = take (first + n - first) (drop first array) in
    let sectors : AreSectors part = each-take IsSector _ (drop first array) (each-drop IsSector first array h) in
    let size : length part ≡ n = length-take-le (first + n - first) (drop first array) (omega (arith, length-drop first array)) ∙ omega arith in
    (length-concat part sectors ∙ ap (λ (m : ℕ). 512 * m) size, concat-bytes part sectors)

answer-told : (operation : Operation) (n : ℕ) (bytes : List ℕ) → AreBytesOf n bytes
    → IsReplyOf operation n (answer_in_range operation bytes)
unfolding AreBytesOf
answer-told Reading n bytes h = h
answer-told Writing n bytes h = tt
answer-told Discarding n bytes h = tt
answer-told Flushing n bytes h = tt

range-told : (operation : Operation) (n : ℕ) → IsReplyOf operation n Range
range-told Reading n = tt
range-told Writing n = tt
range-told Discarding n = tt
range-told Flushing n = tt

pub fault-told : (operation : Operation) (n : ℕ) → IsReplyOf operation n Fault
fault-told Reading n = tt
fault-told Writing n = tt
fault-told Discarding n = tt
fault-told Flushing n = tt

pub plain-reported : (array : List (List ℕ)) (what : What) → AreSectors array → HasReply what (reply_to array what)
plain-reported array what h = by_test (ends_past (length array) what) refl
  where
    by_test : (b : Bool) → ends_past (length array) what ≡ b → HasReply what (cond b Range (reply_within array what))
    by_test true e = range-told (operation_of what) (sector_count what)
    by_test false e =
        answer-told (operation_of what) (sector_count what) _
        (bytes_between array (first_sector what) (sector_count what) h (ends_within (length array) what e))

fault-reported : (what : What) → HasReply what Fault
fault-reported what = fault-told (operation_of what) (sector_count what)

-- each entry of a history of sectors can be reported
pub answers-reported : (array : List (List ℕ)) (history : List HistoryEntry) → AreSectors array → AllAnswer array history → AllByRecursion IsReported history
answers-reported array [] h answers = tt
answers-reported array (e ∷ history) h answers = (
  elim answers.0 [
    | inl plain ↦ subst (HasReply e.what) (sym plain) (plain-reported array e.what h)
    | inr failed ↦ subst (HasReply e.what) (sym failed.0) (fault-reported e.what)
  ],
  answers-reported (entry_after array e.what e.reply) history (entry-sectors array e.what e.reply h) answers.1,
)

pub last-sectors : (base : List (List ℕ)) (history : List HistoryEntry) → AreSectors base → AreSectors (last_array base history)
last-sectors base [] h = h
last-sectors base (e ∷ history) h = last-sectors (entry_after base e.what e.reply) history (entry-sectors base e.what e.reply h)
