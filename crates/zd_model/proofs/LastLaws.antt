-- What an entry makes of one sector; and that what is there last may be held.
use Rattle.std.proofs.Common.{◌≡◌, ◌⊎◌, ℕ, ◌+◌, ◌-◌, ◌<◌, ◌≤◌, Bool, true, false, cond, List, [], ◌∷◌}
use Rattle.std.proofs.Common.{◌++◌, length, map, slice_index_or, Option, Some, None, IsSomeAnd, refl, sym}
use Rattle.std.proofs.Common.{ap, ◌∙◌, subst, inl, inr, arith, append_assoc}
use Rattle.std.proofs.lemmas.Bool.{cases_lt, le-leb}
use Rattle.std.proofs.lemmas.List.{append-nil}
use Rattle.std.proofs.lemmas.List.FromFn.{get_or-map-range_with_len, length-map-range_with_len}
use Rattle.std.specs.List.{AllByRecursion, range_with_len}
use Rattle.zd_model.specs.Bytes.{overwrite, zero_sector}
use Rattle.zd_model.specs.History.{HistoryEntry, entry_after, last_array}
use Rattle.zd_model.specs.Plain.{Answer, array_after, ends_past, put_by}
use Rattle.zd_model.specs.Plain.Answer.{Got, Done, Range, Fault}
use Rattle.zd_model.specs.Requests.{first_sector, operation_of, sector_count}
use Rattle.zd_model.specs.Stops.{AreBy, Covers, IsFlushAt, MayCount, MayHold, Puts, SomePuts, flushed}
use Rattle.zd_model.specs.Stops.{is_acknowledged, unflushed}
use Rattle.zd_model.specs.declared.requests.What.{What}
use Rattle.zd_model.specs.declared.requests.What.TheVariants.{Read, Write, Discard, Flush}
use Rattle.zd_model.specs.declared.requests.What.TheVariants.{ReadSectors, WriteSectors}
use Rattle.zd_model.proofs.ArrayLaws.{ends_within, flushed_all, length-entry_after, length-last_array}
use Rattle.zd_model.proofs.ArrayLaws.{overwrite_before, overwrite_behind, overwrite_inside}
use Rattle.zd_model.proofs.HeldLaws.{AreBy-behind, past}
use Rattle.zd_model.proofs.HistoryLaws.{last_array-push}
use Rattle.zd_model.proofs.StopLaws.{parted}

-- sector i is before or behind those that the request touches
abbrev pub IsOutside : What → ℕ → Type 0
IsOutside what i = (i < first_sector what) ⊎ (first_sector what + sector_count what ≤ i)

-- one or the other
pub covers_cases : (what : What) (i : ℕ) → Covers what i ⊎ IsOutside what i
covers_cases what i = elim (cases_lt i (first_sector what)) [
  | inl before ↦ inr (inl before)
  | inr from ↦ elim (cases_lt i (first_sector what + sector_count what)) [
    | inl in_it ↦ inl (from, in_it)
    | inr behind ↦ inr (inr behind)
  ]
]

-- a request in range, of which this is put into its sectors
module _ (array : List (List ℕ)) (what : What) (fits : ends_past (length array) what ≡ false) where
  module _ (put : ℕ → List ℕ) where
    abbrev new_sectors : List (List ℕ)
    new_sectors = map put (range_with_len (first_sector what) (sector_count what))

    size : length new_sectors ≡ sector_count what
    size = length-map-range_with_len put (first_sector what) (sector_count what)

    inside : first_sector what + length new_sectors ≤ length array
    inside = (let room = ends_within (length array) what fits in omega (arith, size, room))

    abbrev overwritten : List (List ℕ)
    overwritten = overwrite array (first_sector what) new_sectors

    is_overwritten : put_by what ≡ Some put → array_after array what ≡ overwritten
    is_overwritten puts = rw (fits, puts) refl

    -- it is there
    pub put_in : (i : ℕ) → put_by what ≡ Some put → Covers what i
        → slice_index_or (array_after array what) i zero_sector ≡ put i
    put_in i puts covers =
        ap (λ (xs : List (List ℕ)). slice_index_or xs i zero_sector) (is_overwritten puts)
        ∙ overwrite_inside array (first_sector what) new_sectors inside i zero_sector covers.0
        (omega (arith, size, covers.1))
        ∙ (let low = covers.0 in let high = covers.1 in
        get_or-map-range_with_len put (first_sector what) (sector_count what) (i - first_sector what) i
        zero_sector (omega arith) (omega arith))

    over_outside : (i : ℕ) → IsOutside what i
        → slice_index_or overwritten i zero_sector ≡ slice_index_or array i zero_sector
    over_outside i (inl before) =
        overwrite_before array (first_sector what) new_sectors inside i zero_sector before
    over_outside i (inr behind) =
        overwrite_behind array (first_sector what) new_sectors inside i zero_sector (omega (arith, size, behind))

  by_put : (put : Option (ℕ → List ℕ)) (i : ℕ) → put_by what ≡ put → IsOutside what i
      → slice_index_or (array_after array what) i zero_sector ≡ slice_index_or array i zero_sector
  by_put None i puts off = rw (fits, puts) refl
  by_put (Some put) i puts off =
      ap (λ (xs : List (List ℕ)). slice_index_or xs i zero_sector) (is_overwritten put puts) ∙ over_outside put i off

  -- other sectors stay, whatever the request
  pub put_off : (i : ℕ) → IsOutside what i
      → slice_index_or (array_after array what) i zero_sector ≡ slice_index_or array i zero_sector
  put_off i off = by_put (put_by what) i refl off

  -- and where it puts nothing, all stay
  pub put_none : put_by what ≡ None → array_after array what ≡ array
  put_none none = rw (fits, none) refl

-- an operation that puts something counts once it is done
counts : (k : ℕ) (e : HistoryEntry) (what : What) (put : ℕ → List ℕ) → put_by what ≡ Some put → e.at ≤ k
    → e.reply ≡ Done → MayCount (operation_of what) k e
counts k e (Read block count) put puts by done = cc
counts k e (Write block count seed) put puts by done = (omega arith, inl done)
counts k e (Discard block count) put puts by done = (by, done)
counts k e Flush put puts by done = cc
counts k e (ReadSectors sector count) put puts by done = cc
counts k e (WriteSectors sector count seed) put puts by done = (omega arith, inl done)

-- WHAT IS THERE may be held
module _ (k i : ℕ) where
  -- a value that the entry puts, or the one before it
  abbrev IsPutOrOld : List (List ℕ) → HistoryEntry → List (List ℕ) → Type 0
  IsPutOrOld array e after =
      (slice_index_or after i zero_sector ≡ slice_index_or array i zero_sector)
      ⊎ ((ends_past (length array) e.what ≡ false) × Puts k i (slice_index_or after i zero_sector) e)

  in_range : (array : List (List ℕ)) (e : HistoryEntry) (put : Option (ℕ → List ℕ)) → put_by e.what ≡ put
      → ends_past (length array) e.what ≡ false → e.at ≤ k → e.reply ≡ Done
      → IsPutOrOld array e (array_after array e.what)
  in_range array e None puts fits by done =
      inl (ap (λ (xs : List (List ℕ)). slice_index_or xs i zero_sector) (put_none array e.what fits puts))
  in_range array e (Some put) puts fits by done = elim (covers_cases e.what i) [
    | inl covers ↦ inr (
      fits,
      (
        counts k e e.what put puts by done,
        covers,
        subst (λ (o : Option (ℕ → List ℕ)).
            IsSomeAnd o (λ p. slice_index_or (array_after array e.what) i zero_sector ≡ p i)) (sym puts)
            (put_in array e.what fits put i puts covers),
      ),
    )
    | inr off ↦ inl (put_off array e.what fits i off)
  ]

  done_turns : (array : List (List ℕ)) (e : HistoryEntry) (b : Bool) → e.at ≤ k → e.reply ≡ Done
      → ends_past (length array) e.what ≡ b → IsPutOrOld array e (array_after array e.what)
  done_turns array e true by done past_end = inl (rw past_end refl)
  done_turns array e false by done fits = in_range array e (put_by e.what) refl fits by done

  turns : (array : List (List ℕ)) (e : HistoryEntry) (reply : Answer) → e.at ≤ k → e.reply ≡ reply
      → IsPutOrOld array e (entry_after array e.what reply)
  turns array e (Got bytes) by is = inl refl
  turns array e Done by is = done_turns array e (ends_past (length array) e.what) by is refl
  turns array e Range by is = inl refl
  turns array e Fault by is = inl refl

  all_turn : (array : List (List ℕ)) (h : List HistoryEntry) → AreBy k h
      → (slice_index_or (last_array array h) i zero_sector ≡ slice_index_or array i zero_sector)
      ⊎ SomePuts (length array) k i (slice_index_or (last_array array h) i zero_sector) h
  all_turn array [] by = inl refl
  all_turn array (e ∷ h) by =
      let after : List (List ℕ) = entry_after array e.what e.reply in
      let same_size : length after ≡ length array = length-entry_after array e.what e.reply in
      elim (all_turn after h by.1) [
        | inl same ↦ elim (turns array e e.reply by.0 refl) [
          | inl before ↦ inl (same ∙ before)
          | inr put ↦ inr (inl (put.0, subst (λ (v : List ℕ). Puts k i v e) (sym same) put.1))
        ]
        | inr some ↦ inr (inr
            (subst (λ (n : ℕ). SomePuts n k i (slice_index_or (last_array after h) i zero_sector) h) same_size some))
      ]

-- a history in two parts
pub last_array-append : (base : List (List ℕ)) (g h : List HistoryEntry)
    → last_array base (g ++ h) ≡ last_array (last_array base g) h
last_array-append base [] h = refl
last_array-append base (e ∷ g) h = last_array-append (entry_after base e.what e.reply) g h

pub last_may : (base : List (List ℕ)) (h : List HistoryEntry) (k i : ℕ) → AreBy k h
    → MayHold base h k i (slice_index_or (last_array base h) i zero_sector)
last_may base h k i by =
    let g : List HistoryEntry = flushed k h in
    let rest : List HistoryEntry = unflushed k h in
    let whole : h ≡ g ++ rest = (parted k h).0 in
    let split : last_array base h ≡ last_array (last_array base g) rest =
    ap (last_array base) whole ∙ last_array-append base g rest in
    let by_rest : AreBy k rest = AreBy-behind k g rest (subst (λ (xs : List HistoryEntry). AreBy k xs) whole by) in
    subst (λ (a : List (List ℕ)). MayHold base h k i (slice_index_or a i zero_sector)) (sym split)
    (elim (all_turn k i (last_array base g) rest by_rest) [
      | inl same ↦ inl same
      | inr some ↦ inr (subst
          (λ (n : ℕ). SomePuts n k i (slice_index_or (last_array (last_array base g) rest) i zero_sector) rest)
          (length-last_array base g) some)
    ])

-- FLUSHES THAT WERE DONE leave the array as it was
flush_same : (array : List (List ℕ)) (at : ℕ) (e : HistoryEntry) → IsFlushAt at e
    → entry_after array e.what e.reply ≡ array
flush_same array at e is = rw (is.flush, is.done) (either (ends_past (length array) Flush))
  where
    either : (b : Bool) → cond b array array ≡ array
    either true = refl
    either false = refl

pub last_stays : (base : List (List ℕ)) (h : List HistoryEntry) (at : ℕ) (e : HistoryEntry) → IsFlushAt at e
    → last_array base (h ++ e ∷ []) ≡ last_array base h
last_stays base h at e is = last_array-push base h e ∙ flush_same (last_array base h) at e is

one_by_one : (h : List HistoryEntry) (e : HistoryEntry) (es : List HistoryEntry)
    → h ++ e ∷ es ≡ (h ++ e ∷ []) ++ es
one_by_one h e es = sym (append_assoc h (e ∷ []) es)

pub lasts_stay : (base : List (List ℕ)) (at : ℕ) (h es : List HistoryEntry)
    → AllByRecursion (IsFlushAt at) es → last_array base (h ++ es) ≡ last_array base h
lasts_stay base at h [] all = ap (last_array base) (append-nil h)
lasts_stay base at h (e ∷ es) all =
    ap (last_array base) (one_by_one h e es) ∙ lasts_stay base at (h ++ e ∷ []) es all.1
    ∙ last_stays base h at e all.0

-- before their moment they only add
pub pasts : (base : List (List ℕ)) (at k i : ℕ) (v : List ℕ) (h es : List HistoryEntry)
    → AllByRecursion (IsFlushAt at) es → k < at → MayHold base h k i v → MayHold base (h ++ es) k i v
pasts base at k i v h [] all early may =
    subst (λ (x : List HistoryEntry). MayHold base x k i v) (sym (append-nil h)) may
pasts base at k i v h (e ∷ es) all early may =
    subst (λ (x : List HistoryEntry). MayHold base x k i v) (sym (one_by_one h e es))
    (pasts base at k i v (h ++ e ∷ []) es all.1 early (past base h e k i v (omega (arith, all.0.when)) may))

-- at their moment what is there stands alone
pub flush_resets : (base : List (List ℕ)) (h : List HistoryEntry) (e : HistoryEntry) (at k i : ℕ)
    → IsFlushAt at e → at ≤ k
    → MayHold base (h ++ e ∷ []) k i (slice_index_or (last_array base h) i zero_sector)
flush_resets base h e at k i is by =
    let there : is_acknowledged k e ≡ true =
    rw (is.flush, is.done) (le-leb e.at k (omega (arith, is.when))) in
    inl (ap (λ (a : List (List ℕ)). slice_index_or a i zero_sector) (sym (last_stays base h at e is))
    ∙ ap (λ (xs : List HistoryEntry). slice_index_or (last_array base xs) i zero_sector)
    (sym (flushed_all k h e there)))

pub flushes_reset : (base : List (List ℕ)) (at i : ℕ) (h es : List HistoryEntry)
    → AllByRecursion (IsFlushAt at) es
    → MayHold base h at i (slice_index_or (last_array base h) i zero_sector)
    → MayHold base (h ++ es) at i (slice_index_or (last_array base h) i zero_sector)
flushes_reset base at i h [] all may =
    subst (λ (x : List HistoryEntry). MayHold base x at i (slice_index_or (last_array base h) i zero_sector))
    (sym (append-nil h)) may
flushes_reset base at i h (e ∷ es) all may =
    let same = last_stays base h at e all.0 in
    let first : MayHold base (h ++ e ∷ []) at i
    (slice_index_or (last_array base (h ++ e ∷ [])) i zero_sector) =
    rw same (flush_resets base h e at at i all.0 (omega arith)) in
    subst (λ (x : List HistoryEntry). MayHold base x at i (slice_index_or (last_array base h) i zero_sector))
    (sym (one_by_one h e es))
    (subst (λ (a : List (List ℕ)). MayHold base ((h ++ e ∷ []) ++ es) at i (slice_index_or a i zero_sector)) same
    (flushes_reset base at i (h ++ e ∷ []) es all.1 first))
