-- What one more entry says of a value in a sector.
use Rattle.std.proofs.Common.{◌≡◌, ◌↔◌, ◌⊎◌, ℕ, ◌+◌, ◌*◌, ◌/◌, ◌<◌, Bool, true, false, cond, ◌&&◌, List, []}
use Rattle.std.proofs.Common.{◌∷◌, ◌++◌, length, take}
use Rattle.std.proofs.Common.{IsTrue, Option, Some, None, IsSomeAnd, refl, sym, ap, ◌∙◌, subst, inl, inr, arith}
use Rattle.std.proofs.lemmas.List.{take_more}
use Rattle.std.proofs.lemmas.Option.{get_or_from_slice_get, slice_get_within}
use Rattle.std.proofs.lemmas.List.FromFn.{get_or-map-range_with_len}
use Rattle.std.specs.List.{slice_get, slice_range}
use Rattle.zd_model.specs.Bytes.{sectors_of, zero_sector}
use Rattle.zd_model.specs.History.{HistoryEntry, entry_after, last_array}
use Rattle.zd_model.specs.Plain.{Answer, put_by}
use Rattle.zd_model.specs.Plain.Answer.{Got, Done, Range, Fault}
use Rattle.zd_model.specs.Requests.{operation_of}
use Rattle.zd_model.specs.Safe.{last_at}
use Rattle.zd_model.specs.Stops.{MayCount, MayHold, SomePuts, is_acknowledged, is_done_flush}
use Rattle.zd_model.specs.declared.requests.What.{What}
use Rattle.zd_model.specs.declared.requests.What.TheVariants.{Read, Write, Discard, Flush, ReadSectors, WriteSectors}
use Rattle.zd_model.proofs.ArrayLaws.{flushed_all, length-last_array, unflushed_none}
use Rattle.zd_model.proofs.HistoryLaws.{Adds, last_array-push, may_hold-new, may_hold-old, may_hold-push}
use Rattle.zd_hold.specs.Held.{now_after}
use Rattle.zd_hold.specs.Puts.{put_at}
use Rattle.zd_hold.proofs.PutLaws.{PutsValue, found, is_found, is_put, stays, value_at}

-- a test that says the same of another value
same_test : (b : Bool) (value old new : List ℕ) → new ≡ old → IsTrue b ↔ (value ≡ old) → IsTrue b ↔ (value ≡ new)
same_test b value old new e h = subst (λ (v : List ℕ). IsTrue b ↔ (value ≡ v)) (sym e) h

some_same : (a b : List ℕ) → ◌≡◌ {A = Option (List ℕ)} (Some a) (Some b) → a ≡ b
some_same a b is = cc

-- an acknowledged flush puts nothing
pub flush_none : (sectors k i : ℕ) (e : HistoryEntry) → is_acknowledged k e ≡ true → put_at sectors e.what i ≡ None
flush_none sectors k i e is = by_what e.what e.reply (first_part (is_done_flush e.what e.reply) _ is)
  where
    first_part : (a b : Bool) → (a && b) ≡ true → a ≡ true
    first_part true b both = refl
    first_part false b both = cc

    no_put : (b : Bool) → ◌≡◌ {A = Option (List ℕ)} (cond b None None) None
    no_put true = refl
    no_put false = refl

    by_what : (what : What) (reply : Answer) → is_done_flush what reply ≡ true → put_at sectors what i ≡ None
    by_what (Read block count) reply done = cc
    by_what (Write block count seed) reply done = cc
    by_what (Discard block count) reply done = cc
    by_what (ReadSectors sector count) reply done = cc
    by_what (WriteSectors sector count seed) reply done = cc
    by_what Flush reply done = no_put _

module _ (base : List (List ℕ)) (h : List HistoryEntry) (e : HistoryEntry) (k i : ℕ) (value : List ℕ) where
  abbrev after : List HistoryEntry
  after = h ++ e ∷ []

  size : length (last_array base h) ≡ length base
  size = length-last_array base h

  -- THE PLAIN ARRAY
  module _ (none : put_at (length base) e.what i ≡ None) where
    same_array : (reply : Answer) → value_at (entry_after (last_array base h) e.what reply) i ≡ last_at base h i
    same_array (Got bytes) = refl
    same_array Done = stays (last_array base h) e.what i (ap (λ n. put_at n e.what i) size ∙ none)
    same_array Range = refl
    same_array Fault = refl

    stays_there : last_at base after i ≡ last_at base h i
    stays_there = ap (λ (xs : List (List ℕ)). value_at xs i) (last_array-push base h e) ∙ same_array e.reply

    pub now_stays : (b : Bool) → IsTrue b ↔ (value ≡ last_at base h i) → IsTrue b ↔ (value ≡ last_at base after i)
    now_stays b before = same_test b value (last_at base h i) (last_at base after i) stays_there before

  module _ (put : List ℕ) (is : put_at (length base) e.what i ≡ Some put) where
    put_there : value_at (entry_after (last_array base h) e.what Done) i ≡ put
    put_there = is_put (last_array base h) e.what i put (ap (λ n. put_at n e.what i) size ∙ is)

    by_reply : (reply : Answer) (before same : Bool) → IsTrue before ↔ (value ≡ last_at base h i)
        → IsTrue same ↔ (value ≡ put)
        → IsTrue (now_after before reply same) ↔ (value ≡ value_at (entry_after (last_array base h) e.what reply) i)
    by_reply (Got bytes) before same old new = old
    by_reply Done before same old new = same_test same value put _ put_there new
    by_reply Range before same old new = old
    by_reply Fault before same old new = old

    pub now_put : (before same : Bool) → IsTrue before ↔ (value ≡ last_at base h i) → IsTrue same ↔ (value ≡ put)
        → IsTrue (now_after before e.reply same) ↔ (value ≡ last_at base after i)
    now_put before same old new =
        same_test (now_after before e.reply same) value _ _
        (ap (λ (xs : List (List ℕ)). value_at xs i) (last_array-push base h e)) (by_reply e.reply before same old new)

  -- WHAT MAY BE THERE
  -- at an acknowledged flush what the plain array has
  module _ (is : is_acknowledged k e ≡ true) where
    at_flush : MayHold base after k i value → value ≡ last_at base after i
    at_flush (inl flushed) = flushed ∙ ap (λ xs. last_at base xs i) (flushed_all k h e is)
    at_flush (inr puts) = absurd (subst (SomePuts (length base) k i value) (unflushed_none k h e is) puts)

    from_flush : value ≡ last_at base after i → MayHold base after k i value
    from_flush last = inl (last ∙ sym (ap (λ xs. last_at base xs i) (flushed_all k h e is)))

    pub may_flush : (b : Bool) → IsTrue b ↔ (value ≡ last_at base h i) → IsTrue b ↔ MayHold base after k i value
    may_flush b now =
        let last = now_stays (flush_none (length base) k i e is) b now in
        (λ holds. from_flush (last.0 holds), λ may. last.1 (at_flush may))

  -- else what was there before, or what the entry adds
  module _ (no : is_acknowledged k e ≡ false) where
    pub may_stay : put_at (length base) e.what i ≡ None → (b : Bool) → IsTrue b ↔ MayHold base h k i value
        → IsTrue b ↔ MayHold base after k i value
    may_stay none b may = (
      λ holds. may_hold-old base h e k i value no (may.0 holds),
      λ later. by_parts (may_hold-push base h e k i value no later),
    )
      where
        by_parts : MayHold base h k i value ⊎ Adds (length base) k i value e → IsTrue b
        by_parts (inl old) = may.1 old
        by_parts (inr adds) =
            let puts : PutsValue (length base) e.what i value =
            record { fits = adds.0; covers = adds.1.1; put = adds.1.2 } in
            let some = is_found (length base) e.what i value puts in cc

    module _ (put : List ℕ) (is : put_at (length base) e.what i ≡ Some put) where
      puts : PutsValue (length base) e.what i put
      puts = found (length base) e.what i put is

      adds : value ≡ put → MayCount (operation_of e.what) k e → Adds (length base) k i value e
      adds same counted = (
        puts.fits,
        (counted, puts.covers, subst (λ (v : List ℕ). IsSomeAnd (put_by e.what) (λ p. v ≡ p i)) (sym same) puts.put),
      )

      value_is : Adds (length base) k i value e → value ≡ put
      value_is a =
          some_same value put
          (sym (is_found (length base) e.what i value (record { fits = a.0; covers = a.1.1; put = a.1.2 })) ∙ is)

      pub may_add : (before same b : Bool) → IsTrue before ↔ MayHold base h k i value → IsTrue same ↔ (value ≡ put)
          → IsTrue b ↔ (IsTrue before ⊎ (IsTrue same × MayCount (operation_of e.what) k e))
          → IsTrue b ↔ MayHold base after k i value
      may_add before same b may new sum = (
        λ holds. forth (sum.0 holds),
        λ later. sum.1 (back (may_hold-push base h e k i value no later)),
      )
        where
          forth : IsTrue before ⊎ (IsTrue same × MayCount (operation_of e.what) k e) → MayHold base after k i value
          forth (inl old) = may_hold-old base h e k i value no (may.0 old)
          forth (inr now) = may_hold-new base h e k i value no (adds (new.0 now.0) now.1)

          back : MayHold base h k i value ⊎ Adds (length base) k i value e
              → IsTrue before ⊎ (IsTrue same × MayCount (operation_of e.what) k e)
          back (inl old) = inl (may.1 old)
          back (inr a) = inr (new.1 (value_is a), a.1.0)

-- BEFORE ANY ENTRY a sector holds what the base has there
module _ (base : List ℕ) (k i : ℕ) (value : List ℕ) (there : i < length base / 512) (b : Bool)
    (same : IsTrue b ↔ (value ≡ slice_range base (512 * i) (512 * i + 512))) where
  pub now_first : IsTrue b ↔ (value ≡ last_at (sectors_of base) [] i)
  now_first =
      same_test b value _ _
      (get_or-map-range_with_len (λ j. slice_range base (512 * j) (512 * j + 512)) 0 (length base / 512) i i zero_sector
      there (omega arith))
      same

  pub may_first : IsTrue b ↔ MayHold (sectors_of base) [] k i value
  may_first = (
    λ holds. inl (now_first.0 holds),
    λ may. elim may [ inl first ↦ now_first.1 first | inr none ↦ absurd none ],
  )

-- the entries with the next one
pub take_next : (h : List HistoryEntry) (i : ℕ) (e : HistoryEntry) → slice_get h i ≡ Some e
    → take (i + 1) h ≡ take i h ++ e ∷ []
take_next h i e here =
    take_more h i e (slice_get_within h i e here)
    ∙ ap (λ (x : HistoryEntry). take i h ++ x ∷ []) (get_or_from_slice_get h i e e here)
