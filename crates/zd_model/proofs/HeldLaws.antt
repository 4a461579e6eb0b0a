-- What a sector may hold, as a history grows and as time goes on.
use Rattle.std.proofs.Common.{◌≡◌, ℕ, ◌<◌, ◌≤◌, Bool, true, false, cond, ◌&&◌, ◌||◌, leb}
use Rattle.std.proofs.Common.{List, [], ◌∷◌, ◌++◌, length, slice_index_or, refl, sym, ap, ap₂, ◌∙◌}
use Rattle.std.proofs.Common.{subst, inl, inr, arith}
use Rattle.std.proofs.lemmas.Bool.{le-leb, lt-leb}
use Rattle.std.specs.List.{list_any}
use Rattle.zd_model.specs.Bytes.{zero_sector}
use Rattle.zd_model.specs.History.{HistoryEntry, last_array}
use Rattle.zd_model.specs.Requests.{Operation, operation_of}
use Rattle.zd_model.specs.Requests.Operation.{Reading, Writing, Discarding, Flushing}
use Rattle.zd_model.specs.Stops.{AreBy, MayCount, MayHold, SomePuts, flushed, is_acknowledged}
use Rattle.zd_model.specs.Stops.{is_done_flush, unflushed}
use Rattle.zd_model.proofs.HistoryLaws.{Adds, may_hold-new, may_hold-old}

-- TIMES
pub AreBy-push : (m n : ℕ) (h : List HistoryEntry) (e : HistoryEntry) → m ≤ n → AreBy m h → e.at ≤ n
    → AreBy n (h ++ e ∷ [])
AreBy-push m n [] e order by at = (at, tt)
AreBy-push m n (f ∷ h) e order by at = (omega (arith, by.0), AreBy-push m n h e order by.1 at)

pub AreBy-more : (m n : ℕ) (h : List HistoryEntry) → m ≤ n → AreBy m h → AreBy n h
AreBy-more m n [] order by = tt
AreBy-more m n (f ∷ h) order by = (omega (arith, by.0), AreBy-more m n h order by.1)

pub AreBy-append : (n : ℕ) (h es : List HistoryEntry) → AreBy n h → AreBy n es → AreBy n (h ++ es)
AreBy-append n [] es by also = also
AreBy-append n (f ∷ h) es by also = (by.0, AreBy-append n h es by.1 also)

pub AreBy-behind : (n : ℕ) (h es : List HistoryEntry) → AreBy n (h ++ es) → AreBy n es
AreBy-behind n [] es by = by
AreBy-behind n (f ∷ h) es by = AreBy-behind n h es by.1

-- ONE ENTRY MORE
and_false : (b : Bool) → (b && false) ≡ false
and_false true = refl
and_false false = refl

-- it only adds to what may be held before its own moment
pub past : (base : List (List ℕ)) (h : List HistoryEntry) (e : HistoryEntry) (k i : ℕ) (v : List ℕ)
    → k < e.at → MayHold base h k i v → MayHold base (h ++ e ∷ []) k i v
past base h e k i v early may =
    may_hold-old base h e k i v
    (ap (λ (b : Bool). is_done_flush e.what e.reply && b) (lt-leb e.at k early)
    ∙ and_false (is_done_flush e.what e.reply)) may

-- what is no flush that was done only adds, at each moment
not_acknowledged : (e : HistoryEntry) (k : ℕ) → is_done_flush e.what e.reply ≡ false
    → is_acknowledged k e ≡ false
not_acknowledged e k plain = ap (λ (b : Bool). b && leb e.at k) plain

pub no_flush : (base : List (List ℕ)) (h : List HistoryEntry) (e : HistoryEntry) (k i : ℕ) (v : List ℕ)
    → is_done_flush e.what e.reply ≡ false → MayHold base h k i v → MayHold base (h ++ e ∷ []) k i v
no_flush base h e k i v plain may = may_hold-old base h e k i v (not_acknowledged e k plain) may

-- and adds what it puts
pub put_adds : (base : List (List ℕ)) (h : List HistoryEntry) (e : HistoryEntry) (k i : ℕ) (v : List ℕ)
    → is_done_flush e.what e.reply ≡ false → Adds (length base) k i v e → MayHold base (h ++ e ∷ []) k i v
put_adds base h e k i v plain adds = may_hold-new base h e k i v (not_acknowledged e k plain) adds

-- AFTER THE LAST ENTRY what may be held only grows with time
module _ (n k : ℕ) (order : n ≤ k) where
  same_acknowledged : (e : HistoryEntry) → e.at ≤ n → is_acknowledged k e ≡ is_acknowledged n e
  same_acknowledged e by =
      ap (λ (b : Bool). is_done_flush e.what e.reply && b) (le-leb e.at k (omega arith) ∙ sym (le-leb e.at n by))

  same_any : (h : List HistoryEntry) → AreBy n h
      → list_any (is_acknowledged k) h ≡ list_any (is_acknowledged n) h
  same_any [] by = refl
  same_any (e ∷ h) by = ap₂ (λ (b c : Bool). b || c) (same_acknowledged e by.0) (same_any h by.1)

  same_flushed : (h : List HistoryEntry) → AreBy n h → flushed k h ≡ flushed n h
  same_flushed [] by = refl
  same_flushed (e ∷ h) by =
      ap₂ (λ (b : Bool) (rest : List HistoryEntry). cond b (e ∷ rest) []) (same_any (e ∷ h) by)
      (same_flushed h by.1)

  same_unflushed : (h : List HistoryEntry) → AreBy n h → unflushed k h ≡ unflushed n h
  same_unflushed [] by = refl
  same_unflushed (e ∷ h) by =
      ap₂ (λ (b : Bool) (rest : List HistoryEntry). cond b rest (e ∷ h)) (same_any (e ∷ h) by)
      (same_unflushed h by.1)

  still_counts : (operation : Operation) (e : HistoryEntry) → MayCount operation n e → MayCount operation k e
  still_counts Reading e may = absurd may
  still_counts Writing e may = (omega (arith, may.0), may.1)
  still_counts Discarding e may = (omega (arith, may.0), may.1)
  still_counts Flushing e may = absurd may

  still_some : (sectors i : ℕ) (v : List ℕ) (h : List HistoryEntry) → SomePuts sectors n i v h
      → SomePuts sectors k i v h
  still_some sectors i v [] p = absurd p
  still_some sectors i v (e ∷ h) (inl p) =
      inl (p.0, (still_counts (operation_of e.what) e p.1.0, p.1.1, p.1.2))
  still_some sectors i v (e ∷ h) (inr p) = inr (still_some sectors i v h p)

  pub later : (base : List (List ℕ)) (h : List HistoryEntry) (i : ℕ) (v : List ℕ) → AreBy n h
      → MayHold base h n i v → MayHold base h k i v
  later base h i v by (inl same) =
      inl (same ∙ ap (λ (xs : List HistoryEntry). slice_index_or (last_array base xs) i zero_sector)
      (sym (same_flushed h by)))
  later base h i v by (inr p) =
      inr (subst (λ (xs : List HistoryEntry). SomePuts (length base) k i v xs) (sym (same_unflushed h by))
      (still_some (length base) i v (unflushed n h) p))
