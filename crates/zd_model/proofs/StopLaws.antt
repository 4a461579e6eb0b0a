-- A history is parted at the last flush that was acknowledged.
use Rattle.std.proofs.Common.{◌≡◌, ℕ, Bool, true, false, cond, ◌||◌, List, [], ◌∷◌, ◌++◌}
use Rattle.std.proofs.Common.{Option, Some, None, refl, ap, ◌∙◌, sym}
use Rattle.std.specs.Prelude.{filter}
use Rattle.std.specs.List.{list_any, last_or}
use Rattle.zd_model.specs.History.{HistoryEntry}
use Rattle.zd_model.specs.Stops.{is_acknowledged, last_flush, flushed, unflushed}

module _ {X : Type 0} (p : X → Bool) where
  none_left : (xs : List X) → list_any p xs ≡ false → filter p xs ≡ []
  none_left [] h = refl
  none_left (x ∷ xs) h = by_test (p x) (none_left xs) h
    where
      by_test : (b : Bool) → (list_any p xs ≡ false → filter p xs ≡ []) → (b || list_any p xs) ≡ false → cond b (x ∷ filter p xs) (filter p xs) ≡ []
      by_test true others k = cc
      by_test false others k = others k

  some_left : (xs : List X) (o d : Option X) → list_any p xs ≡ true → last_or o (filter p xs) ≡ last_or d (filter p xs)
  some_left [] o d h = cc
  some_left (x ∷ xs) o d h = by_test (p x) (some_left xs o d) h
    where
      by_test : (b : Bool) → (list_any p xs ≡ true → last_or o (filter p xs) ≡ last_or d (filter p xs)) → (b || list_any p xs) ≡ true → last_or o (cond b (x ∷ filter p xs) (filter p xs)) ≡ last_or d (cond b (x ∷ filter p xs) (filter p xs))
      by_test true others k = refl
      by_test false others k = others k

-- what is flushed ends with the last flush
ends_flushed : (k : ℕ) (history : List HistoryEntry) (o : Option HistoryEntry) → last_or o (flushed k history) ≡ last_or o (filter (is_acknowledged k) history)
ends_flushed k [] o = refl
ends_flushed k (e ∷ history) o = by_tests (is_acknowledged k e) (list_any (is_acknowledged k) history) refl (ends_flushed k history (Some e))
  where
    rest : List HistoryEntry
    rest = filter (is_acknowledged k) history

    by_tests : (b any : Bool) → list_any (is_acknowledged k) history ≡ any → last_or (Some e) (flushed k history) ≡ last_or (Some e) rest → last_or o (cond (b || any) (e ∷ flushed k history) []) ≡ last_or o (cond b (e ∷ rest) rest)
    by_tests true any h others = others
    by_tests false true h others = others ∙ some_left (is_acknowledged k) history (Some e) o h
    by_tests false false h others = ap (last_or o) (sym (none_left (is_acknowledged k) history h))

whole_is : (k : ℕ) (history : List HistoryEntry) → history ≡ flushed k history ++ unflushed k history
whole_is k [] = refl
whole_is k (e ∷ history) = by_test (list_any (is_acknowledged k) (e ∷ history)) (whole_is k history)
  where
    by_test : (b : Bool) → history ≡ flushed k history ++ unflushed k history → e ∷ history ≡ cond b (e ∷ flushed k history) [] ++ cond b (unflushed k history) (e ∷ history)
    by_test true others = ap (λ (xs : List HistoryEntry). e ∷ xs) others
    by_test false others = refl

none_behind : (k : ℕ) (history : List HistoryEntry) → last_flush k (unflushed k history) ≡ None
none_behind k [] = refl
none_behind k (e ∷ history) = by_test (list_any (is_acknowledged k) (e ∷ history)) refl (none_behind k history)
  where
    by_test : (b : Bool) → list_any (is_acknowledged k) (e ∷ history) ≡ b → last_flush k (unflushed k history) ≡ None → last_flush k (cond b (unflushed k history) (e ∷ history)) ≡ None
    by_test true h others = others
    by_test false h others = ap (last_or None) (none_left (is_acknowledged k) (e ∷ history) h)

pub parted : (k : ℕ) (history : List HistoryEntry) → (history ≡ flushed k history ++ unflushed k history) × (last_or None (flushed k history) ≡ last_flush k history) × (last_flush k (unflushed k history) ≡ None)
parted k history = (whole_is k history, ends_flushed k history None, none_behind k history)
