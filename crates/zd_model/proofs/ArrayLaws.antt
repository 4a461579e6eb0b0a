-- Arrays keep their length, and are read at an index after a write.
use Rattle.std.proofs.Common.{◌≡◌, ℕ, ◌+◌, ◌-◌, ◌<◌, ◌≤◌, Bool, true, false, cond, not, ◌||◌, List, [], ◌∷◌, ◌++◌, length, map, take, drop, get_or, Option, Some, None, refl, ap, ap₂, ◌∙◌, arith, leb}
use borrow.Author.Tests.{leb-true}
use Rattle.std.proofs.lemmas.Bool.{le-leb}
use Rattle.std.specs.List.{range_with_len, list_any}
use Rattle.std.proofs.lemmas.List.{length-append, length-drop, length-take-le, get_or_append_left, get_or-append_right, get_or-take, get_or-drop}
use Rattle.std.proofs.lemmas.List.FromFn.{length-map-range_with_len}
use Rattle.std.specs.Option.{option_map_or}
use Rattle.zd_model.specs.Bytes.{overwrite}
use Rattle.zd_model.specs.Requests.{first_sector, sector_count}
use Rattle.zd_model.specs.Plain.{ends_past, array_after, put_by, within_after}
use Rattle.zd_model.specs.History.{entry_after, last_array}
use Rattle.zd_model.specs.Stops.{is_acknowledged, flushed, unflushed}
use Rattle.zd_model.specs.declared.requests.What.{What}
use Rattle.zd_model.specs.Plain.{Answer}
use Rattle.zd_model.specs.Plain.Answer.{Got, Done, Range, Fault}
use Rattle.zd_model.specs.History.{HistoryEntry}

module _ {X : Type 0} (xs : List X) (at : ℕ) (new : List X) (fits : at + length new ≤ length xs) where
  front : length (take at xs) ≡ at
  front = length-take-le at xs (omega arith)

  pub length-overwrite : length (overwrite xs at new) ≡ length xs
  length-overwrite = omega (arith, length-append (take at xs ++ new) (drop (at + length new) xs), length-append (take at xs) new, front, length-drop (at + length new) xs)

  pub overwrite_before : (i : ℕ) (d : X) → i < at → get_or (overwrite xs at new) i d ≡ get_or xs i d
  overwrite_before i d h =
      get_or_append_left (take at xs ++ new) (drop (at + length new) xs) d i (omega (arith, length-append (take at xs) new, front))
      ∙ get_or_append_left (take at xs) new d i (omega (arith, front)) ∙ get_or-take at xs i d h

  pub overwrite_inside : (i : ℕ) (d : X) → at ≤ i → i < at + length new → get_or (overwrite xs at new) i d ≡ get_or new (i - at) d
  overwrite_inside i d low high =
      get_or_append_left (take at xs ++ new) (drop (at + length new) xs) d i (omega (arith, length-append (take at xs) new, front))
      ∙ get_or-append_right (take at xs) new at i d front low

  pub overwrite_behind : (i : ℕ) (d : X) → at + length new ≤ i → get_or (overwrite xs at new) i d ≡ get_or xs i d
  overwrite_behind i d low =
      let place : at + length new + (i - (at + length new)) ≡ i = omega arith in
      get_or-append_right (take at xs ++ new) (drop (at + length new) xs) (at + length new) i d (length-append (take at xs) new ∙ ap (λ n. n + length new) front) low
      ∙ get_or-drop (at + length new) xs (i - (at + length new)) d ∙ ap (λ k. get_or xs k d) place

not_past : (last sectors : ℕ) → not (leb last sectors) ≡ false → last ≤ sectors
not_past last sectors h = leb-true last sectors (double (leb last sectors) h)
  where
    double : (b : Bool) → not b ≡ false → b ≡ true
    double true e = refl
    double false e = cc

-- a request that doesn't end past the array stands in it
pub ends_within : (sectors : ℕ) (what : What) → ends_past sectors what ≡ false
    → first_sector what + sector_count what ≤ sectors
ends_within sectors what h = not_past (first_sector what + sector_count what) sectors h

-- and the other way round
pub ends_inside : (sectors : ℕ) (w : What) → first_sector w + sector_count w ≤ sectors → ends_past sectors w ≡ false
ends_inside sectors w h = ap not (le-leb (first_sector w + sector_count w) sectors h)

length-put : (array : List (List ℕ)) (first n : ℕ) (put : Option (ℕ → List ℕ)) → first + n ≤ length array
    → length (option_map_or (λ p. overwrite array first (map p (range_with_len first n))) put array) ≡ length array
length-put array first n None h = refl
length-put array first n (Some p) h =
    length-overwrite array first (map p (range_with_len first n))
    (omega (arith, length-map-range_with_len p first n))

length-within_after : (array : List (List ℕ)) (what : What) → ends_past (length array) what ≡ false
    → length (within_after array what) ≡ length array
length-within_after array what h =
    length-put array (first_sector what) (sector_count what) (put_by what) (ends_within (length array) what h)

pub length-array_after : (array : List (List ℕ)) (what : What) → length (array_after array what) ≡ length array
length-array_after array what = by_test (ends_past (length array) what) refl
  where
    by_test : (b : Bool) → ends_past (length array) what ≡ b → length (cond b array (within_after array what)) ≡ length array
    by_test true e = refl
    by_test false e = length-within_after array what e

pub length-entry_after : (array : List (List ℕ)) (what : What) (reply : Answer) → length (entry_after array what reply) ≡ length array
length-entry_after array what (Got bytes) = refl
length-entry_after array what Done = length-array_after array what
length-entry_after array what Range = refl
length-entry_after array what Fault = refl

-- a history leaves an array of the same length
pub length-last_array : (base : List (List ℕ)) (history : List HistoryEntry) → length (last_array base history) ≡ length base
length-last_array base [] = refl
length-last_array base (e ∷ history) = length-last_array (entry_after base e.what e.reply) history ∙ length-entry_after base e.what e.reply

-- after an acknowledged flush a sector holds its value in the array
list_any-last : {X : Type 0} (p : X → Bool) (xs : List X) (x : X) → p x ≡ true → list_any p (xs ++ x ∷ []) ≡ true
list_any-last p [] x h = rw h refl
list_any-last p (y ∷ xs) x h = rw (list_any-last p xs x h) (or_right (p y))
  where
    or_right : (b : Bool) → (b || true) ≡ true
    or_right true = refl
    or_right false = refl

pub flushed_all : (k : ℕ) (history : List HistoryEntry) (e : HistoryEntry) → is_acknowledged k e ≡ true → flushed k (history ++ e ∷ []) ≡ history ++ e ∷ []
flushed_all k [] e h = rw h refl
flushed_all k (f ∷ history) e h = ap₂ (λ (b : Bool) (rest : List HistoryEntry). cond b (f ∷ rest) []) (list_any-last (is_acknowledged k) (f ∷ history) e h) (flushed_all k history e h)

pub unflushed_none : (k : ℕ) (history : List HistoryEntry) (e : HistoryEntry) → is_acknowledged k e ≡ true → unflushed k (history ++ e ∷ []) ≡ []
unflushed_none k [] e h = rw h refl
unflushed_none k (f ∷ history) e h = ap₂ (λ (b : Bool) (rest : List HistoryEntry). cond b rest (f ∷ (history ++ e ∷ []))) (list_any-last (is_acknowledged k) (f ∷ history) e h) (unflushed_none k history e h)
