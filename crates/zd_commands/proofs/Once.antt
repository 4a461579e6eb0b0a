-- Uses are new where no name is used twice.
use Rattle.std.proofs.Common.{◌≡◌, ℕ, ◌+◌, min, Bool, cond, true, false, ◌||◌, refl, sym, ap, ◌∙◌, subst, List, [], ◌∷◌, ◌++◌, map, Option, Some, None}
use Rattle.std.specs.Prelude.{flat_map}
use Rattle.std.specs.List.{AllByRecursion, IsDistinct, list_any}
use Rattle.std.specs.Str.{bytes_eq}
use Rattle.std.proofs.lemmas.Slice.Eq.{bytes_eq-Decides}
use Rattle.std.proofs.lemmas.Bool.{false≢true}
use Rattle.std.proofs.lemmas.List.{map-append}
use Rattle.clap.specs.Lexer.{usize_max}
use Rattle.clap.specs.Walk.{Text, has_row}
use Rattle.zd_commands.specs.Spelling.{Item, IsItem, apart, flag, is_among, item_names, joined, plain}
use Rattle.zd_commands.proofs.Rows.{Use, IsNew, flag_use, use_id, use_row, value_use, place_use}
use Rattle.zd_commands.proofs.Passing.{AllItems, AllNew, place_uses, uses}
use Rattle.zd_commands.proofs.Lookups.{apart_names, has_more, neither_left, text_is}

abbrev names_of : List Item → List Text
names_of items = flat_map item_names items

-- a name that none of the names is
abbrev IsFree : List Use → List Text → Type 0
IsFree us names = (n : Text) → is_among names n ≡ true → has_row n (map use_row us) ≡ false

-- names of two groups have none in common
abbrev pub AreApart : List Text → List Text → Type 0
AreApart names others = (n : Text) → is_among names n ≡ true → is_among others n ≡ false

first_among : (n : Text) (names : List Text) → is_among (n ∷ names) n ≡ true
first_among n names = ap (λ (b : Bool). b || is_among names n) ((bytes_eq-Decides n n).1 refl)

later_among : (m n : Text) (names : List Text) → is_among names n ≡ true → is_among (m ∷ names) n ≡ true
later_among m n names h = go (bytes_eq m n)
  where
    go : (b : Bool) → (b || is_among names n) ≡ true
    go true = refl
    go false = h

differs : (m : Text) (names : List Text) → AllByRecursion (λ y. bytes_eq m y ≡ false) names → (n : Text) → is_among names n ≡ true → bytes_eq m n ≡ false
differs m [] all n h = absurd (false≢true h)
differs m (k ∷ names) all n h = go (bytes_eq k n) refl h (differs m names all.1 n)
  where
    go : (b : Bool) → bytes_eq k n ≡ b → (b || is_among names n) ≡ true → (is_among names n ≡ true → bytes_eq m n ≡ false) → bytes_eq m n ≡ false
    go true e j next = subst (λ (t : Text). bytes_eq m t ≡ false) (text_is k n e) all.0
    go false e j next = next j

has_after : (n : Text) (us : List Use) (u : Use) → has_row n (map use_row (us ++ u ∷ [])) ≡ (has_row n (map use_row us) || (bytes_eq (use_id u) n || false))
has_after n us u = ap (has_row n) (map-append use_row us (u ∷ [])) ∙ has_more n (map use_row us) (use_row u ∷ [])

-- past one use, names that it isn't stay free
still_free : (us : List Use) (u : Use) (names : List Text) → IsFree us names → ((n : Text) → is_among names n ≡ true → bytes_eq (use_id u) n ≡ false) → IsFree (us ++ u ∷ []) names
still_free us u names free other n h =
    has_after n us u ∙ ap (λ (b : Bool). b || (bytes_eq (use_id u) n || false)) (free n h) ∙ ap (λ (b : Bool). b || false) (other n h)

module _ (flags options : List Text) where
  -- the name of an item is a flag's or an option's
  unknown : (l : Text) (items : List Item) → is_among flags l ≡ false → is_among options l ≡ false → AllItems flags options items → is_among (names_of items) l ≡ false
  unknown l [] nf none has = refl
  unknown l (flag m ∷ items) nf none has = ap (λ (b : Bool). b || is_among (names_of items) l) (apart_names flags m l has.0 nf) ∙ unknown l items nf none has.1
  unknown l (apart m v ∷ items) nf none has = ap (λ (b : Bool). b || is_among (names_of items) l) (apart_names options m l has.0.0 none) ∙ unknown l items nf none has.1
  unknown l (joined m v ∷ items) nf none has = ap (λ (b : Bool). b || is_among (names_of items) l) (apart_names options m l has.0 none) ∙ unknown l items nf none has.1
  unknown l (plain w ∷ items) nf none has = unknown l items nf none has.1

  later_apart : (l : Text) (left names : List Text) → AreApart (l ∷ left) names → AreApart left names
  later_apart l left names h n k = h n (later_among l n left k)

  places_new : (place : ℕ) (left words : List Text) (us : List Use) → IsDistinct bytes_eq left → IsFree us left → AllNew us (place_uses place left words)
  unfolding IsDistinct
  places_new place [] words us dist free = tt
  places_new place (l ∷ left) [] us dist free = tt
  places_new place (l ∷ left) (w ∷ words) us dist free = (
    free l (first_among l left),
    places_new (min (place + 1) usize_max) left words (us ++ place_use l place w ∷ []) dist.1
        (still_free us (place_use l place w) left (λ n h. free n (later_among l n left h)) (differs l left dist.0)),
  )

  pub all_new : (items : List Item) (rest : List Text) (us : List Use) (place : ℕ) (left : List Text) → AllItems flags options items → AreApart left flags → AreApart left options
      → IsDistinct bytes_eq left → IsDistinct bytes_eq (names_of items) → IsFree us (names_of items) → IsFree us left → AllNew us (uses place left items rest)
  unfolding IsDistinct
  all_new [] rest us place left has nf none dist once free_names free = places_new place left rest us dist free
  all_new (flag m ∷ items) rest us place left has nf none dist once free_names free =
      let u = flag_use m in (
        free_names m (first_among m (names_of items)),
        all_new items rest (us ++ u ∷ []) place left has.1 nf none dist once.1
            (still_free us u (names_of items) (λ n h. free_names n (later_among m n (names_of items) h)) (differs m (names_of items) once.0))
            (still_free us u left free (λ n h. apart_names flags m n has.0 (nf n h))),
      )
  all_new (apart m v ∷ items) rest us place left has nf none dist once free_names free =
      let u = value_use m v in (
        free_names m (first_among m (names_of items)),
        all_new items rest (us ++ u ∷ []) place left has.1 nf none dist once.1
            (still_free us u (names_of items) (λ n h. free_names n (later_among m n (names_of items) h)) (differs m (names_of items) once.0))
            (still_free us u left free (λ n h. apart_names options m n has.0.0 (none n h))),
      )
  all_new (joined m v ∷ items) rest us place left has nf none dist once free_names free =
      let u = value_use m v in (
        free_names m (first_among m (names_of items)),
        all_new items rest (us ++ u ∷ []) place left has.1 nf none dist once.1
            (still_free us u (names_of items) (λ n h. free_names n (later_among m n (names_of items) h)) (differs m (names_of items) once.0))
            (still_free us u left free (λ n h. apart_names options m n has.0 (none n h))),
      )
  all_new (plain w ∷ items) rest us place [] has nf none dist once free_names free = all_new items rest us place [] has.1 nf none dist once free_names free
  all_new (plain w ∷ items) rest us place (l ∷ left) has nf none dist once free_names free =
      let u = place_use l place w in
      let new = first_among l left in (
        free l new,
        all_new items rest (us ++ u ∷ []) (min (place + 1) usize_max) left has.1 (later_apart l left flags nf) (later_apart l left options none) dist.1 once
            (still_free us u (names_of items) free_names (λ n h. other l n items (unknown l items (nf l new) (none l new) has.1) h))
            (still_free us u left (λ n h. free n (later_among l n left h)) (differs l left dist.0)),
      )
    where
      other : (l n : Text) (items : List Item) → is_among (names_of items) l ≡ false → is_among (names_of items) n ≡ true → bytes_eq l n ≡ false
      other l n items k h = go (bytes_eq l n) refl
        where
          go : (b : Bool) → bytes_eq l n ≡ b → b ≡ false
          go true e = absurd (false≢true (sym k ∙ ap (is_among (names_of items)) (text_is l n e) ∙ h))
          go false e = refl

-- ---- and back

abbrev IsPast : Text → List Use → Type 0
IsPast m us = (n : Text) → has_row n (map use_row us) ≡ false → bytes_eq m n ≡ false

past_more : (m : Text) (us : List Use) (u : Use) → IsPast m us → IsPast m (us ++ u ∷ [])
past_more m us u past n h = past n (neither_left (has_row n (map use_row us)) (bytes_eq (use_id u) n || false) (sym (has_after n us u) ∙ h)).0

past_here : (us : List Use) (u : Use) → IsPast (use_id u) (us ++ u ∷ [])
past_here us u n h =
    let both = neither_left (has_row n (map use_row us)) (bytes_eq (use_id u) n || false) (sym (has_after n us u) ∙ h) in
    (neither_left (bytes_eq (use_id u) n) false both.1).0

separate : (m : Text) (items : List Item) (rest : List Text) (us : List Use) (place : ℕ) (left : List Text) → IsPast m us → AllNew us (uses place left items rest)
    → AllByRecursion (λ y. bytes_eq m y ≡ false) (names_of items)
separate m [] rest us place left past all = tt
separate m (flag k ∷ items) rest us place left past all =
    (past k all.0, separate m items rest (us ++ flag_use k ∷ []) place left (past_more m us (flag_use k) past) all.1)
separate m (apart k v ∷ items) rest us place left past all =
    (past k all.0, separate m items rest (us ++ value_use k v ∷ []) place left (past_more m us (value_use k v) past) all.1)
separate m (joined k v ∷ items) rest us place left past all =
    (past k all.0, separate m items rest (us ++ value_use k v ∷ []) place left (past_more m us (value_use k v) past) all.1)
separate m (plain w ∷ items) rest us place [] past all = separate m items rest us place [] past all
separate m (plain w ∷ items) rest us place (l ∷ left) past all =
    separate m items rest (us ++ place_use l place w ∷ []) (min (place + 1) usize_max) left (past_more m us (place_use l place w) past) all.1

pub distinct : (items : List Item) (rest : List Text) (us : List Use) (place : ℕ) (left : List Text) → AllNew us (uses place left items rest) → IsDistinct bytes_eq (names_of items)
unfolding IsDistinct
distinct [] rest us place left all = tt
distinct (flag m ∷ items) rest us place left all =
    (separate m items rest (us ++ flag_use m ∷ []) place left (past_here us (flag_use m)) all.1, distinct items rest (us ++ flag_use m ∷ []) place left all.1)
distinct (apart m v ∷ items) rest us place left all =
    (separate m items rest (us ++ value_use m v ∷ []) place left (past_here us (value_use m v)) all.1, distinct items rest (us ++ value_use m v ∷ []) place left all.1)
distinct (joined m v ∷ items) rest us place left all =
    (separate m items rest (us ++ value_use m v ∷ []) place left (past_here us (value_use m v)) all.1, distinct items rest (us ++ value_use m v ∷ []) place left all.1)
distinct (plain w ∷ items) rest us place [] all = distinct items rest us place [] all
distinct (plain w ∷ items) rest us place (l ∷ left) all =
    distinct items rest (us ++ place_use l place w ∷ []) (min (place + 1) usize_max) left all.1
