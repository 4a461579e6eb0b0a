-- What the rows that items leave have under each name.
use Rattle.std.proofs.Common.{◌≡◌, ℕ, ◌+◌, min, Bool, cond, true, false, ◌||◌, ◌&&◌, not, refl, sym, ap, ◌∙◌, subst, arith, List, [], ◌∷◌, ◌++◌, map, Option, Some, None, codes, append-nil}
use Rattle.std.specs.Prelude.{flat_map, fold, find, slice_get, option_and_then, if◌then◌else◌}
use Rattle.std.specs.List.{list_all, list_any}
use Rattle.std.specs.Option.{option_map_or}
use Rattle.std.specs.Str.{bytes_eq}
use Rattle.std.proofs.lemmas.Slice.Eq.{bytes_eq-Decides}
use Rattle.std.proofs.lemmas.Bool.{false≢true}
use Rattle.std.proofs.lemmas.Bool.Decides.{nat_tests}
use Rattle.clap.specs.Lexer.{usize_max}
use Rattle.clap.specs.Walk.{Row, Rule, Text, at_row, first_of, has_row, is_empty, more_values, one_of, reading_by, row_text, with_default}
use Rattle.clap.specs.declared.parser.matches.ValueSource.TheVariants.{DefaultValue}
use Rattle.zd_commands.specs.Founds.{at_place}
use Rattle.zd_commands.specs.Spelling.{Item, IsItem, apart, flag, flags_of, is_among, item_flags, item_plain, item_values, joined, plain, value_of}
use Rattle.zd_commands.proofs.Rows.{Use, absent, flag_use, use_id, use_row, value_use, place_use}
use Rattle.zd_commands.proofs.Passing.{AllItems, place_uses, uses}

abbrev pub row_with : Text → List Row → Option Row
row_with id rows = find (λ r. bytes_eq r.id id) rows

-- ---- defaults

abbrev pub default_row : Rule → Row
default_row a = record { id = a.id; values = a.defaults; count = None; source = Some DefaultValue; reading = reading_by a }

-- the row that a name gets where it wasn't used
abbrev pub default_for : Text → List Rule → Option Row
default_for id [] = None
default_for id (a ∷ rules) = cond (bytes_eq a.id id && not (is_empty a.defaults)) (Some (default_row a)) (default_for id rules)

find_first : (id : Text) (rows more : List Row) → has_row id rows ≡ true → row_with id (rows ++ more) ≡ row_with id rows
find_first id [] more h = absurd (false≢true h)
find_first id (r ∷ rows) more h = go (bytes_eq r.id id) h (find_first id rows more)
  where
    go : (b : Bool) → (b || has_row id rows) ≡ true → (has_row id rows ≡ true → row_with id (rows ++ more) ≡ row_with id rows)
        → cond b (Some r) (row_with id (rows ++ more)) ≡ cond b (Some r) (row_with id rows)
    go true k next = refl
    go false k next = next k

pub find_past : (id : Text) (rows more : List Row) → has_row id rows ≡ false → row_with id (rows ++ more) ≡ row_with id more
find_past id [] more h = refl
find_past id (r ∷ rows) more h = go (bytes_eq r.id id) h (find_past id rows more)
  where
    go : (b : Bool) → (b || has_row id rows) ≡ false → (has_row id rows ≡ false → row_with id (rows ++ more) ≡ row_with id more)
        → cond b (Some r) (row_with id (rows ++ more)) ≡ row_with id more
    go true k next = absurd (false≢true (sym k))
    go false k next = next k

pub no_row : (id : Text) (rows : List Row) → has_row id rows ≡ false → row_with id rows ≡ None
no_row id rows h = ap (row_with id) (sym (append-nil rows)) ∙ find_past id rows [] h

pub has_more : (id : Text) (rows more : List Row) → has_row id (rows ++ more) ≡ (has_row id rows || has_row id more)
has_more id [] more = refl
has_more id (r ∷ rows) more = go (bytes_eq r.id id) (has_more id rows more)
  where
    go : (b : Bool) → has_row id (rows ++ more) ≡ (has_row id rows || has_row id more) → (b || has_row id (rows ++ more)) ≡ ((b || has_row id rows) || has_row id more)
    go true h = refl
    go false h = h

-- a default comes behind the rows
abbrev extra : List Row → Rule → List Row
extra rows a = cond (has_row a.id rows || is_empty a.defaults) [] (default_row a ∷ [])

some_values : (v : Text) (vs : List Text) → is_empty (v ∷ vs) ≡ false
some_values v vs = grind (arith, nat_tests)

defaulted : (rows : List Row) (a : Rule) → with_default rows a ≡ rows ++ extra rows a
defaulted rows a = go (has_row a.id rows) refl a.defaults refl
  where
    go : (b : Bool) → has_row a.id rows ≡ b → (values : List Text) → a.defaults ≡ values → with_default rows a ≡ rows ++ extra rows a
    go true e values is = rw e (sym (append-nil rows))
    go false e [] is = rw (e, is) (sym (append-nil rows))
    go false e (v ∷ vs) is = rw (e, is) (absent a.id (more_values DefaultValue (v ∷ vs)) (record { id = a.id; values = v ∷ vs; count = None; source = Some DefaultValue; reading = reading_by a } ∷ []) rows e
        ∙ ap (λ (b : Bool). rows ++ cond b [] (record { id = a.id; values = v ∷ vs; count = None; source = Some DefaultValue; reading = reading_by a } ∷ [])) (sym (some_values v vs)))

pub kept : (id : Text) (rules : List Rule) (rows : List Row) → has_row id rows ≡ true → row_with id (fold with_default rows rules) ≡ row_with id rows
kept id [] rows h = refl
kept id (a ∷ rules) rows h =
    let same = defaulted rows a in
    let here : has_row id (with_default rows a) ≡ true = ap (has_row id) same ∙ has_more id rows (extra rows a) ∙ ap (λ (b : Bool). b || has_row id (extra rows a)) h in
    kept id rules (with_default rows a) here ∙ ap (row_with id) same ∙ find_first id rows (extra rows a) h

pub text_is : (a b : Text) → bytes_eq a b ≡ true → a ≡ b
text_is a b h = (bytes_eq-Decides a b).0 h

pub filled_in : (id : Text) (rules : List Rule) (rows : List Row) → has_row id rows ≡ false → row_with id (fold with_default rows rules) ≡ default_for id rules
filled_in id [] rows h = no_row id rows h
filled_in id (a ∷ rules) rows h = go (bytes_eq a.id id) refl (is_empty a.defaults) refl (kept id rules (with_default rows a)) (filled_in id rules (with_default rows a))
  where
    same : with_default rows a ≡ rows ++ extra rows a
    same = defaulted rows a

    go : (b : Bool) → bytes_eq a.id id ≡ b → (e : Bool) → is_empty a.defaults ≡ e
        → (has_row id (with_default rows a) ≡ true → row_with id (fold with_default (with_default rows a) rules) ≡ row_with id (with_default rows a))
        → (has_row id (with_default rows a) ≡ false → row_with id (fold with_default (with_default rows a) rules) ≡ default_for id rules)
        → row_with id (fold with_default (with_default rows a) rules) ≡ cond (b && not e) (Some (default_row a)) (default_for id rules)
    go true is false some stays next =
        let none : has_row a.id rows ≡ false = ap (λ (t : Text). has_row t rows) (text_is a.id id is) ∙ h in
        let more : extra rows a ≡ default_row a ∷ [] = rw (none, some) refl in
        let here : has_row id (with_default rows a) ≡ true =
        ap (has_row id) same ∙ has_more id rows (extra rows a) ∙ ap (λ (b : Bool). b || has_row id (extra rows a)) h ∙ ap (has_row id) more ∙ ap (λ (b : Bool). b || false) is in
        stays here ∙ ap (row_with id) same ∙ find_past id rows (extra rows a) h ∙ ap (row_with id) more ∙ ap (λ (b : Bool). cond b (Some (default_row a)) None) is
    go true is true none stays next = next (ap (has_row id) same ∙ ap (λ (rs : List Row). has_row id (rows ++ rs)) (empty (has_row a.id rows) none) ∙ ap (has_row id) (append-nil rows) ∙ h)
      where
        empty : (b : Bool) → is_empty a.defaults ≡ true → cond (b || is_empty a.defaults) [] (default_row a ∷ []) ≡ []
        empty true k = refl
        empty false k = rw k refl
    go false is e some stays next =
        next (ap (has_row id) same ∙ has_more id rows (extra rows a) ∙ ap (λ (b : Bool). b || has_row id (extra rows a)) h ∙ other (has_row a.id rows || is_empty a.defaults))
      where
        other : (b : Bool) → has_row id (cond b [] (default_row a ∷ [])) ≡ false
        other true = refl
        other false = ap (λ (b : Bool). b || false) is

-- ---- uses

-- names of two groups differ
pub apart_names : (names : List Text) (m n : Text) → is_among names m ≡ true → is_among names n ≡ false → bytes_eq m n ≡ false
apart_names names m n h k = go (bytes_eq m n) refl
  where
    go : (b : Bool) → bytes_eq m n ≡ b → b ≡ false
    go true e = absurd (false≢true (sym k ∙ ap (is_among names) (sym (text_is m n e)) ∙ h))
    go false e = refl

abbrev pub first_in : Text → List Use → Option Text
first_in id us = option_and_then (λ r. slice_get r.values 0) (row_with id (map use_row us))

-- past a row of another name
past_row : (id : Text) (u : Use) (us : List Use) → bytes_eq (use_id u) id ≡ false → first_in id (u ∷ us) ≡ first_in id us
past_row id u us h = rw h refl

abbrev first_or : Bool → Text → Option Text → Option Text
first_or b v o = cond b (Some v) o

at_row_of : (id : Text) (u : Use) (us : List Use) (v : Text) → slice_get (use_row u).values 0 ≡ Some v → first_in id (u ∷ us) ≡ first_or (bytes_eq (use_id u) id) v (first_in id us)
at_row_of id u us v h = go (bytes_eq (use_id u) id)
  where
    go : (b : Bool) → option_and_then (λ r. slice_get r.values 0) (cond b (Some (use_row u)) (row_with id (map use_row us))) ≡ first_or b v (first_in id us)
    go true = h
    go false = refl

places_of : (id : Text) (place : ℕ) (left words : List Text) → first_in id (place_uses place left words) ≡ at_place id left words
places_of id place [] words = refl
places_of id place (l ∷ left) [] = refl
places_of id place (l ∷ left) (w ∷ words) =
    at_row_of id (place_use l place w) (place_uses (min (place + 1) usize_max) left words) w refl
    ∙ ap (first_or (bytes_eq l id) w) (places_of id (min (place + 1) usize_max) left words)

no_places_of : (id : Text) (place : ℕ) (left words : List Text) → is_among left id ≡ false → first_in id (place_uses place left words) ≡ None
no_places_of id place left words h = places_of id place left words ∙ none left words h
  where
    none : (left words : List Text) → is_among left id ≡ false → at_place id left words ≡ None
    none [] words k = refl
    none (l ∷ left) [] k = refl
    none (l ∷ left) (w ∷ words) k = go (bytes_eq l id) k (none left words)
      where
        go : (b : Bool) → (b || is_among left id) ≡ false → (is_among left id ≡ false → at_place id left words ≡ None) → cond b (Some w) (at_place id left words) ≡ None
        go true k next = absurd (false≢true (sym k))
        go false k next = next k

pub neither_left : (a b : Bool) → (a || b) ≡ false → (a ≡ false) × (b ≡ false)
neither_left true b h = absurd (false≢true (sym h))
neither_left false b h = (refl, h)

-- the value of an option
pub option_found : (flags options : List Text) (id : Text) (items : List Item) (rest : List Text) (place : ℕ) (left : List Text) → is_among flags id ≡ false
    → is_among left id ≡ false → AllItems flags options items → first_in id (uses place left items rest) ≡ value_of id items
option_found flags options id [] rest place left nf nl has = no_places_of id place left rest nl
option_found flags options id (flag m ∷ items) rest place left nf nl has =
    past_row id (flag_use m) (uses place left items rest) (apart_names flags m id has.0 nf) ∙ option_found flags options id items rest place left nf nl has.1
option_found flags options id (apart m v ∷ items) rest place left nf nl has =
    at_row_of id (value_use m v) (uses place left items rest) v refl ∙ ap (first_or (bytes_eq m id) v) (option_found flags options id items rest place left nf nl has.1)
    ∙ go (bytes_eq m id)
  where
    go : (b : Bool) → first_or b v (value_of id items) ≡ slice_get ((if b then v ∷ [] else []) ++ flat_map (item_values id) items) 0
    go true = refl
    go false = refl
option_found flags options id (joined m v ∷ items) rest place left nf nl has =
    at_row_of id (value_use m v) (uses place left items rest) v refl ∙ ap (first_or (bytes_eq m id) v) (option_found flags options id items rest place left nf nl has.1)
    ∙ go (bytes_eq m id)
  where
    go : (b : Bool) → first_or b v (value_of id items) ≡ slice_get ((if b then v ∷ [] else []) ++ flat_map (item_values id) items) 0
    go true = refl
    go false = refl
option_found flags options id (plain w ∷ items) rest place [] nf nl has = option_found flags options id items rest place [] nf nl has.1
option_found flags options id (plain w ∷ items) rest place (l ∷ left) nf nl has =
    let both = neither_left (bytes_eq l id) (is_among left id) nl in
    past_row id (place_use l place w) (uses (min (place + 1) usize_max) left items rest) both.0
    ∙ option_found flags options id items rest (min (place + 1) usize_max) left nf both.1 has.1

-- whether a flag stands
abbrev flag_in : Text → List Use → Option Text
flag_in id us = option_and_then row_text (row_with id (map use_row us))

abbrev pub flag_text : Bool → Option Text
flag_text b = cond b (Some (codes "true")) None

past_flag : (id : Text) (u : Use) (us : List Use) (b : Bool) → bytes_eq (use_id u) id ≡ false
    → (flag_in id us ≡ flag_text b) × (has_row id (map use_row us) ≡ b) → (flag_in id (u ∷ us) ≡ flag_text b) × (has_row id (map use_row (u ∷ us)) ≡ b)
past_flag id u us b h next = (
  ap (λ (c : Bool). option_and_then row_text (cond c (Some (use_row u)) (row_with id (map use_row us)))) h ∙ next.0,
  ap (λ (c : Bool). c || has_row id (map use_row us)) h ∙ next.1,
)

flag_first : (id m : Text) (us : List Use) (b : Bool) → (flag_in id us ≡ flag_text b) × (has_row id (map use_row us) ≡ b)
    → (flag_in id (flag_use m ∷ us) ≡ flag_text (bytes_eq m id || b)) × (has_row id (map use_row (flag_use m ∷ us)) ≡ (bytes_eq m id || b))
flag_first id m us b next = (go (bytes_eq m id), ap (λ (c : Bool). bytes_eq m id || c) next.1)
  where
    go : (c : Bool) → option_and_then row_text (cond c (Some (use_row (flag_use m))) (row_with id (map use_row us))) ≡ flag_text (c || b)
    go true = refl
    go false = next.0

no_flag_places : (id : Text) (place : ℕ) (left words : List Text) → is_among left id ≡ false
    → (flag_in id (place_uses place left words) ≡ None) × (has_row id (map use_row (place_uses place left words)) ≡ false)
no_flag_places id place [] words h = (refl, refl)
no_flag_places id place (l ∷ left) [] h = (refl, refl)
no_flag_places id place (l ∷ left) (w ∷ words) h =
    let both = neither_left (bytes_eq l id) (is_among left id) h in
    past_flag id (place_use l place w) (place_uses (min (place + 1) usize_max) left words) false both.0 (no_flag_places id (min (place + 1) usize_max) left words both.1)

pub flag_found : (flags options : List Text) (id : Text) (items : List Item) (rest : List Text) (place : ℕ) (left : List Text) → is_among options id ≡ false
    → is_among left id ≡ false → AllItems flags options items
    → (option_and_then row_text (row_with id (map use_row (uses place left items rest))) ≡ flag_text (is_among (flags_of items) id))
    × (has_row id (map use_row (uses place left items rest)) ≡ is_among (flags_of items) id)
flag_found flags options id [] rest place left none nl has = no_flag_places id place left rest nl
flag_found flags options id (flag m ∷ items) rest place left none nl has =
    flag_first id m (uses place left items rest) (is_among (flags_of items) id) (flag_found flags options id items rest place left none nl has.1)
flag_found flags options id (apart m v ∷ items) rest place left none nl has =
    past_flag id (value_use m v) (uses place left items rest) (is_among (flags_of items) id) (apart_names options m id has.0.0 none)
    (flag_found flags options id items rest place left none nl has.1)
flag_found flags options id (joined m v ∷ items) rest place left none nl has =
    past_flag id (value_use m v) (uses place left items rest) (is_among (flags_of items) id) (apart_names options m id has.0 none)
    (flag_found flags options id items rest place left none nl has.1)
flag_found flags options id (plain w ∷ items) rest place [] none nl has = flag_found flags options id items rest place [] none nl has.1
flag_found flags options id (plain w ∷ items) rest place (l ∷ left) none nl has =
    let both = neither_left (bytes_eq l id) (is_among left id) nl in
    past_flag id (place_use l place w) (uses (min (place + 1) usize_max) left items rest) (is_among (flags_of items) id) both.0
    (flag_found flags options id items rest (min (place + 1) usize_max) left none both.1 has.1)

-- the word at a place
pub place_found : (flags options : List Text) (id : Text) (items : List Item) (rest : List Text) (place : ℕ) (left : List Text) → is_among flags id ≡ false
    → is_among options id ≡ false → AllItems flags options items → first_in id (uses place left items rest) ≡ at_place id left (flat_map item_plain items ++ rest)
place_found flags options id [] rest place left nf none has = places_of id place left rest
place_found flags options id (flag m ∷ items) rest place left nf none has =
    past_row id (flag_use m) (uses place left items rest) (apart_names flags m id has.0 nf) ∙ place_found flags options id items rest place left nf none has.1
place_found flags options id (apart m v ∷ items) rest place left nf none has =
    past_row id (value_use m v) (uses place left items rest) (apart_names options m id has.0.0 none) ∙ place_found flags options id items rest place left nf none has.1
place_found flags options id (joined m v ∷ items) rest place left nf none has =
    past_row id (value_use m v) (uses place left items rest) (apart_names options m id has.0 none) ∙ place_found flags options id items rest place left nf none has.1
place_found flags options id (plain w ∷ items) rest place [] nf none has = place_found flags options id items rest place [] nf none has.1
place_found flags options id (plain w ∷ items) rest place (l ∷ left) nf none has =
    at_row_of id (place_use l place w) (uses (min (place + 1) usize_max) left items rest) w refl
    ∙ ap (first_or (bytes_eq l id) w) (place_found flags options id items rest (min (place + 1) usize_max) left nf none has.1)
