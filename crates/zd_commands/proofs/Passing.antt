-- Words that are items pass, and leave the items' rows.
use Rattle.std.proofs.Common.{◌≡◌, ℕ, zero, suc, ◌+◌, ◌<◌, ◌≤◌, min, Bool, true, false, refl, sym, ap, ◌∙◌, subst, arith, List, [], ◌∷◌, ◌++◌, map, length, Option, Some, None, codes, append-nil, append_assoc, inl, inr}
use Rattle.std.specs.Prelude.{flat_map, fold}
use Rattle.std.specs.List.{list_all}
use Rattle.std.proofs.lemmas.Bool.{false≢true}
use Rattle.zd_ports.specs.Words.{is_option}
use Rattle.clap.specs.Lexer.{usize_max}
use Rattle.clap.specs.Walk.{Row, Rule, Text, Walk, arg_by_id, arg_by_long, arg_by_short, settled, walked}
use Rattle.clap.specs.Simple.{filled}
use Rattle.clap.specs.Kinds.{Kinds, or_else}
use Rattle.clap.specs.Faults.{settle_fault, turn_fault, walk_fault}
use Rattle.zd_commands.specs.Spelling.{Item, EndsWith, IsItem, apart, dashed, flag, is_among, item_plain, item_words, joined, plain}
use Rattle.zd_commands.specs.Table.{flag_rule, option_rule}
use Rattle.zd_commands.proofs.Names.{among_passes, is_name, name_alone, name_valued}
use Rattle.zd_commands.proofs.Rows.{Use, IsHeld, IsNew, IsNewHeld, both_free, flag_use, value_use, place_use, use_row, held, one, react_free, settle_free, settle_rows}
use Rattle.zd_commands.proofs.Turns.{PlacesFrom, apart_turn, apart_walked, calm, ending_turn, ending_walked, flag_turn, flag_walked, joined_turn, joined_walked, no_option, shape, step_place, trail_turn, trail_walked, value_turn, value_walked, waits_for, word_turn, word_walked}

-- the arguments of a program with these flags and options
pub record IsTable (rules : List Rule) (flags options : List Text) : Type 0 where
  pub flag : (n : Text) → is_among flags n ≡ true → arg_by_long rules n ≡ Some (filled (flag_rule n))
  pub option : (n : Text) → is_among options n ≡ true → arg_by_long rules n ≡ Some (filled (option_rule n))
  pub own : (n : Text) → is_among options n ≡ true → arg_by_id rules n ≡ Some (filled (option_rule n))
  pub other : (n : Text) → is_among flags n ≡ false → is_among options n ≡ false → arg_by_long rules n ≡ None
  pub short : (c : ℕ) → arg_by_short rules c ≡ None
  pub flags_named : list_all is_name flags ≡ true
  pub options_named : list_all is_name options ≡ true

-- the uses that words at places are
abbrev pub place_uses : ℕ → List Text → List Text → List Use
place_uses place [] words = []
place_uses place (id ∷ left) [] = []
place_uses place (id ∷ left) (w ∷ words) = place_use id place w ∷ place_uses (min (place + 1) usize_max) left words

-- the uses that items are, with the words behind `--`
abbrev pub uses : ℕ → List Text → List Item → List Text → List Use
uses place left [] rest = place_uses place left rest
uses place left (flag n ∷ items) rest = flag_use n ∷ uses place left items rest
uses place left (apart n v ∷ items) rest = value_use n v ∷ uses place left items rest
uses place left (joined n v ∷ items) rest = value_use n v ∷ uses place left items rest
uses place [] (plain w ∷ items) rest = uses place [] items rest
uses place (id ∷ left) (plain w ∷ items) rest = place_use id place w ∷ uses (min (place + 1) usize_max) left items rest

-- each use is new
abbrev pub AllNew : List Use → List Use → Type 0
AllNew us [] = Unit {0}
AllNew us (u ∷ more) = IsNew u us × AllNew (us ++ u ∷ []) more

abbrev pub AllItems : List Text → List Text → List Item → Type 0
AllItems flags options [] = Unit {0}
AllItems flags options (item ∷ items) = IsItem flags options item × AllItems flags options items

-- no more words than places
abbrev pub HasRoom : List Text → List Item → List Text → Type 0
HasRoom left items rest = length (flat_map item_plain items ++ rest) ≤ length left

same_uses : (us ws more : List Use) (u : Use) (rows : List Row) → rows ≡ map use_row ((us ++ u ∷ ws) ++ more) → ws ≡ [] → rows ≡ map use_row (us ++ u ∷ more)
same_uses us ws more u rows h e =
    h ∙ ap (λ (vs : List Use). map use_row ((us ++ u ∷ vs) ++ more)) e ∙ ap (map use_row) (append_assoc us (u ∷ []) more)

module _ (rules : List Rule) where
  abbrev pub end_of : Walk → List Text → Walk
  end_of w words = fold (walked rules []) w words

  -- the rest of the walk fails nowhere
  abbrev pub Passes : Walk → List Text → Type 0
  Passes w words = (walk_fault (shape rules) [] w words ≡ []) × (settle_fault rules false (end_of w words).held ≡ [])

  abbrev pub rows_left : Walk → List Text → List Row
  rows_left w words = (settled rules (end_of w words).held).rows

  pub next_passes : (w after : Walk) (word : Text) (words : List Text) → turn_fault (shape rules) [] w word ≡ [] → walked rules [] w word ≡ after → Passes after words
      → Passes w (word ∷ words)
  unfolding walk_fault
  next_passes w after word words here is h =
      (both_free _ _ here (ap (λ (x : Walk). walk_fault (shape rules) [] x words) is ∙ h.0), ap (λ (x : Walk). settle_fault rules false (end_of x words).held) is ∙ h.1)

  -- the words pass, and leave the rows of these uses
  abbrev pub Leaves : Walk → List Text → List Use → Type 0
  Leaves w words us = Passes w words × (rows_left w words ≡ map use_row us)

  next_leaves : (w after : Walk) (word : Text) (words : List Text) (us vs : List Use) → turn_fault (shape rules) [] w word ≡ [] → walked rules [] w word ≡ after
      → us ≡ vs → Leaves after words us → Leaves w (word ∷ words) vs
  next_leaves w after word words us vs here is e h =
      (next_passes w after word words here is h.0, ap (λ (x : Walk). rows_left x words) is ∙ h.1 ∙ ap (map use_row) e)

  ends : (us : List Use) (p : Option Use) (place : ℕ) (trailing : Bool) → IsHeld rules p → IsNewHeld p us → Leaves (calm rules us p place trailing) [] ((us ++ one p) ++ [])
  unfolding walk_fault
  ends us p place trailing own new =
      ((refl, settle_free rules us p own new), settle_rows rules us p own new ∙ ap (map use_row) (sym (append-nil (us ++ one p))))

  trails : (rest : List Text) (us : List Use) (p : Option Use) (place : ℕ) (left : List Text) → PlacesFrom rules place left → IsHeld rules p → IsNewHeld p us
      → AllNew (us ++ one p) (place_uses place left rest) → length rest ≤ length left
      → Leaves (calm rules us p place true) rest ((us ++ one p) ++ place_uses place left rest)
  trails [] us p place [] places own new all room = ends us p place true own new
  trails [] us p place (id ∷ left) places own new all room = ends us p place true own new
  trails (w ∷ rest) us p place [] places own new all room = absurd (omega (arith, room))
  trails (w ∷ rest) us p place (id ∷ left) places own new all room =
      next_leaves (calm rules us p place true) (calm rules (us ++ one p) (Some (place_use id place w)) (min (place + 1) usize_max) true) w rest _ _
      (trail_turn rules us p place w ∙ step_place rules place id (held us p) places.0 ∙ settle_free rules us p own new)
      (trail_walked rules us p place id w places.0 own new)
      (append_assoc (us ++ one p) (place_use id place w ∷ []) (place_uses (min (place + 1) usize_max) left rest))
      (trails rest (us ++ one p) (Some (place_use id place w)) (min (place + 1) usize_max) left places.2 places.1 all.0 all.1 (omega (arith, room)))

  no_places : (place : ℕ) (left : List Text) → place_uses place left [] ≡ []
  no_places place [] = refl
  no_places place (id ∷ left) = refl

  -- past an item that is one use
  more_new : (us : List Use) (u : Use) (more : List Use) → AllNew (us ++ u ∷ []) more → AllNew ((us ++ u ∷ []) ++ []) more
  more_new us u more h = subst (λ (vs : List Use). AllNew vs more) (sym (append-nil (us ++ u ∷ []))) h

  more_uses : (us : List Use) (u : Use) (more : List Use) → ((us ++ u ∷ []) ++ []) ++ more ≡ us ++ (u ∷ more)
  more_uses us u more = ap (λ (vs : List Use). vs ++ more) (append-nil (us ++ u ∷ [])) ∙ append_assoc us (u ∷ []) more

  module _ (flags options : List Text) (t : IsTable rules flags options) where
    ended : («end» rest : List Text) (us : List Use) (p : Option Use) (place : ℕ) (left : List Text) → PlacesFrom rules place left → IsHeld rules p → IsNewHeld p us
        → EndsWith «end» rest → AllNew (us ++ one p) (place_uses place left rest) → length rest ≤ length left
        → Leaves (calm rules us p place false) «end» ((us ++ one p) ++ place_uses place left rest)
    ended «end» rest us p place left places own new (inl h) all room =
        subst (λ (ws : List Text). Leaves (calm rules us p place false) ws ((us ++ one p) ++ place_uses place left rest)) (sym h.0)
        (subst (λ (vs : List Use). Leaves (calm rules us p place false) [] ((us ++ one p) ++ vs)) (sym (no_places place left) ∙ ap (place_uses place left) (sym h.1))
        (ends us p place false own new))
    ended «end» rest us p place left places own new (inr h) all room =
        subst (λ (ws : List Text). Leaves (calm rules us p place false) ws ((us ++ one p) ++ place_uses place left rest)) (sym h)
        (next_leaves (calm rules us p place false) (calm rules us p place true) (45 ∷ 45 ∷ []) rest _ _ (ending_turn rules us p place) (ending_walked rules us p place) refl
        (trails rest us p place left places own new all room))

    pub leaves : (items : List Item) («end» rest : List Text) (us : List Use) (p : Option Use) (place : ℕ) (left : List Text) → PlacesFrom rules place left → IsHeld rules p
        → IsNewHeld p us → AllItems flags options items → EndsWith «end» rest → AllNew (us ++ one p) (uses place left items rest) → HasRoom left items rest
        → Leaves (calm rules us p place false) (flat_map item_words items ++ «end») ((us ++ one p) ++ uses place left items rest)
    leaves [] «end» rest us p place left places own new has finish all room = ended «end» rest us p place left places own new finish all room
    leaves (flag [] ∷ items) «end» rest us p place left places own new has finish all room = absurd (false≢true (among_passes is_name flags [] t.flags_named has.0))
    leaves (flag (x ∷ xs) ∷ items) «end» rest us p place left places own new has finish all room =
        let n = x ∷ xs in
        let u = flag_use n in
        let parts = name_alone x xs (among_passes is_name flags n t.flags_named has.0) in
        next_leaves (calm rules us p place false) (calm rules ((us ++ one p) ++ u ∷ []) None place false) (dashed n) (flat_map item_words items ++ «end») _ _
        (flag_turn rules us p place x xs n parts (t.flag n has.0) ∙ both_free _ [] (react_free rules us p u own new all.0) refl)
        (flag_walked rules us p place x xs n parts (t.flag n has.0) own new all.0)
        (more_uses (us ++ one p) u (uses place left items rest))
        (leaves items «end» rest ((us ++ one p) ++ u ∷ []) None place left places tt tt has.1 finish (more_new (us ++ one p) u (uses place left items rest) all.1) room)
    leaves (joined [] v ∷ items) «end» rest us p place left places own new has finish all room = absurd (false≢true (among_passes is_name options [] t.options_named has.0))
    leaves (joined (x ∷ xs) v ∷ items) «end» rest us p place left places own new has finish all room =
        let n = x ∷ xs in
        let u = value_use n v in
        let parts = name_valued x xs v (among_passes is_name options n t.options_named has.0) in
        next_leaves (calm rules us p place false) (calm rules ((us ++ one p) ++ u ∷ []) None place false) (dashed n ++ 61 ∷ v) (flat_map item_words items ++ «end») _ _
        (joined_turn rules us p place x (xs ++ 61 ∷ v) n v parts (t.option n has.0) ∙ both_free _ [] (react_free rules us p u own new all.0) refl)
        (joined_walked rules us p place x (xs ++ 61 ∷ v) n v parts (t.option n has.0) own new all.0)
        (more_uses (us ++ one p) u (uses place left items rest))
        (leaves items «end» rest ((us ++ one p) ++ u ∷ []) None place left places tt tt has.1 finish (more_new (us ++ one p) u (uses place left items rest) all.1) room)
    leaves (apart [] v ∷ items) «end» rest us p place left places own new has finish all room = absurd (false≢true (among_passes is_name options [] t.options_named has.0.0))
    leaves (apart (x ∷ xs) v ∷ items) «end» rest us p place left places own new has finish all room =
        let n = x ∷ xs in
        let u = value_use n v in
        let parts = name_alone x xs (among_passes is_name options n t.options_named has.0.0) in
        let word = no_option v has.0.1 in
        next_leaves (calm rules us p place false) (waits_for rules (us ++ one p) n place) (dashed n) (v ∷ (flat_map item_words items ++ «end»)) _ _
        (apart_turn rules us p place x xs n parts (t.option n has.0.0) ∙ both_free _ [] (settle_free rules us p own new) refl)
        (apart_walked rules us p place x xs n parts (t.option n has.0.0) own new)
        refl
        (next_leaves (waits_for rules (us ++ one p) n place) (calm rules (us ++ one p) (Some u) place false) v (flat_map item_words items ++ «end») _ _
        (value_turn rules (us ++ one p) n place v word)
        (value_walked rules (us ++ one p) n place v word (t.own n has.0.0))
        (append_assoc (us ++ one p) (u ∷ []) (uses place left items rest))
        (leaves items «end» rest (us ++ one p) (Some u) place left places (t.own n has.0.0) all.0 has.1 finish all.1 room))
    leaves (plain w ∷ items) «end» rest us p place [] places own new has finish all room = absurd (omega (arith, room))
    leaves (plain w ∷ items) «end» rest us p place (id ∷ left) places own new has finish all room =
        let u = place_use id place w in
        let word = no_option w has.0 in
        next_leaves (calm rules us p place false) (calm rules (us ++ one p) (Some u) (min (place + 1) usize_max) false) w (flat_map item_words items ++ «end») _ _
        (word_turn rules us p place w word ∙ step_place rules place id (held us p) places.0 ∙ settle_free rules us p own new)
        (word_walked rules us p place id w word places.0 own new)
        (append_assoc (us ++ one p) (u ∷ []) (uses (min (place + 1) usize_max) left items rest))
        (leaves items «end» rest (us ++ one p) (Some u) (min (place + 1) usize_max) left places.2 places.1 all.0 has.1 finish all.1 (omega (arith, room)))
