-- Words that pass are items.
use Rattle.std.proofs.Common.{◌≡◌, ℕ, ◌+◌, ◌==◌, ◌≤◌, min, Bool, true, false, refl, sym, ap, ◌∙◌, subst, arith, List, [], ◌∷◌, ◌++◌, map, length, Option, Some, None, codes, append-nil, append_assoc, inl, inr}
use Rattle.std.specs.Prelude.{flat_map}
use Rattle.std.specs.Str.{IsUtf8}
use Rattle.std.proofs.lemmas.Bool.{false≢true}
use Rattle.std.proofs.lemmas.Bool.Decides.{nat_tests}
use Rattle.zd_ports.specs.Words.{is_option}
use Rattle.clap.specs.Lexer.{name_and_value, usize_max}
use Rattle.clap.specs.Walk.{Row, Rule, Text, Walk, idle, option, arg_by_long, walked}
use Rattle.clap.specs.Simple.{filled}
use Rattle.clap.specs.Kinds.{Kinds, or_else}
use Rattle.clap.specs.Faults.{settle_fault, turn_fault, walk_fault}
use Rattle.zd_commands.specs.Spelling.{Item, EndsWith, IsItem, apart, dashed, flag, is_among, item_plain, item_words, joined, plain}
use Rattle.zd_commands.specs.Table.{flag_rule, option_rule}
use Rattle.zd_commands.proofs.Names.{IsNamed, after_dash, first_char, named}
use Rattle.zd_commands.proofs.Rows.{Use, IsHeld, IsNew, IsNewHeld, first_free, second_free, flag_use, value_use, place_use, use_row, held, not_free, one, pending_use, react, react_once, settle_once}
use Rattle.zd_commands.proofs.Turns.{PlacesFrom, apart_turn, apart_walked, calm, ending_for, ending_turn, ending_walked, flag_turn, flag_value, flag_walked, joined_turn, joined_walked, long_for_value, no_option, no_value, shape, step_place, step_stray, stray_long, stray_short, trail_for_value, trail_turn, trail_walked, trails_for, value_turn, value_walked, waits_for, word_turn, word_walked}
use Rattle.zd_commands.proofs.Passing.{AllItems, AllNew, HasRoom, IsTable, Passes, place_uses, uses}

abbrev pub AllUtf8 : List Text → Type 0
AllUtf8 [] = Unit {0}
AllUtf8 (w ∷ words) = IsUtf8 w × AllUtf8 words

module _ (rules : List Rule) where
  turn_free : (w after : Walk) (word : Text) (words : List Text) → Passes rules w (word ∷ words) → turn_fault (shape rules) [] w word ≡ []
  unfolding walk_fault
  turn_free w after word words h = first_free (turn_fault (shape rules) [] w word) _ h.0

  rest_passes : (w after : Walk) (word : Text) (words : List Text) → walked rules [] w word ≡ after → Passes rules w (word ∷ words) → Passes rules after words
  unfolding walk_fault
  rest_passes w after word words is h =
      subst (λ (x : Walk). Passes rules x words) is (second_free (turn_fault (shape rules) [] w word) _ h.0, h.1)

  -- words at places
  pub record IsTrail (us : List Use) (p : Option Use) (place : ℕ) (left words : List Text) : Type 0 where
    pub new : IsNewHeld p us
    pub all : AllNew (us ++ one p) (place_uses place left words)
    pub room : length words ≤ length left

  trail : (words : List Text) (us : List Use) (p : Option Use) (place : ℕ) (left : List Text) → PlacesFrom rules place left → IsHeld rules p
      → Passes rules (calm rules us p place true) words → IsTrail us p place left words
  trail [] us p place left places own h = record {
    new = settle_once rules us p own h.1;
    all = none left;
    room = omega arith;
  }
    where
      none : (left : List Text) → AllNew (us ++ one p) (place_uses place left [])
      none [] = tt
      none (id ∷ left) = tt
  trail (w ∷ words) us p place [] places own h =
      absurd (not_free _ [] (sym (step_stray rules place (held us p) places) ∙ turn_free (calm rules us p place true) (calm rules us p place true) w words h))
  trail (w ∷ words) us p place (id ∷ left) places own h =
      let free = turn_free (calm rules us p place true) (calm rules us p place true) w words h in
      let new = settle_once rules us p own (sym (step_place rules place id (held us p) places.0) ∙ free) in
      let more = trail words (us ++ one p) (Some (place_use id place w)) (min (place + 1) usize_max) left places.2 places.1
      (rest_passes (calm rules us p place true) (calm rules (us ++ one p) (Some (place_use id place w)) (min (place + 1) usize_max) true) w words
      (trail_walked rules us p place id w places.0 own new) h) in
      record { new = new; all = (more.new, more.all); room = let few = more.room in omega (arith, few) }

  module _ (flags options : List Text) (t : IsTable rules flags options) where
    -- the words are items, and what they use is new
    pub record AreItems (us : List Use) (p : Option Use) (place : ℕ) (left words : List Text) : Type 0 where
      pub items : List Item
      pub «end» : List Text
      pub rest : List Text
      pub spelled : words ≡ flat_map item_words items ++ «end»
      pub ended : EndsWith «end» rest
      pub has : AllItems flags options items
      pub new : IsNewHeld p us
      pub all : AllNew (us ++ one p) (uses place left items rest)
      pub room : HasRoom left items rest

    -- the first word is a value
    pub record IsValued (us : List Use) (n : Text) (place : ℕ) (left words : List Text) : Type 0 where
      pub value : Text
      pub others : List Text
      pub spelled : words ≡ value ∷ others
      pub plain : is_option value ≡ false
      pub rest : AreItems us (Some (value_use n value)) place left others

    abbrev pub FromCalm : List Text → Type 0
    FromCalm words = (us : List Use) (p : Option Use) (place : ℕ) (left : List Text) → PlacesFrom rules place left → IsHeld rules p → AllUtf8 words
        → Passes rules (calm rules us p place false) words → AreItems us p place left words

    abbrev pub FromWaiting : List Text → Type 0
    FromWaiting words = (us : List Use) (n : Text) (place : ℕ) (left : List Text) → PlacesFrom rules place left → is_among options n ≡ true → AllUtf8 words
        → Passes rules (waits_for rules us n place) words → IsValued us n place left words

    -- one use more
    with_use : (us : List Use) (p : Option Use) (place : ℕ) (left : List Text) (u : Use) (word : Text) (words : List Text) (item : Item)
        → item_words item ≡ word ∷ [] → IsItem flags options item
        → ((items : List Item) (rest : List Text) → uses place left (item ∷ items) rest ≡ u ∷ uses place left items rest)
        → item_plain item ≡ []
        → IsNewHeld p us → IsNew u (us ++ one p) → AreItems ((us ++ one p) ++ u ∷ []) None place left words → AreItems us p place left (word ∷ words)
    with_use us p place left u word words item is has used none new next h = record {
      items = item ∷ h.items;
      «end» = h.«end»;
      rest = h.rest;
      spelled = ap (λ (ws : List Text). word ∷ ws) h.spelled ∙ ap (λ (ws : List Text). (ws ++ flat_map item_words h.items) ++ h.«end») (sym is);
      ended = h.ended;
      has = (has, h.has);
      new = new;
      all = subst (AllNew (us ++ one p)) (sym (used h.items h.rest))
          (next, subst (λ (vs : List Use). AllNew vs (uses place left h.items h.rest)) (append-nil ((us ++ one p) ++ u ∷ [])) h.all);
      room = subst (λ (ws : List Text). length ((ws ++ flat_map item_plain h.items) ++ h.rest) ≤ length left) (sym none) h.room;
    }

    plain_calm : (w : Text) (words : List Text) → FromCalm words → is_option w ≡ false → FromCalm (w ∷ words)
    plain_calm w words next is us p place [] places own utf h =
        absurd (not_free _ [] (sym (word_turn rules us p place w (no_option w is) ∙ step_stray rules place (held us p) places)
        ∙ turn_free (calm rules us p place false) (calm rules us p place false) w words h))
    plain_calm w words next is us p place (id ∷ left) places own utf h =
        let u = place_use id place w in
        let free = turn_free (calm rules us p place false) (calm rules us p place false) w words h in
        let new = settle_once rules us p own (sym (word_turn rules us p place w (no_option w is) ∙ step_place rules place id (held us p) places.0) ∙ free) in
        let more = next (us ++ one p) (Some u) (min (place + 1) usize_max) left places.2 places.1 utf.1
        (rest_passes (calm rules us p place false) (calm rules (us ++ one p) (Some u) (min (place + 1) usize_max) false) w words
        (word_walked rules us p place id w (no_option w is) places.0 own new) h) in
        record {
          items = plain w ∷ more.items;
          «end» = more.«end»;
          rest = more.rest;
          spelled = ap (λ (ws : List Text). w ∷ ws) more.spelled;
          ended = more.ended;
          has = (is, more.has);
          new = new;
          all = (more.new, more.all);
          room = let few = more.room in omega (arith, few);
        }

    flag_calm : (z : ℕ) (zs n : Text) (words : List Text) → FromCalm words → name_and_value (z ∷ zs) ≡ (n, None) → z ∷ zs ≡ n → is_among flags n ≡ true
        → FromCalm ((45 ∷ 45 ∷ z ∷ zs) ∷ words)
    flag_calm z zs n words next parts is known us p place left places own utf h =
        let u = flag_use n in
        let free = turn_free (calm rules us p place false) (calm rules us p place false) (45 ∷ 45 ∷ z ∷ zs) words h in
        let both = react_once rules us p u own (first_free (react rules us p u) [] (sym (flag_turn rules us p place z zs n parts (t.flag n known)) ∙ free)) in
        with_use us p place left u (45 ∷ 45 ∷ z ∷ zs) words (flag n) (ap (λ (m : Text). (45 ∷ 45 ∷ m) ∷ []) (sym is)) known (λ items rest. refl) refl both.0 both.1
        (next ((us ++ one p) ++ u ∷ []) None place left places tt utf.1
        (rest_passes (calm rules us p place false) (calm rules ((us ++ one p) ++ u ∷ []) None place false) (45 ∷ 45 ∷ z ∷ zs) words
        (flag_walked rules us p place z zs n parts (t.flag n known) own both.0 both.1) h))

    joined_calm : (z : ℕ) (zs n v : Text) (words : List Text) → FromCalm words → name_and_value (z ∷ zs) ≡ (n, Some v) → z ∷ zs ≡ n ++ 61 ∷ v → is_among options n ≡ true
        → FromCalm ((45 ∷ 45 ∷ z ∷ zs) ∷ words)
    joined_calm z zs n v words next parts is known us p place left places own utf h =
        let u = value_use n v in
        let free = turn_free (calm rules us p place false) (calm rules us p place false) (45 ∷ 45 ∷ z ∷ zs) words h in
        let both = react_once rules us p u own (first_free (react rules us p u) [] (sym (joined_turn rules us p place z zs n v parts (t.option n known)) ∙ free)) in
        with_use us p place left u (45 ∷ 45 ∷ z ∷ zs) words (joined n v) (ap (λ (m : Text). (45 ∷ 45 ∷ m) ∷ []) (sym is)) known (λ items rest. refl) refl both.0 both.1
        (next ((us ++ one p) ++ u ∷ []) None place left places tt utf.1
        (rest_passes (calm rules us p place false) (calm rules ((us ++ one p) ++ u ∷ []) None place false) (45 ∷ 45 ∷ z ∷ zs) words
        (joined_walked rules us p place z zs n v parts (t.option n known) own both.0 both.1) h))

    apart_calm : (z : ℕ) (zs n : Text) (words : List Text) → FromWaiting words → name_and_value (z ∷ zs) ≡ (n, None) → z ∷ zs ≡ n → is_among options n ≡ true
        → FromCalm ((45 ∷ 45 ∷ z ∷ zs) ∷ words)
    apart_calm z zs n words next parts is known us p place left places own utf h =
        let free = turn_free (calm rules us p place false) (calm rules us p place false) (45 ∷ 45 ∷ z ∷ zs) words h in
        let new = settle_once rules us p own (first_free (settle_fault rules false (held us p)) [] (sym (apart_turn rules us p place z zs n parts (t.option n known)) ∙ free)) in
        let more = next (us ++ one p) n place left places known utf.1
        (rest_passes (calm rules us p place false) (waits_for rules (us ++ one p) n place) (45 ∷ 45 ∷ z ∷ zs) words
        (apart_walked rules us p place z zs n parts (t.option n known) own new) h) in
        record {
          items = apart n more.value ∷ more.rest.items;
          «end» = more.rest.«end»;
          rest = more.rest.rest;
          spelled = ap (λ (ws : List Text). (45 ∷ 45 ∷ z ∷ zs) ∷ ws) (more.spelled ∙ ap (λ (ws : List Text). more.value ∷ ws) more.rest.spelled)
              ∙ ap (λ (m : Text). (45 ∷ 45 ∷ m) ∷ more.value ∷ (flat_map item_words more.rest.items ++ more.rest.«end»)) is;
          ended = more.rest.ended;
          has = ((known, more.plain), more.rest.has);
          new = new;
          all = (more.rest.new, more.rest.all);
          room = more.rest.room;
        }

    long_calm : (z : ℕ) (zs : Text) (words : List Text) → FromCalm words → FromWaiting words → (q : Text × Option Text) → name_and_value (z ∷ zs) ≡ q → IsNamed (z ∷ zs) q
        → (f o : Bool) → is_among flags q.0 ≡ f → is_among options q.0 ≡ o → FromCalm ((45 ∷ 45 ∷ z ∷ zs) ∷ words)
    long_calm z zs words next wait (n, None) parts is true o flagged optional = flag_calm z zs n words next parts is flagged
    long_calm z zs words next wait (n, Some v) parts is true o flagged optional = λ us p place left places own utf h.
        absurd (flag_value rules us p place z zs n v parts (t.flag n flagged) (turn_free (calm rules us p place false) (calm rules us p place false) (45 ∷ 45 ∷ z ∷ zs) words h))
    long_calm z zs words next wait (n, None) parts is false true flagged optional = apart_calm z zs n words wait parts is optional
    long_calm z zs words next wait (n, Some v) parts is false true flagged optional = joined_calm z zs n v words next parts is optional
    long_calm z zs words next wait (n, v) parts is false false flagged optional = λ us p place left places own utf h.
        absurd (stray_long rules us p place z zs n v parts (t.other n flagged optional)
        (turn_free (calm rules us p place false) (calm rules us p place false) (45 ∷ 45 ∷ z ∷ zs) words h))

    ending_calm : (words : List Text) → FromCalm ((45 ∷ 45 ∷ []) ∷ words)
    ending_calm words us p place left places own utf h =
        let more = trail words us p place left places own
        (rest_passes (calm rules us p place false) (calm rules us p place true) (45 ∷ 45 ∷ []) words (ending_walked rules us p place) h) in
        record {
          items = [];
          «end» = (45 ∷ 45 ∷ []) ∷ words;
          rest = words;
          spelled = refl;
          ended = inr refl;
          has = tt;
          new = more.new;
          all = more.all;
          room = more.room;
        }

    short_calm : (y : ℕ) (ys : Text) (words : List Text) → (y == 45) ≡ false → FromCalm ((45 ∷ y ∷ ys) ∷ words)
    short_calm y ys words is us p place left places own utf h =
        let char = first_char y ys (after_dash (y ∷ ys) utf.0) in
        absurd (stray_short rules idle place y char.0 ys char.1 (map use_row us) (pending_use p) is char.2 (t.short char.0)
        (turn_free (calm rules us p place false) (calm rules us p place false) (45 ∷ y ∷ ys) words h))

    -- ---- where a value is to come

    plain_waiting : (w : Text) (words : List Text) → FromCalm words → is_option w ≡ false → FromWaiting (w ∷ words)
    plain_waiting w words next is us n place left places known utf h = record {
      value = w;
      others = words;
      spelled = refl;
      plain = is;
      rest = next us (Some (value_use n w)) place left places (t.own n known) utf.1
          (rest_passes (waits_for rules us n place) (calm rules us (Some (value_use n w)) place false) w words
          (value_walked rules us n place w (no_option w is) (t.own n known)) h);
    }

    long_waiting : (z : ℕ) (zs : Text) (words : List Text) → FromWaiting ((45 ∷ 45 ∷ z ∷ zs) ∷ words)
    long_waiting z zs words us n place left places known utf h =
        absurd (long_for_value rules us n place z zs (t.own n known) (turn_free (waits_for rules us n place) (waits_for rules us n place) (45 ∷ 45 ∷ z ∷ zs) words h))

    ending_waiting : (words : List Text) → FromWaiting ((45 ∷ 45 ∷ []) ∷ words)
    ending_waiting words us n place left places known utf h =
        absurd (go words (rest_passes (waits_for rules us n place) (trails_for rules us n place) (45 ∷ 45 ∷ []) words (ending_for rules us n place) h))
      where
        go : (words : List Text) → Passes rules (trails_for rules us n place) words → ⊥
        go [] k = no_value rules us n (t.own n known) k.1
        go (w ∷ words) k = trail_for_value rules us n place w left places (t.own n known) (turn_free (trails_for rules us n place) (trails_for rules us n place) w words k)

    short_waiting : (y : ℕ) (ys : Text) (words : List Text) → (y == 45) ≡ false → FromWaiting ((45 ∷ y ∷ ys) ∷ words)
    short_waiting y ys words is us n place left places known utf h =
        let char = first_char y ys (after_dash (y ∷ ys) utf.0) in
        absurd (stray_short rules (option n) place y char.0 ys char.1 (map use_row us) (Some (n, [])) is char.2 (t.short char.0)
        (turn_free (waits_for rules us n place) (waits_for rules us n place) (45 ∷ y ∷ ys) words h))

    -- ---- all words

    abbrev FromBoth : List Text → Type 0
    FromBoth words = FromCalm words × FromWaiting words

    dashed_both : (ys : Text) (words : List Text) → FromBoth words → FromBoth ((45 ∷ 45 ∷ ys) ∷ words)
    dashed_both [] words next = (ending_calm words, ending_waiting words)
    dashed_both (z ∷ zs) words next = (
      long_calm z zs words next.0 next.1 (name_and_value (z ∷ zs)) refl (named (z ∷ zs))
          (is_among flags (name_and_value (z ∷ zs)).0) (is_among options (name_and_value (z ∷ zs)).0) refl refl,
      long_waiting z zs words,
    )

    option_both : (y : ℕ) (ys : Text) (words : List Text) → FromBoth words → (b : Bool) → (y == 45) ≡ b → FromBoth ((45 ∷ y ∷ ys) ∷ words)
    option_both y ys words next true e =
        let is : y ≡ 45 = grind (arith, nat_tests) in
        subst (λ (x : ℕ). FromBoth ((45 ∷ x ∷ ys) ∷ words)) (sym is) (dashed_both ys words next)
    option_both y ys words next false e = (short_calm y ys words e, short_waiting y ys words e)

    any_both : (w : Text) (words : List Text) → FromBoth words → (b : Bool) → is_option w ≡ b → FromBoth (w ∷ words)
    any_both w words next false e = (plain_calm w words next.0 e, plain_waiting w words next.0 e)
    any_both [] words next true e = absurd (false≢true e)
    any_both (x ∷ []) words next true e = absurd (false≢true e)
    any_both (x ∷ y ∷ ys) words next true e =
        let is : x ≡ 45 = grind (arith, nat_tests) in
        subst (λ (x : ℕ). FromBoth ((x ∷ y ∷ ys) ∷ words)) (sym is) (option_both y ys words next (y == 45) refl)

    from_both : (words : List Text) → FromBoth words
    from_both [] = (calm_none, waiting_none)
      where
        calm_none : FromCalm []
        calm_none us p place left places own utf h = record {
          items = [];
          «end» = [];
          rest = [];
          spelled = refl;
          ended = inl (refl, refl);
          has = tt;
          new = settle_once rules us p own h.1;
          all = none left;
          room = omega arith;
        }
          where
            none : (left : List Text) → AllNew (us ++ one p) (place_uses place left [])
            none [] = tt
            none (id ∷ left) = tt

        waiting_none : FromWaiting []
        waiting_none us n place left places known utf h = absurd (no_value rules us n (t.own n known) h.1)
    from_both (w ∷ words) = any_both w words (from_both words) (is_option w) refl

    pub spelled : (words : List Text) (us : List Use) (p : Option Use) (place : ℕ) (left : List Text) → PlacesFrom rules place left → IsHeld rules p → AllUtf8 words
        → Passes rules (calm rules us p place false) words → AreItems us p place left words
    spelled words = (from_both words).0
