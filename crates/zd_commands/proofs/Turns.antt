-- What clap makes of one word.
use Rattle.std.proofs.Common.{◌≡◌, ℕ, ◌+◌, min, Bool, cond, true, false, ◌||◌, ◌&&◌, ◌==◌, refl, sym, ap, ◌∙◌, List, [], ◌∷◌, ◌++◌, map, Option, Some, None, codes}
use Rattle.std.specs.Str.{bytes_eq}
use Rattle.std.proofs.lemmas.Slice.Eq.{bytes_eq-Decides}
use Rattle.std.proofs.lemmas.Bool.{false≢true}
use Rattle.zd_ports.specs.Words.{is_option}
use Rattle.std.specs.Prelude.{option_and_then, slice_get, drop, length, encode_utf8}
use Rattle.clap.specs.Lexer.{long_of, long_of_rest, short_of, short_of_rest, strip_byte, name_and_value, usize_max}
use Rattle.clap.specs.Walk.{takes_values, after_step, is_pending, pushed, to_positional, value, positional, Held, Rule, Row, Step, Text, Walk, Waiting, idle, option, after_flag, arg_by_id, arg_by_index, arg_by_long, arg_by_short, long_met, reacted, settled, walked, word_met, plain_word}
use Rattle.clap.specs.Simple.{Shape, filled, new_shape}
use Rattle.clap.specs.Kinds.{Kinds, or_else}
use Rattle.std.specs.Option.{option_map_or}
use Rattle.clap.specs.declared.error.kind.ErrorKind.TheVariants.{InvalidValue, TooManyValues, UnknownArgument}
use Rattle.std.specs.Str.{chars}
use Rattle.clap.specs.Faults.{bundle_fault, bundle_step_fault, flags_fault, short_fault, use_fault, positional_fault, long_fault, settle_fault, step_fault, stray_fault, turn_fault, word_fault}
use Rattle.zd_commands.specs.Table.{flag_rule, option_rule}
use Rattle.zd_commands.proofs.Rows.{Use, IsHeld, IsNew, IsNewHeld, first_free, not_free, pending_use, flag_use, value_use, place_use, use_row, use_rule, use_given, place_rule, held, react, react_held, settle_rows, one}

pub same_text : (t : Text) → bytes_eq t t ≡ true
same_text t = (bytes_eq-Decides t t).1 refl

and_false : (b : Bool) → (b && false) ≡ false
and_false true = refl
and_false false = refl

or_false : (b : Bool) → (b || false) ≡ b
or_false true = refl
or_false false = refl

-- a word that is no option is neither long nor short
pub record IsPlainWord (w : Text) : Type 0 where
  pub ending : bytes_eq w (45 ∷ 45 ∷ []) ≡ false
  pub long : long_of w ≡ None
  pub short : short_of w ≡ None

pub no_option : (w : Text) → is_option w ≡ false → IsPlainWord w
no_option [] h = record { ending = refl; long = refl; short = refl }
no_option (x ∷ []) h = record { ending = and_false (x == 45); long = long (x == 45); short = short (x == 45) }
  where
    long : (b : Bool) → option_and_then long_of_rest (option_and_then (strip_byte 45) (cond b (Some []) None)) ≡ None
    long true = refl
    long false = refl

    short : (b : Bool) → option_and_then short_of_rest (cond b (Some []) None) ≡ None
    short true = refl
    short false = refl
no_option (x ∷ y ∷ w) h = record { ending = rw h refl; long = rw h refl; short = rw h refl }

module _ (rules : List Rule) where
  abbrev pub shape : Shape
  shape = record (new_shape (codes "words")) {
    rules = rules;
    no_binary_name = true;
    disable_help_flag = true;
    disable_help_subcommand = true;
    is_built = true;
  }

  -- between two items
  abbrev pub calm : List Use → Option Use → ℕ → Bool → Walk
  calm us p place trailing = record { held = held us p; waiting = idle; position = place; is_trailing = trailing; stopped = None }

  abbrev long_kinds : List Use → Option Use → ℕ → Text → Option Rule → Option Text → Kinds
  long_kinds us p place word a v = or_else (long_fault rules false a v (held us p))
      (step_fault shape place
      (after_flag rules idle word (long_met rules a v (held us p)).0 (long_met rules a v (held us p)).1).0
      (after_flag rules idle word (long_met rules a v (held us p)).0 (long_met rules a v (held us p)).1).1)

  -- a long word
  long_turn : (us : List Use) (p : Option Use) (place x : ℕ) (xs n : Text) (v : Option Text) → name_and_value (x ∷ xs) ≡ (n, v)
      → turn_fault shape [] (calm us p place false) (45 ∷ 45 ∷ x ∷ xs) ≡ long_kinds us p place (45 ∷ 45 ∷ x ∷ xs) (arg_by_long rules n) v
  long_turn us p place x xs n v e = ap (λ (q : Text × Option Text). long_kinds us p place (45 ∷ 45 ∷ x ∷ xs) (arg_by_long rules q.0) q.1) e

  pub flag_turn : (us : List Use) (p : Option Use) (place x : ℕ) (xs n : Text) → name_and_value (x ∷ xs) ≡ (n, None) → arg_by_long rules n ≡ Some (use_rule (flag_use n))
      → turn_fault shape [] (calm us p place false) (45 ∷ 45 ∷ x ∷ xs) ≡ or_else (react rules us p (flag_use n)) []
  flag_turn us p place x xs n e is = rw (long_turn us p place x xs n None e, is) refl

  abbrev long_after : List Use → Option Use → ℕ → Text → Text × Option Text → Walk
  long_after us p place word q = after_step rules word (calm us p place false)
      (after_flag rules idle word (long_met rules (arg_by_long rules q.0) q.1 (held us p)).0 (long_met rules (arg_by_long rules q.0) q.1 (held us p)).1).0
      (after_flag rules idle word (long_met rules (arg_by_long rules q.0) q.1 (held us p)).0 (long_met rules (arg_by_long rules q.0) q.1 (held us p)).1).1

  long_walked : (us : List Use) (p : Option Use) (place x : ℕ) (xs n : Text) (v : Option Text) → name_and_value (x ∷ xs) ≡ (n, v)
      → walked rules [] (calm us p place false) (45 ∷ 45 ∷ x ∷ xs) ≡ long_after us p place (45 ∷ 45 ∷ x ∷ xs) (n, v)
  unfolding walked
  long_walked us p place x xs n v e = ap (long_after us p place (45 ∷ 45 ∷ x ∷ xs)) e

  -- a flag
  pub flag_walked : (us : List Use) (p : Option Use) (place x : ℕ) (xs n : Text) → name_and_value (x ∷ xs) ≡ (n, None) → arg_by_long rules n ≡ Some (use_rule (flag_use n))
      → IsHeld rules p → IsNewHeld p us → IsNew (flag_use n) (us ++ one p)
      → walked rules [] (calm us p place false) (45 ∷ 45 ∷ x ∷ xs) ≡ calm ((us ++ one p) ++ flag_use n ∷ []) None place false
  flag_walked us p place x xs n e is own new next =
      long_walked us p place x xs n None e ∙ rw is refl ∙ ap (λ (h : Held). record { held = h; waiting = idle; position = place; is_trailing = false; stopped = None }) (react_held rules us p (flag_use n) own new next)

  -- an option with its value behind `=`
  pub joined_turn : (us : List Use) (p : Option Use) (place x : ℕ) (xs n v : Text) → name_and_value (x ∷ xs) ≡ (n, Some v) → arg_by_long rules n ≡ Some (use_rule (value_use n v))
      → turn_fault shape [] (calm us p place false) (45 ∷ 45 ∷ x ∷ xs) ≡ or_else (react rules us p (value_use n v)) []
  joined_turn us p place x xs n v e is = rw (long_turn us p place x xs n (Some v) e, is) refl

  pub joined_walked : (us : List Use) (p : Option Use) (place x : ℕ) (xs n v : Text) → name_and_value (x ∷ xs) ≡ (n, Some v) → arg_by_long rules n ≡ Some (use_rule (value_use n v))
      → IsHeld rules p → IsNewHeld p us → IsNew (value_use n v) (us ++ one p)
      → walked rules [] (calm us p place false) (45 ∷ 45 ∷ x ∷ xs) ≡ calm ((us ++ one p) ++ value_use n v ∷ []) None place false
  joined_walked us p place x xs n v e is own new next =
      long_walked us p place x xs n (Some v) e ∙ rw is refl ∙ ap (λ (h : Held). record { held = h; waiting = idle; position = place; is_trailing = false; stopped = None }) (react_held rules us p (value_use n v) own new next)

  -- an option whose value comes next
  abbrev pub waits_for : List Use → Text → ℕ → Walk
  waits_for us n place = record {
    held = record { rows = map use_row us; pending = Some (n, []); skip = 0 };
    waiting = option n;
    position = place;
    is_trailing = false;
    stopped = None;
  }

  pub apart_turn : (us : List Use) (p : Option Use) (place x : ℕ) (xs n : Text) → name_and_value (x ∷ xs) ≡ (n, None) → arg_by_long rules n ≡ Some (filled (option_rule n))
      → turn_fault shape [] (calm us p place false) (45 ∷ 45 ∷ x ∷ xs) ≡ or_else (settle_fault rules false (held us p)) []
  apart_turn us p place x xs n e is = rw (long_turn us p place x xs n None e, is) refl

  pub apart_walked : (us : List Use) (p : Option Use) (place x : ℕ) (xs n : Text) → name_and_value (x ∷ xs) ≡ (n, None) → arg_by_long rules n ≡ Some (filled (option_rule n))
      → IsHeld rules p → IsNewHeld p us
      → walked rules [] (calm us p place false) (45 ∷ 45 ∷ x ∷ xs) ≡ waits_for (us ++ one p) n place
  apart_walked us p place x xs n e is own new =
      long_walked us p place x xs n None e ∙ rw is refl
      ∙ ap (λ (rows : List Row). record { held = record { rows = rows; pending = Some (n, []); skip = 0 }; waiting = option n; position = place; is_trailing = false; stopped = None })
      (settle_rows rules us p own new)

  -- what is met of a plain word
  plain_met : (waiting : Waiting) (place : ℕ) (w : Text) (h : Held) → IsPlainWord w → word_met rules [] false waiting place w h ≡ plain_word rules waiting w h
  plain_met idle place w h is = rw (is.ending, is.long, is.short) refl
  plain_met (option n) place w h is = rw (is.ending, is.long, is.short) refl
  plain_met positional place w h is = rw (is.ending, is.long, is.short) refl

  plain_fault : (waiting : Waiting) (w : Text) (h : Held) → IsPlainWord w → word_fault shape [] false waiting w h ≡ []
  plain_fault idle w h is = rw (is.ending, is.long, is.short) refl
  plain_fault (option n) w h is = rw (is.ending, is.long, is.short) refl
  plain_fault positional w h is = rw (is.ending, is.long, is.short) refl

  -- the value of an option
  pub value_turn : (us : List Use) (n : Text) (place : ℕ) (w : Text) → IsPlainWord w → turn_fault shape [] (waits_for us n place) w ≡ []
  value_turn us n place w is = rw (plain_fault (option n) w (waits_for us n place).held is, plain_met (option n) place w (waits_for us n place).held is) refl

  pub value_walked : (us : List Use) (n : Text) (place : ℕ) (w : Text) → IsPlainWord w → arg_by_id rules n ≡ Some (filled (option_rule n))
      → walked rules [] (waits_for us n place) w ≡ calm us (Some (value_use n w)) place false
  unfolding walked
  value_walked us n place w is own = rw (plain_met (option n) place w (waits_for us n place).held is, own, same_text n) refl

  -- ---- a word that goes to a place

  -- the places from this number on are these
  abbrev pub PlacesFrom : ℕ → List Text → Type 0
  PlacesFrom place [] = arg_by_index rules place ≡ None
  PlacesFrom place (id ∷ left) = (arg_by_index rules place ≡ Some (place_rule id place)) × (arg_by_id rules id ≡ Some (place_rule id place))
      × PlacesFrom (min (place + 1) usize_max) left

  pub step_place : (place : ℕ) (id : Text) (h : Held) → arg_by_index rules place ≡ Some (place_rule id place) → step_fault shape place h value ≡ settle_fault rules false h
  step_place place id h is =
      ap (λ (a : Option Rule). option_map_or (λ a. positional_fault rules false a h) a (UnknownArgument ∷ [])) is
      ∙ ap (λ (b : Bool). cond b [] (settle_fault rules false h)) (and_false (is_pending (place_rule id place) h.pending))

  pub step_stray : (place : ℕ) (h : Held) → arg_by_index rules place ≡ None → step_fault shape place h value ≡ UnknownArgument ∷ []
  step_stray place h is = ap (λ (a : Option Rule). option_map_or (λ a. positional_fault rules false a h) a (UnknownArgument ∷ [])) is

  pub word_turn : (us : List Use) (p : Option Use) (place : ℕ) (w : Text) → IsPlainWord w
      → turn_fault shape [] (calm us p place false) w ≡ step_fault shape place (held us p) value
  word_turn us p place w is = rw (plain_fault idle w (held us p) is, plain_met idle place w (held us p) is) refl

  pub trail_turn : (us : List Use) (p : Option Use) (place : ℕ) (w : Text) → turn_fault shape [] (calm us p place true) w ≡ step_fault shape place (held us p) value
  trail_turn us p place w = refl

  placed : (us : List Use) (p : Option Use) (place : ℕ) (trailing : Bool) (id w : Text) → arg_by_index rules place ≡ Some (place_rule id place)
      → IsHeld rules p → IsNewHeld p us
      → after_step rules w (calm us p place trailing) (held us p) value ≡ calm (us ++ one p) (Some (place_use id place w)) (min (place + 1) usize_max) trailing
  placed us p place trailing id w is own new =
      ap (λ (a : Option Rule). to_positional rules a w (calm us p place trailing) (held us p)) is
      ∙ ap (λ (b : Bool). record {
        held = pushed id w (cond b (held us p) (settled rules (held us p)));
        waiting = idle;
        position = min (place + 1) usize_max;
        is_trailing = trailing || false;
        stopped = None;
      }) (and_false (is_pending (place_rule id place) (pending_use p)))
      ∙ ap (λ (b : Bool). record {
        held = pushed id w (settled rules (held us p));
        waiting = idle;
        position = min (place + 1) usize_max;
        is_trailing = b;
        stopped = None;
      }) (or_false trailing)
      ∙ ap (λ (rows : List Row). record {
        held = record { rows = rows; pending = Some (id, w ∷ []); skip = 0 };
        waiting = idle;
        position = min (place + 1) usize_max;
        is_trailing = trailing;
        stopped = None;
      }) (settle_rows rules us p own new)

  pub word_walked : (us : List Use) (p : Option Use) (place : ℕ) (id w : Text) → IsPlainWord w → arg_by_index rules place ≡ Some (place_rule id place)
      → IsHeld rules p → IsNewHeld p us
      → walked rules [] (calm us p place false) w ≡ calm (us ++ one p) (Some (place_use id place w)) (min (place + 1) usize_max) false
  unfolding walked
  word_walked us p place id w plain is own new =
      ap (λ (met : Held × Step). after_step rules w (calm us p place false) met.0 met.1) (plain_met idle place w (held us p) plain) ∙ placed us p place false id w is own new

  pub trail_walked : (us : List Use) (p : Option Use) (place : ℕ) (id w : Text) → arg_by_index rules place ≡ Some (place_rule id place)
      → IsHeld rules p → IsNewHeld p us
      → walked rules [] (calm us p place true) w ≡ calm (us ++ one p) (Some (place_use id place w)) (min (place + 1) usize_max) true
  unfolding walked
  trail_walked us p place id w is own new = placed us p place true id w is own new

  -- `--`
  pub ending_turn : (us : List Use) (p : Option Use) (place : ℕ) → turn_fault shape [] (calm us p place false) (45 ∷ 45 ∷ []) ≡ []
  ending_turn us p place = refl

  pub ending_walked : (us : List Use) (p : Option Use) (place : ℕ) → walked rules [] (calm us p place false) (45 ∷ 45 ∷ []) ≡ calm us p place true
  unfolding walked
  ending_walked us p place = refl

  -- ---- words that are refused

  pub stray_long : (us : List Use) (p : Option Use) (place x : ℕ) (xs n : Text) (v : Option Text) → name_and_value (x ∷ xs) ≡ (n, v) → arg_by_long rules n ≡ None
      → turn_fault shape [] (calm us p place false) (45 ∷ 45 ∷ x ∷ xs) ≡ [] → ⊥
  stray_long us p place x xs n v e is h =
      not_free UnknownArgument [] (sym (long_turn us p place x xs n v e ∙ ap (λ (a : Option Rule). long_kinds us p place (45 ∷ 45 ∷ x ∷ xs) a v) is) ∙ h)

  pub flag_value : (us : List Use) (p : Option Use) (place x : ℕ) (xs n v : Text) → name_and_value (x ∷ xs) ≡ (n, Some v) → arg_by_long rules n ≡ Some (filled (flag_rule n))
      → turn_fault shape [] (calm us p place false) (45 ∷ 45 ∷ x ∷ xs) ≡ [] → ⊥
  flag_value us p place x xs n v e is h =
      not_free TooManyValues [] (sym (long_turn us p place x xs n (Some v) e ∙ ap (λ (a : Option Rule). long_kinds us p place (45 ∷ 45 ∷ x ∷ xs) a (Some v)) is) ∙ h)

  -- a word of short options, of which there is none
  first_flag : (y c : ℕ) (ys cs : Text) (h : Held) → chars (y ∷ ys) ≡ c ∷ cs → arg_by_short rules c ≡ None
      → flags_fault rules false (length (y ∷ ys)) (y ∷ ys) 0 h ≡ UnknownArgument ∷ []
  unfolding flags_fault
  first_flag y c ys cs h is none =
      ap (λ (found : Text). bundle_step_fault rules false (slice_get found 0) (y ∷ ys) 0 h (flags_fault rules false (length ys))) is
      ∙ ap (λ (a : Option Rule). short_fault rules false a (drop (length (encode_utf8 c)) (y ∷ ys)) h (flags_fault rules false (length ys) (drop (length (encode_utf8 c)) (y ∷ ys)) 0)) none

  short_is : (y : ℕ) (ys : Text) → (y == 45) ≡ false → short_of (45 ∷ y ∷ ys) ≡ Some (y ∷ ys)
  short_is y ys e = rw e refl

  from_flags : (y c : ℕ) (ys cs : Text) (rows : List Row) (pending : Option (Text × List Text)) → (y == 45) ≡ false → chars (y ∷ ys) ≡ c ∷ cs → arg_by_short rules c ≡ None
      → option_map_or (λ flags. bundle_fault rules false flags (record { rows = rows; pending = pending; skip = 0 })) (short_of (45 ∷ y ∷ ys)) [] ≡ UnknownArgument ∷ []
  from_flags y c ys cs rows pending e is none =
      ap (λ (s : Option Text). option_map_or (λ flags. bundle_fault rules false flags (record { rows = rows; pending = pending; skip = 0 })) s []) (short_is y ys e)
      ∙ first_flag y c ys cs (record { rows = rows; pending = pending; skip = 0 }) is none

  short_word : (waiting : Waiting) (y c : ℕ) (ys cs : Text) (rows : List Row) (pending : Option (Text × List Text)) → (y == 45) ≡ false → chars (y ∷ ys) ≡ c ∷ cs
      → arg_by_short rules c ≡ None → word_fault shape [] false waiting (45 ∷ y ∷ ys) (record { rows = rows; pending = pending; skip = 0 }) ≡ UnknownArgument ∷ []
  short_word idle y c ys cs rows pending e is none = rw e (from_flags y c ys cs rows pending e is none)
  short_word (option n) y c ys cs rows pending e is none = rw e (from_flags y c ys cs rows pending e is none)
  short_word positional y c ys cs rows pending e is none = rw e (from_flags y c ys cs rows pending e is none)

  pub stray_short : (waiting : Waiting) (place y c : ℕ) (ys cs : Text) (rows : List Row) (pending : Option (Text × List Text)) → (y == 45) ≡ false → chars (y ∷ ys) ≡ c ∷ cs
      → arg_by_short rules c ≡ None
      → turn_fault shape [] (record { held = record { rows = rows; pending = pending; skip = 0 }; waiting = waiting; position = place; is_trailing = false; stopped = None }) (45 ∷ y ∷ ys) ≡ []
      → ⊥
  stray_short waiting place y c ys cs rows pending e is none h =
      not_free UnknownArgument [] (sym (short_word waiting y c ys cs rows pending e is none) ∙ first_free _ (step_fault shape place
      (word_met rules [] false waiting place (45 ∷ y ∷ ys) (record { rows = rows; pending = pending; skip = 0 })).0
      (word_met rules [] false waiting place (45 ∷ y ∷ ys) (record { rows = rows; pending = pending; skip = 0 })).1) h)

  -- ---- an option without a value

  abbrev pub lacking : List Use → Text → Held
  lacking us n = record { rows = map use_row us; pending = Some (n, []); skip = 0 }

  pub no_value : (us : List Use) (n : Text) → arg_by_id rules n ≡ Some (filled (option_rule n)) → settle_fault rules false (lacking us n) ≡ [] → ⊥
  no_value us n own h = not_free InvalidValue [] (sym (ap (λ (a : Option Rule). option_map_or (λ a. use_fault false a [] (map use_row us)) a []) own) ∙ h)

  -- a long word after it fails, whatever it names
  after_none : (h : Held) (a : Option Rule) (v : Option Text) → (settle_fault rules false h ≡ [] → ⊥) → long_fault rules false a v h ≡ [] → ⊥
  after_none h None v bad e = not_free UnknownArgument [] e
  after_none h (Some a) (Some v) bad e = by (takes_values a) e
    where
      by : (b : Bool) → cond b (or_else (settle_fault rules false h) (use_fault false a (v ∷ []) (settled rules h).rows)) (TooManyValues ∷ []) ≡ [] → ⊥
      by true k = bad (first_free (settle_fault rules false h) _ k)
      by false k = not_free TooManyValues [] k
  after_none h (Some a) None bad e = by (takes_values a) e
    where
      by : (b : Bool) → cond b (settle_fault rules false h) (or_else (settle_fault rules false h) (use_fault false a [] (settled rules h).rows)) ≡ [] → ⊥
      by true k = bad k
      by false k = bad (first_free (settle_fault rules false h) _ k)

  pub long_for_value : (us : List Use) (n : Text) (place x : ℕ) (xs : Text) → arg_by_id rules n ≡ Some (filled (option_rule n))
      → turn_fault shape [] (waits_for us n place) (45 ∷ 45 ∷ x ∷ xs) ≡ [] → ⊥
  long_for_value us n place x xs own h =
      after_none (lacking us n) (arg_by_long rules (name_and_value (x ∷ xs)).0) (name_and_value (x ∷ xs)).1 (no_value us n own)
      (first_free (long_fault rules false (arg_by_long rules (name_and_value (x ∷ xs)).0) (name_and_value (x ∷ xs)).1 (lacking us n)) (step_fault shape place
      (word_met rules [] false (option n) place (45 ∷ 45 ∷ x ∷ xs) (lacking us n)).0
      (word_met rules [] false (option n) place (45 ∷ 45 ∷ x ∷ xs) (lacking us n)).1) h)

  abbrev pub trails_for : List Use → Text → ℕ → Walk
  trails_for us n place = record { held = lacking us n; waiting = option n; position = place; is_trailing = true; stopped = None }

  pub ending_for : (us : List Use) (n : Text) (place : ℕ) → walked rules [] (waits_for us n place) (45 ∷ 45 ∷ []) ≡ trails_for us n place
  unfolding walked
  ending_for us n place = refl

  pub trail_for_value : (us : List Use) (n : Text) (place : ℕ) (w : Text) (left : List Text) → PlacesFrom place left → arg_by_id rules n ≡ Some (filled (option_rule n))
      → turn_fault shape [] (trails_for us n place) w ≡ [] → ⊥
  trail_for_value us n place w [] places own h = not_free UnknownArgument [] (sym (step_stray place (lacking us n) places) ∙ h)
  trail_for_value us n place w (id ∷ left) places own h = no_value us n own (sym (step_place place id (lacking us n) places.0) ∙ h)
