-- A program's words, by clap's answer.
use Rattle.std.proofs.Common.{◌≡◌, ◌≢◌, ℕ, zero, suc, ◌+◌, ◌<◌, ◌≤◌, min, Bool, cond, true, false, ◌||◌, ◌&&◌, not, refl, sym, ap, ◌∙◌, subst, arith, List, [], ◌∷◌, ◌++◌, map, length, Option, Some, None, codes, Result, Ok, Err, IfOk, IfSome, IfNone}
use Rattle.std.specs.Prelude.{All, flat_map, fold, find, option_and_then, slice_get}
use Rattle.std.specs.List.{AllByRecursion, IsDistinct, list_all, list_any}
use Rattle.std.specs.Option.{option_map_or, is_some}
use Rattle.std.specs.Str.{bytes_eq}
use Rattle.std.proofs.lemmas.Bool.{false≢true}
use Rattle.clap.specs.Walk.{Held, Row, Rule, Text, arg_by_id, arg_by_long, arg_by_short, first_of, has_long, has_row, is_empty, nothing_held, one_of, row_text, settled, walk, walk_from, walked, with_default}
use Rattle.clap.specs.Simple.{App, Shape, built, filled, matches_of}
use Rattle.std.specs.Prelude.{string_bytes, String}
use Rattle.std.proofs.lemmas.Str.{IsUtf8-string_bytes}
use Rattle.clap.specs.Walk.{rows_of}
use Rattle.clap.specs.Matches.{found_of}
use Rattle.clap.specs.Simple.{HasMatchesOf, is_simple}
use Rattle.clap.specs.declared.parser.matches.ArgMatches.{ArgMatches}
use Rattle.clap.specs.Kinds.{Kinds, or_else}
use Rattle.clap.specs.Faults.{check_fault, default_fault, defaults_fault, is_free_app, is_simple_and_free, fault_of, given_default_fault, level_fault, settle_fault, walk_fault}
use Rattle.clap.proofs.FaultLemmas.{leaf_fault}
use Rattle.zd_commands.specs.Spelling.{IsReading, Item, IsItem, flags_of, is_among, item_names, item_plain, value_of}
use Rattle.zd_commands.specs.Founds.{FindsRows, IsRead, IsUnread, at_place}
use Rattle.zd_commands.specs.Table.{IsRefused, IsTaken, app_with, flag_rule, option_rule}
use Rattle.zd_commands.proofs.Names.{is_name}
use Rattle.zd_commands.proofs.Rows.{Use, both_free, first_free, second_free, use_row}
use Rattle.zd_commands.proofs.Turns.{PlacesFrom, calm, shape}
use Rattle.zd_commands.proofs.Passing.{AllItems, AllNew, HasRoom, IsTable, Leaves, Passes, end_of, leaves, uses}
use Rattle.zd_commands.proofs.Spelled.{AllUtf8, AreItems, spelled}
use Rattle.zd_commands.proofs.Lookups.{default_for, filled_in, first_in, flag_found, flag_text, kept, neither_left, no_row, option_found, place_found, row_with, text_is}
use Rattle.zd_commands.proofs.Once.{AreApart, all_new, distinct}

-- ---- lists

pub each_item : (flags options : List Text) (items : List Item) → All (IsItem flags options) items → AllItems flags options items
each_item flags options [] h = tt
each_item flags options (item ∷ items) h = (h 0 item (omega arith), each_item flags options items (λ k d lt. h (suc k) d (omega (arith, lt))))

pub all_items : (flags options : List Text) (items : List Item) → AllItems flags options items → All (IsItem flags options) items
all_items flags options [] h k d lt = absurd (omega (arith, lt))
all_items flags options (item ∷ items) h zero d lt = h.0
all_items flags options (item ∷ items) h (suc k) d lt = all_items flags options items h.1 k d (omega (arith, lt))

-- what holds of each of some names holds of a name among them
pub by_name : (P : Text → Type 0) (names : List Text) (n : Text) → AllByRecursion P names → is_among names n ≡ true → P n
by_name P [] n all h = absurd (false≢true h)
by_name P (m ∷ names) n all h = go (bytes_eq m n) refl h (by_name P names n all.1)
  where
    go : (b : Bool) → bytes_eq m n ≡ b → (b || is_among names n) ≡ true → (is_among names n ≡ true → P n) → P n
    go true e k next = subst P (text_is m n e) all.0
    go false e k next = next k

-- ---- the arguments of a program

abbrev long_test : Text → Rule → Bool
long_test n a = not (is_some a.index) && has_long a n

other_flags : (n : Text) (flags : List Text) (more : List Rule) → is_among flags n ≡ false → find (long_test n) more ≡ None
    → find (long_test n) (map (λ m. filled (flag_rule m)) flags ++ more) ≡ None
other_flags n [] more h rest = rest
other_flags n (m ∷ flags) more h rest =
    let both = neither_left (bytes_eq m n) (is_among flags n) h in
    ap (λ (b : Bool). cond (b || false) (Some (filled (flag_rule m))) (find (long_test n) (map (λ m. filled (flag_rule m)) flags ++ more))) both.0 ∙ other_flags n flags more both.1 rest

other_options : (n : Text) (options : List Text) (more : List Rule) → is_among options n ≡ false → find (long_test n) more ≡ None
    → find (long_test n) (map (λ m. filled (option_rule m)) options ++ more) ≡ None
other_options n [] more h rest = rest
other_options n (m ∷ options) more h rest =
    let both = neither_left (bytes_eq m n) (is_among options n) h in
    ap (λ (b : Bool). cond (b || false) (Some (filled (option_rule m))) (find (long_test n) (map (λ m. filled (option_rule m)) options ++ more))) both.0
    ∙ other_options n options more both.1 rest

-- what computes of a program whose names are written out
pub record IsProgram (flags options places : List Text) : Type 0 where
  pub rules : List Rule
  pub place_rules : List Rule
  pub top : (built (app_with flags options places)).top ≡ shape rules
  pub subs : (built (app_with flags options places)).subs ≡ []
  pub split : rules ≡ map (λ m. filled (flag_rule m)) flags ++ (map (λ m. filled (option_rule m)) options ++ place_rules)
  pub flag : AllByRecursion (λ n. arg_by_long rules n ≡ Some (filled (flag_rule n))) flags
  pub option : AllByRecursion (λ n. arg_by_long rules n ≡ Some (filled (option_rule n))) options
  pub own : AllByRecursion (λ n. arg_by_id rules n ≡ Some (filled (option_rule n))) options
  pub no_long : (n : Text) → find (long_test n) place_rules ≡ None
  pub short : (c : ℕ) → arg_by_short rules c ≡ None
  pub placed : PlacesFrom rules 1 places
  pub named : list_all is_name flags ≡ true
  pub options_named : list_all is_name options ≡ true
  pub flags_apart : AllByRecursion (λ n. is_among flags n ≡ false) places
  pub options_apart : AllByRecursion (λ n. is_among options n ≡ false) places
  pub both_apart : AllByRecursion (λ n. is_among options n ≡ false) flags
  pub optional : AllByRecursion (λ n. is_among flags n ≡ false) options
  pub unplaced : AllByRecursion (λ n. is_among places n ≡ false) flags
  pub unplaced_options : AllByRecursion (λ n. is_among places n ≡ false) options
  pub distinct : IsDistinct bytes_eq places
  pub defaults : AllByRecursion (λ a. cond (is_empty a.defaults) [] (given_default_fault a a.defaults) ≡ []) rules
  pub checks : (rows : List Row) → check_fault (shape rules) rows false ≡ []
  pub flag_defaults : AllByRecursion (λ n. option_and_then row_text (default_for n rules) ≡ Some (codes "false")) flags
  pub option_defaults : AllByRecursion (λ n. default_for n rules ≡ None) options
  pub place_defaults : AllByRecursion (λ n. default_for n rules ≡ None) places

module _ (flags options places : List Text) (p : IsProgram flags options places) where
  table : IsTable p.rules flags options
  table = record {
    flag = λ n. by_name (λ n. arg_by_long p.rules n ≡ Some (filled (flag_rule n))) flags n p.flag;
    option = λ n. by_name (λ n. arg_by_long p.rules n ≡ Some (filled (option_rule n))) options n p.option;
    own = λ n. by_name (λ n. arg_by_id p.rules n ≡ Some (filled (option_rule n))) options n p.own;
    other = λ n f o. ap (find (long_test n)) p.split ∙ other_flags n flags (map (λ m. filled (option_rule m)) options ++ p.place_rules) f (other_options n options p.place_rules o (p.no_long n));
    short = p.short;
    flags_named = p.named;
    options_named = p.options_named;
  }

  defaults_free : (rows : List Row) (rules : List Rule) → AllByRecursion (λ a. cond (is_empty a.defaults) [] (given_default_fault a a.defaults) ≡ []) rules → defaults_fault rows rules ≡ []
  unfolding defaults_fault
  defaults_free rows [] h = refl
  defaults_free rows (a ∷ rules) h = both_free (default_fault rows a) (defaults_fault (with_default rows a) rules) (go (has_row a.id rows) (is_empty a.defaults) h.0) (defaults_free (with_default rows a) rules h.1)
    where
      go : (b e : Bool) → cond e [] (given_default_fault a a.defaults) ≡ [] → cond (b || e) [] (given_default_fault a a.defaults) ≡ []
      go true e k = refl
      go false e k = k

  abbrev start : List Text → Type 0
  start words = Passes p.rules (calm p.rules [] None 1 false) words

  level : (words : List Text) → fault_of (app_with flags options places) words ≡ level_fault (shape p.rules) [] nothing_held words false []
  level words = leaf_fault (built (app_with flags options places)) nothing_held words p.subs ∙ ap (λ (s : Shape). level_fault s [] nothing_held words false []) p.top

  abbrev last_held : List Text → Held
  last_held words = (end_of p.rules (calm p.rules [] None 1 false) words).held

  passes_from : (words : List Text) → fault_of (app_with flags options places) words ≡ [] → start words
  passes_from words h =
      let all = sym (level words) ∙ h in
      let walk_kinds = walk_fault (shape p.rules) [] (calm p.rules [] None 1 false) words in
      (first_free walk_kinds _ all, first_free (settle_fault p.rules false (last_held words)) _ (second_free walk_kinds _ all))

  free_from : (words : List Text) → start words → fault_of (app_with flags options places) words ≡ []
  free_from words h =
      level words
      ∙ both_free (walk_fault (shape p.rules) [] (calm p.rules [] None 1 false) words) _ h.0
      (both_free (settle_fault p.rules false (last_held words)) _ h.1
      (both_free (defaults_fault (settled p.rules (last_held words)).rows p.rules) _ (defaults_free (settled p.rules (last_held words)).rows p.rules p.defaults) (p.checks _)))

  -- words that clap takes are a reading
  pub reading_of : (words : List Text) → AllUtf8 words → fault_of (app_with flags options places) words ≡ []
      → (items : List Item) × (plain : List Text) × IsReading flags options words items plain × (length plain ≤ length places)
  reading_of words utf h =
      let found : AreItems p.rules flags options table [] None 1 places words = spelled p.rules flags options table words [] None 1 places p.placed tt utf (passes_from words h) in (
        found.items,
        flat_map item_plain found.items ++ found.rest,
        record {
          rest = found.rest;
          «end» = found.«end»;
          spelled = found.spelled;
          ended = found.ended;
          has = all_items flags options found.items found.has;
          once = distinct found.items found.rest [] 1 places found.all;
          placed = refl;
        },
        found.room,
      )

  module _ (words : List Text) (items : List Item) (plain : List Text) (r : IsReading flags options words items plain) (few : length plain ≤ length places) where
    has : AllItems flags options items
    has = each_item flags options items r.has

    abbrev left_uses : List Use
    left_uses = uses 1 places items r.rest

    taken : Leaves p.rules (calm p.rules [] None 1 false) words left_uses
    taken = subst (λ (ws : List Text). Leaves p.rules (calm p.rules [] None 1 false) ws left_uses) (sym r.spelled)
        (leaves p.rules flags options table items r.«end» r.rest [] None 1 places p.placed tt tt has r.ended
        (all_new flags options items r.rest [] 1 places has
        (λ n. by_name (λ n. is_among flags n ≡ false) places n p.flags_apart) (λ n. by_name (λ n. is_among options n ≡ false) places n p.options_apart)
        p.distinct r.once (λ n h. refl) (λ n h. refl))
        (subst (λ (ws : List Text). length ws ≤ length places) r.placed few))

    -- clap takes such words
    pub no_fault : fault_of (app_with flags options places) words ≡ []
    no_fault = free_from words taken.0

    rows_are : matches_of (app_with flags options places) words ≡ fold with_default (map use_row left_uses) p.rules
    rows_are =
        ap (λ (s : Shape). fold with_default (settled s.rules (fold (walked s.rules []) (walk_from nothing_held) words).held).rows s.rules) p.top
        ∙ ap (λ (rows : List Row). fold with_default rows p.rules) taken.1

    abbrev found_rows : List Row
    found_rows = fold with_default (map use_row left_uses) p.rules

    pub flag_read : (id : Text) → is_among flags id ≡ true
        → one_of id (matches_of (app_with flags options places) words) ≡ Some (cond (is_among (flags_of items) id) (codes "true") (codes "false"))
    flag_read id known = ap (one_of id) rows_are ∙ go (is_among (flags_of items) id) stands.0 stands.1
      where
        stands : (option_and_then row_text (row_with id (map use_row left_uses)) ≡ flag_text (is_among (flags_of items) id)) × (has_row id (map use_row left_uses) ≡ is_among (flags_of items) id)
        stands = flag_found flags options id items r.rest 1 places (by_name (λ n. is_among options n ≡ false) flags id p.both_apart known)
            (by_name (λ n. is_among places n ≡ false) flags id p.unplaced known) has

        go : (b : Bool) → option_and_then row_text (row_with id (map use_row left_uses)) ≡ flag_text b → has_row id (map use_row left_uses) ≡ b
            → one_of id found_rows ≡ Some (cond b (codes "true") (codes "false"))
        go true text row = ap (option_and_then row_text) (kept id p.rules (map use_row left_uses) row) ∙ text
        go false text row = ap (option_and_then row_text) (filled_in id p.rules (map use_row left_uses) row)
            ∙ by_name (λ n. option_and_then row_text (default_for n p.rules) ≡ Some (codes "false")) flags id p.flag_defaults known

    abbrev first_value_in : Option Row → Option Text
    first_value_in = option_and_then (λ r. slice_get r.values 0)

    no_default : (id : Text) (v : Option Text) → default_for id p.rules ≡ None → first_in id left_uses ≡ v → first_of id (matches_of (app_with flags options places) words) ≡ v
    no_default id v none is = ap (first_of id) rows_are ∙ go (has_row id (map use_row left_uses)) refl ∙ is
      where
        go : (b : Bool) → has_row id (map use_row left_uses) ≡ b → first_of id found_rows ≡ first_in id left_uses
        go true row = ap first_value_in (kept id p.rules (map use_row left_uses) row)
        go false row = ap first_value_in (filled_in id p.rules (map use_row left_uses) row ∙ none ∙ sym (no_row id (map use_row left_uses) row))

    pub option_read : (id : Text) → is_among options id ≡ true → first_of id (matches_of (app_with flags options places) words) ≡ value_of id items
    option_read id known = no_default id (value_of id items) (by_name (λ n. default_for n p.rules ≡ None) options id p.option_defaults known)
        (option_found flags options id items r.rest 1 places (by_name (λ n. is_among flags n ≡ false) options id p.optional known)
        (by_name (λ n. is_among places n ≡ false) options id p.unplaced_options known) has)

    pub place_read : (id : Text) → is_among places id ≡ true → first_of id (matches_of (app_with flags options places) words) ≡ at_place id places plain
    place_read id known = no_default id (at_place id places plain) (by_name (λ n. default_for n p.rules ≡ None) places id p.place_defaults known)
        (place_found flags options id items r.rest 1 places (by_name (λ n. is_among flags n ≡ false) places id p.flags_apart known)
        (by_name (λ n. is_among options n ≡ false) places id p.options_apart known) has
        ∙ ap (at_place id places) (sym r.placed))

  both_true : (a b : Bool) → (a && b) ≡ true → a ≡ true
  both_true true b h = refl
  both_true false b h = h

  -- what clap finds is what the items are
  pub reads : (words : List Text) (m : ArgMatches) → AllUtf8 words → is_simple_and_free (app_with flags options places) ≡ true → IsTaken flags options places words m
      → IsRead flags options words (length places) (FindsRows flags options places (rows_of (found_of m)))
  unfolding IsTaken
  reads words m utf free taken =
      let h = taken free in
      let simple : is_simple (app_with flags options places) ≡ true = both_true (is_simple (app_with flags options places)) (is_free_app (built (app_with flags options places))) free in
      let some = reading_of words utf h.0 in
      record {
        items = some.0;
        plain = some.1;
        reading = some.2;
        few = some.3;
        each = λ items plain r few. record {
          flag = λ id known. ap (one_of id) (h.1 simple).0 ∙ flag_read words items plain r few id known;
          option = λ id known. ap (first_of id) (h.1 simple).0 ∙ option_read words items plain r few id known;
          place = λ id known. ap (first_of id) (h.1 simple).0 ∙ place_read words items plain r few id known;
        };
      }

  pub unread : (words : List Text) → is_simple_and_free (app_with flags options places) ≡ true → IsRefused flags options places words → IsUnread flags options words (length places)
  unfolding IsRefused
  unread words free refused items plain r few = refused free (no_fault words items plain r few)

pub utf8_words : {Z : Type 0} (words : List (String Z)) → AllUtf8 (map string_bytes words)
utf8_words [] = tt
utf8_words (w ∷ words) = (IsUtf8-string_bytes w, utf8_words words)

module _ (flags options places : List Text) (p : IsProgram flags options places) (free : is_simple_and_free (app_with flags options places) ≡ true) (words : List Text) where
  pub reads_if : AllUtf8 words → {E : Type 0} (r : Result (Option ArgMatches) E) (fs os ps : List Text) → fs ≡ flags → os ≡ options → ps ≡ places
      → IfOk r (λ found. IfSome found (IsTaken fs os ps words))
      → IfOk r (λ found. IfSome found (λ m. IsRead flags options words (length places) (FindsRows flags options places (rows_of (found_of m)))))
  reads_if utf (Err e) fs os ps f o q h = tt
  reads_if utf (Ok None) fs os ps f o q h = tt
  reads_if utf (Ok (Some m)) fs os ps f o q h =
      reads flags options places p words m utf free (subst (λ (xs : List Text). IsTaken flags options xs words m) q
      (subst (λ (xs : List Text). IsTaken flags xs ps words m) o (subst (λ (xs : List Text). IsTaken xs os ps words m) f h)))

  pub unread_if : {E : Type 0} (r : Result (Option ArgMatches) E) (fs os ps : List Text) → fs ≡ flags → os ≡ options → ps ≡ places
      → IfOk r (λ found. IfNone found (IsRefused fs os ps words)) → IfOk r (λ found. IfNone found (IsUnread flags options words (length places)))
  unread_if (Err e) fs os ps f o q h = tt
  unread_if (Ok (Some m)) fs os ps f o q h = tt
  unread_if (Ok None) fs os ps f o q h =
      unread flags options places p words free (subst (λ (xs : List Text). IsRefused flags options xs words) q
      (subst (λ (xs : List Text). IsRefused flags xs ps words) o (subst (λ (xs : List Text). IsRefused xs os ps words) f h)))
