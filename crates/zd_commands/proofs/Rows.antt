-- What uses of arguments leave, and when they may be made.
use Rattle.std.proofs.Common.{◌≡◌, ℕ, Bool, cond, true, false, ◌||◌, ◌&&◌, refl, sym, ap, ◌∙◌, List, [], ◌∷◌, ◌++◌, map, Option, Some, None, codes, append-nil, append_assoc}
use Rattle.std.specs.List.{list_any}
use Rattle.std.specs.Str.{bytes_eq}
use Rattle.std.proofs.lemmas.List.{map-append}
use Rattle.std.proofs.lemmas.Bool.{false≢true}
use Rattle.clap.specs.Walk.{Held, Row, Rule, Text, at_row, has_row, more_values, reacted, settled, used, without, with_values, arg_by_id}
use Rattle.clap.specs.Simple.{filled, new_rule, with_index}
use Rattle.clap.specs.Kinds.{Kinds, or_else}
use Rattle.clap.specs.Faults.{react_fault, settle_fault, use_fault}
use Rattle.std.specs.Option.{option_map_or}
use Rattle.clap.specs.declared.error.kind.ErrorKind.{ErrorKind}
use Rattle.clap.specs.declared.error.kind.ErrorKind.TheVariants.{ArgumentConflict}
use Rattle.clap.specs.declared.builder.value_parser.Reading.TheVariants as reading
use Rattle.clap.specs.declared.parser.matches.ValueSource.TheVariants.{CommandLine}
use Rattle.zd_commands.specs.Table.{flag_rule, option_rule}

-- a flag that stands, an option with its value, a word at a place
pub data Use : Type 0 where
  flag_use : Text → Use
  value_use : Text → Text → Use
  place_use : Text → ℕ → Text → Use

abbrev pub use_id : Use → Text
use_id (flag_use name) = name
use_id (value_use name value) = name
use_id (place_use name place word) = name

abbrev pub place_rule : Text → ℕ → Rule
place_rule name place = with_index place (filled (new_rule name))

abbrev pub use_rule : Use → Rule
use_rule (flag_use name) = filled (flag_rule name)
use_rule (value_use name value) = filled (option_rule name)
use_rule (place_use name place word) = place_rule name place

abbrev pub use_given : Use → List Text
use_given (flag_use name) = []
use_given (value_use name value) = value ∷ []
use_given (place_use name place word) = word ∷ []

abbrev pub use_values : Use → List Text
use_values (flag_use name) = codes "true" ∷ []
use_values (value_use name value) = value ∷ []
use_values (place_use name place word) = word ∷ []

abbrev pub use_row : Use → Row
use_row u = record {
  id = use_id u;
  values = use_values u;
  count = None;
  source = Some CommandLine;
  reading = reading.AsWritten;
}

-- the argument was not used yet
abbrev pub IsNew : Use → List Use → Type 0
IsNew u us = has_row (use_id u) (map use_row us) ≡ false

pub absent : (id : Text) (change : Row → List Row) (missing rows : List Row) → has_row id rows ≡ false → at_row id change missing rows ≡ rows ++ missing
absent id change missing [] h = refl
absent id change missing (r ∷ rows) h = go (bytes_eq r.id id) h (absent id change missing rows)
  where
    go : (b : Bool) → (b || has_row id rows) ≡ false → (has_row id rows ≡ false → at_row id change missing rows ≡ rows ++ missing)
        → cond b (change r ++ rows) (r ∷ at_row id change missing rows) ≡ r ∷ (rows ++ missing)
    go true e next = absurd (false≢true (sym e))
    go false e next = ap (λ (rs : List Row). r ∷ rs) (next e)

added : (u : Use) (us : List Use) → IsNew u us
    → with_values (use_id u) reading.AsWritten CommandLine (use_values u) (without (use_id u) (map use_row us)) ≡ map use_row (us ++ u ∷ [])
added u us h =
    let gone : without (use_id u) (map use_row us) ≡ map use_row us = absent (use_id u) (λ _. []) [] (map use_row us) h ∙ append-nil (map use_row us) in
    ap (with_values (use_id u) reading.AsWritten CommandLine (use_values u)) gone
    ∙ absent (use_id u) (more_values CommandLine (use_values u)) (use_row u ∷ []) (map use_row us) h
    ∙ sym (map-append use_row us (u ∷ []))

-- a new use adds its row
pub used_new : (u : Use) (us : List Use) → IsNew u us → used (use_rule u) (use_given u) (map use_row us) ≡ map use_row (us ++ u ∷ [])
used_new (flag_use name) us h = added (flag_use name) us h
used_new (value_use name value) us h = added (value_use name value) us h
used_new (place_use name place word) us h = added (place_use name place word) us h

-- a new use fails nowhere, and one that fails nowhere is new
pub free_use : (u : Use) (us : List Use) → IsNew u us → use_fault false (use_rule u) (use_given u) (map use_row us) ≡ []
free_use (flag_use name) us h = rw h refl
free_use (value_use name value) us h = rw h refl
free_use (place_use name place word) us h = rw h refl

once : (b : Bool) (kinds : Kinds) → or_else (cond (b && true) (ArgumentConflict ∷ []) []) [] ≡ [] → b ≡ false
once true kinds h = absurd (let e : ◌≡◌ {A = Kinds} (ArgumentConflict ∷ []) [] = h in cc)
once false kinds h = refl

pub once_use : (u : Use) (us : List Use) → use_fault false (use_rule u) (use_given u) (map use_row us) ≡ [] → IsNew u us
once_use (flag_use name) us h = once (has_row name (map use_row us)) [] h
once_use (value_use name value) us h = once (has_row name (map use_row us)) [] h
once_use (place_use name place word) us h = once (has_row name (map use_row us)) [] h

pub not_free : (k : ErrorKind) (a : Kinds) → ◌≡◌ {A = Kinds} (k ∷ a) [] → ⊥
not_free k a e = cc

-- two lists of kinds are empty together
pub both_free : (a b : Kinds) → a ≡ [] → b ≡ [] → or_else a b ≡ []
both_free a b h k = ap (λ (x : Kinds). or_else x b) h ∙ k

pub first_free : (a b : Kinds) → or_else a b ≡ [] → a ≡ []
first_free [] b h = refl
first_free (k ∷ a) b h = h

pub second_free : (a b : Kinds) → or_else a b ≡ [] → b ≡ []
second_free [] b h = h
second_free (k ∷ a) b h = absurd (not_free k a h)

-- ---- with an argument whose values are being read

abbrev pub IsNewHeld : Option Use → List Use → Type 0
IsNewHeld None us = Unit {0}
IsNewHeld (Some u) us = IsNew u us

abbrev pub pending_use : Option Use → Option (Text × List Text)
pending_use None = None
pending_use (Some u) = Some (use_id u, use_given u)

abbrev pub one : Option Use → List Use
one None = []
one (Some u) = u ∷ []

abbrev pub held : List Use → Option Use → Held
held us p = record { rows = map use_row us; pending = pending_use p; skip = 0 }

module _ (rules : List Rule) where
  -- the argument's own rule is found by its name
  abbrev pub IsHeld : Option Use → Type 0
  IsHeld None = Unit {0}
  IsHeld (Some u) = arg_by_id rules (use_id u) ≡ Some (use_rule u)

  pub settle_rows : (us : List Use) (p : Option Use) → IsHeld p → IsNewHeld p us → (settled rules (held us p)).rows ≡ map use_row (us ++ one p)
  settle_rows us None own new = sym (ap (map use_row) (append-nil us))
  settle_rows us (Some u) own new = rw own (used_new u us new)

  pub settle_free : (us : List Use) (p : Option Use) → IsHeld p → IsNewHeld p us → settle_fault rules false (held us p) ≡ []
  settle_free us None own new = refl
  settle_free us (Some u) own new = rw own (free_use u us new)

  pub settle_once : (us : List Use) (p : Option Use) → IsHeld p → settle_fault rules false (held us p) ≡ [] → IsNewHeld p us
  settle_once us None own h = tt
  settle_once us (Some u) own h = once_use u us (sym (ap (λ (a : Option Rule). option_map_or (λ a. use_fault false a (use_given u) (map use_row us)) a []) own) ∙ h)

  -- a use after what is pending
  abbrev pub react : List Use → Option Use → Use → Kinds
  react us p u = or_else (settle_fault rules false (held us p)) (use_fault false (use_rule u) (use_given u) (settled rules (held us p)).rows)

  pub react_free : (us : List Use) (p : Option Use) (u : Use) → IsHeld p → IsNewHeld p us → IsNew u (us ++ one p) → react us p u ≡ []
  react_free us p u own new next =
      both_free _ _ (settle_free us p own new) (ap (use_fault false (use_rule u) (use_given u)) (settle_rows us p own new) ∙ free_use u (us ++ one p) next)

  pub react_once : (us : List Use) (p : Option Use) (u : Use) → IsHeld p → react us p u ≡ [] → IsNewHeld p us × IsNew u (us ++ one p)
  react_once us p u own h =
      let new = settle_once us p own (first_free (settle_fault rules false (held us p)) _ h) in
      (new, once_use u (us ++ one p) (sym (ap (use_fault false (use_rule u) (use_given u)) (settle_rows us p own new)) ∙ second_free (settle_fault rules false (held us p)) _ h))

  pub react_held : (us : List Use) (p : Option Use) (u : Use) → IsHeld p → IsNewHeld p us → IsNew u (us ++ one p)
      → reacted rules (use_rule u) (use_given u) (held us p) ≡ held ((us ++ one p) ++ u ∷ []) None
  react_held us p u own new next =
      ap (λ (rows : List Row). record { rows = rows; pending = None; skip = 0 }) (ap (used (use_rule u) (use_given u)) (settle_rows us p own new) ∙ used_new u (us ++ one p) next)
