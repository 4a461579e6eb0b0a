-- A map in which no chunk is bad follows the rules of a map, and in one that follows them none is.
use Rattle.std.proofs.Common.{◌≡◌, ℕ, zero, suc, ◌+◌, ◌<◌, ◌≤◌, ◌⊎◌, Bool, true, false, cond, not, ◌&&◌, ◌||◌, List, [], ◌∷◌, ◌++◌, get_or, refl, sym, ap, ◌∙◌, arith, inl, inr, Some, None, eqb, ltb, leb}
use Rattle.std.specs.Prelude.{Option, IsSomeAnd}
use Rattle.std.specs.Option.{option_map_or}
use Rattle.std.specs.List.{list_all}
use borrow.Author.Tests.{eq-eqb, leb-true, le-leb, lt-ltb, le-ltb, ltb-true, ltb-false, ne_eqb}
use Rattle.std.proofs.lemmas.List.Folds.{list_any-append}
use Rattle.std.proofs.lemmas.Bool.{cases_lt}
use Rattle.zd_base.specs.Geometry.{Shape, zone_count, is_conventional}
use Rattle.zd_base.specs.Layout.{first_data_zone}
use Rattle.zd_model.specs.Tables.{NamesZone, MapFollowsRules, zones_of}
use Rattle.zd_model.specs.Faults.{has, is_right_entry, bad_chunk}
use Rattle.zd_base.specs.declared.layout.Layout.{Layout}
use Rattle.zd_model.specs.declared.metadata.MapEntry.{MapEntry}

pub both : (b c : Bool) → (b && c) ≡ true → (b ≡ true) × (c ≡ true)
both true c h = (refl, h)
both false c h = cc

pub some_is : (y z : ℕ) → ◌≡◌ {A = Option ℕ} (Some y) (Some z) → y ≡ z
some_is y z e = cc

pub none_some : (z : ℕ) → ◌≡◌ {A = Option ℕ} None (Some z) → ⊥
none_some z e = cc

-- a test that all zones of an entry pass
pub all_named : (p : ℕ → Bool) (zone buffer : Option ℕ) (z : ℕ) → list_all p (zones_of (record { zone = zone; buffer = buffer })) ≡ true → (zone ≡ Some z) ⊎ (buffer ≡ Some z) → p z ≡ true
all_named p None None z h (inl e) = absurd (none_some z e)
all_named p None None z h (inr e) = absurd (none_some z e)
all_named p None (Some b) z h (inl e) = absurd (none_some z e)
all_named p None (Some b) z h (inr e) = ap p (sym (some_is b z e)) ∙ (both (p b) true h).0
all_named p (Some y) None z h (inl e) = ap p (sym (some_is y z e)) ∙ (both (p y) true h).0
all_named p (Some y) None z h (inr e) = absurd (none_some z e)
all_named p (Some y) (Some b) z h (inl e) = ap p (sym (some_is y z e)) ∙ (both (p y) (p b && true) h).0
all_named p (Some y) (Some b) z h (inr e) = ap p (sym (some_is b z e)) ∙ (both (p b) true (both (p y) (p b && true) h).1).0

pub or_right : (b : Bool) → (b || true) ≡ true
or_right true = refl
or_right false = refl

pub has_named : (zone buffer : Option ℕ) (z : ℕ) → (zone ≡ Some z) ⊎ (buffer ≡ Some z) → has (zones_of (record { zone = zone; buffer = buffer })) z ≡ true
has_named None None z (inl e) = absurd (none_some z e)
has_named None None z (inr e) = absurd (none_some z e)
has_named None (Some b) z (inl e) = absurd (none_some z e)
has_named None (Some b) z (inr e) = rw (eq-eqb b z (some_is b z e)) refl
has_named (Some y) None z (inl e) = rw (eq-eqb y z (some_is y z e)) refl
has_named (Some y) None z (inr e) = absurd (none_some z e)
has_named (Some y) (Some b) z (inl e) = rw (eq-eqb y z (some_is y z e)) refl
has_named (Some y) (Some b) z (inr e) = rw (eq-eqb b z (some_is b z e)) (or_right (eqb y z))

buffer_right : (g : Shape) (main : Option ℕ) (buffer : Option ℕ) (b : ℕ) → option_map_or (λ b. is_conventional g b && option_map_or (λ z. not (is_conventional g z)) main false) buffer true ≡ true → buffer ≡ Some b → (b < g.conv) × IsSomeAnd main (λ z. g.conv ≤ z)
buffer_right g main None b h e = absurd (none_some b e)
buffer_right g None (Some c) b h e = absurd (false_not (both (is_conventional g c) false h).1)
  where
    false_not : ◌≡◌ {A = Bool} false true → ⊥
    false_not k = cc
buffer_right g (Some z) (Some c) b h e = (let low = ltb-true c g.conv (both (is_conventional g c) (not (is_conventional g z)) h).0 in let same = some_is c b e in omega arith, ltb-false z g.conv (not_true (ltb z g.conv) (both (is_conventional g c) (not (is_conventional g z)) h).1))
  where
    not_true : (x : Bool) → not x ≡ true → x ≡ false
    not_true true k = cc
    not_true false k = refl

abbrev pub unmapped : MapEntry
unmapped = record { zone = None; buffer = None }

-- what holds of entries, where earlier ones name these zones
pub record AreRight (g : Shape) (l : Layout) (earlier : List ℕ) (entries : List MapEntry) : Type 0 where
  pub data_zones : (c z : ℕ) → NamesZone (get_or entries c unmapped) z → (first_data_zone g l ≤ z) × (z < zone_count g)
  pub new : (c z : ℕ) → NamesZone (get_or entries c unmapped) z → has earlier z ≡ false
  pub apart : (c d z : ℕ) → c < d → NamesZone (get_or entries c unmapped) z → NamesZone (get_or entries d unmapped) z → ⊥
  pub buffers : (c b : ℕ) → (get_or entries c unmapped).buffer ≡ Some b → (b < g.conv) × IsSomeAnd (get_or entries c unmapped).zone (λ z. g.conv ≤ z)

pub no_name : (z : ℕ) → NamesZone unmapped z → ⊥
no_name z (inl e) = none_some z e
no_name z (inr e) = none_some z e

passed : (b : Bool) (o : Option ℕ) (n : ℕ) → ◌≡◌ {A = Option ℕ} (cond b o (Some n)) None → (b ≡ true) × (o ≡ None)
passed true o n h = (refl, h)
passed false o n h = absurd (none_some n (sym h))

pub apart_bools : (x : Bool) → x ≡ true → x ≡ false → ⊥
apart_bools x h k = cc

pub split_or : (x y : Bool) → (x || y) ≡ false → (x ≡ false) × (y ≡ false)
split_or true y h = cc
split_or false y h = (refl, h)

not_has : (x : Bool) → not x ≡ true → x ≡ false
not_has true k = cc
not_has false k = refl

abbrev zone_test : Shape → Layout → List ℕ → ℕ → Bool
zone_test g l earlier z = leb (first_data_zone g l) z && ltb z (zone_count g) && not (has earlier z)

with_entry : (g : Shape) (l : Layout) (earlier : List ℕ) (e : MapEntry) (entries : List MapEntry) → is_right_entry g l earlier e ≡ true → AreRight g l (earlier ++ zones_of e) entries → AreRight g l earlier (e ∷ entries)
with_entry g l earlier e entries right others = record { data_zones = within; new = fresh; apart = two; buffers = buffered }
  where
    tests : (list_all (zone_test g l earlier) (zones_of e) ≡ true) × (option_map_or (λ b. is_conventional g b && option_map_or (λ z. not (is_conventional g z)) e.zone false) e.buffer true ≡ true)
    tests = both (list_all (zone_test g l earlier) (zones_of e)) _ right

    at : (z : ℕ) → NamesZone e z → ((leb (first_data_zone g l) z && ltb z (zone_count g)) ≡ true) × (not (has earlier z) ≡ true)
    at z k = both (leb (first_data_zone g l) z && ltb z (zone_count g)) (not (has earlier z)) (all_named (zone_test g l earlier) e.zone e.buffer z tests.0 k)

    within : (c z : ℕ) → NamesZone (get_or (e ∷ entries) c unmapped) z → (first_data_zone g l ≤ z) × (z < zone_count g)
    within zero z k = let bounds = both (leb (first_data_zone g l) z) (ltb z (zone_count g)) (at z k).0 in (leb-true (first_data_zone g l) z bounds.0, ltb-true z (zone_count g) bounds.1)
    within (suc c) z k = others.data_zones c z k

    split : (c z : ℕ) → NamesZone (get_or entries c unmapped) z → (has earlier z ≡ false) × (has (zones_of e) z ≡ false)
    split c z k = split_or (has earlier z) (has (zones_of e) z) (sym (list_any-append (λ y. eqb y z) earlier (zones_of e)) ∙ others.new c z k)

    fresh : (c z : ℕ) → NamesZone (get_or (e ∷ entries) c unmapped) z → has earlier z ≡ false
    fresh zero z k = not_has (has earlier z) (at z k).1
    fresh (suc c) z k = (split c z k).0

    two : (c d z : ℕ) → c < d → NamesZone (get_or (e ∷ entries) c unmapped) z → NamesZone (get_or (e ∷ entries) d unmapped) z → ⊥
    two c zero z far k m = absurd (omega arith)
    two zero (suc d) z far k m = apart_bools (has (zones_of e) z) (has_named e.zone e.buffer z k) (split d z m).1
    two (suc c) (suc d) z far k m = others.apart c d z (omega arith) k m

    buffered : (c b : ℕ) → (get_or (e ∷ entries) c unmapped).buffer ≡ Some b → (b < g.conv) × IsSomeAnd (get_or (e ∷ entries) c unmapped).zone (λ z. g.conv ≤ z)
    buffered zero b k = buffer_right g e.zone e.buffer b tests.1 k
    buffered (suc c) b k = others.buffers c b k

pub no_bad_chunk : (g : Shape) (l : Layout) (earlier : List ℕ) (n : ℕ) (entries : List MapEntry) → bad_chunk g l earlier n entries ≡ None → AreRight g l earlier entries
no_bad_chunk g l earlier n [] h = record { data_zones = λ c z k. absurd (no_name z k); new = λ c z k. absurd (no_name z k); apart = λ c d z far k. absurd (no_name z k); buffers = λ c b k. absurd (none_some b k) }
no_bad_chunk g l earlier n (e ∷ entries) h =
    let first = passed (is_right_entry g l earlier e) (bad_chunk g l (earlier ++ zones_of e) (n + 1) entries) n h in
    with_entry g l earlier e entries first.0 (no_bad_chunk g l (earlier ++ zones_of e) (n + 1) entries first.1)

-- no zone is named by two chunks
pub named_once : (g : Shape) (l : Layout) (entries : List MapEntry) → AreRight g l [] entries → (c d z : ℕ) → NamesZone (get_or entries c unmapped) z → NamesZone (get_or entries d unmapped) z → c ≡ d
named_once g l entries right c d z k m =
    elim (cases_lt c d) [
      | inl less ↦ absurd (right.apart c d z less k m)
      | inr rest ↦ elim (cases_lt d c) [ inl less ↦ absurd (right.apart d c z less m k) | inr same ↦ omega arith ]
    ]

pub map_follows : (g : Shape) (l : Layout) (entries : List MapEntry) → bad_chunk g l [] 0 entries ≡ None → MapFollowsRules g l entries
map_follows g l entries h =
    let right = no_bad_chunk g l [] 0 entries h in
    record { data_zones = right.data_zones; named_once = named_once g l entries right; buffers = right.buffers }

-- an entry of a right map passes the tests
new_zone : (g : Shape) (l : Layout) (earlier : List ℕ) (z : ℕ) → first_data_zone g l ≤ z → z < zone_count g → has earlier z ≡ false → zone_test g l earlier z ≡ true
new_zone g l earlier z low high new = rw (le-leb (first_data_zone g l) z low, lt-ltb z (zone_count g) high, new) refl

all_zones : (p : ℕ → Bool) (zone buffer : Option ℕ) → ((z : ℕ) → (zone ≡ Some z) ⊎ (buffer ≡ Some z) → p z ≡ true) → list_all p (zones_of (record { zone = zone; buffer = buffer })) ≡ true
all_zones p None None h = refl
all_zones p None (Some b) h = rw (h b (inr refl)) refl
all_zones p (Some y) None h = rw (h y (inl refl)) refl
all_zones p (Some y) (Some b) h = rw (h y (inl refl), h b (inr refl)) refl

right_buffer : (g : Shape) (zone buffer : Option ℕ) → ((b : ℕ) → buffer ≡ Some b → (b < g.conv) × IsSomeAnd zone (λ z. g.conv ≤ z)) → option_map_or (λ b. is_conventional g b && option_map_or (λ z. not (is_conventional g z)) zone false) buffer true ≡ true
right_buffer g _ None h = refl
right_buffer g None (Some b) h = absurd (h b refl).1
right_buffer g (Some z) (Some b) h = rw (lt-ltb b g.conv (h b refl).0, le-ltb z g.conv (h b refl).1) refl

-- a zone that no entry names is not among an entry's
unnamed : (zone buffer : Option ℕ) (z : ℕ) → ((zone ≡ Some z) ⊎ (buffer ≡ Some z) → ⊥) → has (zones_of (record { zone = zone; buffer = buffer })) z ≡ false
unnamed None None z h = refl
unnamed None (Some b) z h = rw (ne_eqb b z (λ e. h (inr (ap Some e)))) refl
unnamed (Some y) None z h = rw (ne_eqb y z (λ e. h (inl (ap Some e)))) refl
unnamed (Some y) (Some b) z h = rw (ne_eqb y z (λ e. h (inl (ap Some e))), ne_eqb b z (λ e. h (inr (ap Some e)))) refl

pub none_bad : (g : Shape) (l : Layout) (earlier : List ℕ) (n : ℕ) (entries : List MapEntry) → AreRight g l earlier entries → bad_chunk g l earlier n entries ≡ None
none_bad g l earlier n [] right = refl
none_bad g l earlier n (e ∷ entries) right = rw passes (none_bad g l (earlier ++ zones_of e) (n + 1) entries others)
  where
    passes : is_right_entry g l earlier e ≡ true
    passes = rw (all_zones (zone_test g l earlier) e.zone e.buffer (λ z k. new_zone g l earlier z (right.data_zones 0 z k).0 (right.data_zones 0 z k).1 (right.new 0 z k)), right_buffer g e.zone e.buffer (λ b k. right.buffers 0 b k)) refl

    others : AreRight g l (earlier ++ zones_of e) entries
    others = record {
      data_zones = λ c z k. right.data_zones (suc c) z k;
      new = λ c z k. list_any-append (λ y. eqb y z) earlier (zones_of e) ∙ (rw (right.new (suc c) z k) (unnamed e.zone e.buffer z (λ m. right.apart 0 (suc c) z (omega arith) m k)));
      apart = λ c d z far k m. right.apart (suc c) (suc d) z (omega arith) k m;
      buffers = λ c b k. right.buffers (suc c) b k;
    }

-- in a map that follows the rules no chunk is bad
pub no_chunk_bad : (g : Shape) (l : Layout) (entries : List MapEntry) → MapFollowsRules g l entries → bad_chunk g l [] 0 entries ≡ None
no_chunk_bad g l entries rules = none_bad g l [] 0 entries (record {
  data_zones = rules.data_zones;
  new = λ c z k. refl;
  apart = λ c d z far k m. (let same = rules.named_once c d z k m in omega arith);
  buffers = rules.buffers;
})
