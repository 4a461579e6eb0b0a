-- Where the sectors of the device stand after a write of blocks of one chunk: those of its range in the zone that was
-- written, all others where they stood.
use Rattle.std.proofs.Common.{◌≡◌, ◌≢◌, ◌⊎◌, ℕ, ◌/◌, ◌%◌, ◌<◌, ◌≤◌, Bool, true, false, cond, List, Option, Some, None}
use Rattle.std.proofs.Common.{inl, inr, refl, sym, ap, ◌∙◌, subst, arith}
use Rattle.std.proofs.lemmas.Bool.{cases_eq, false_from_ne_true, false≢true}
use Rattle.std.specs.Option.{option_or}
use Rattle.zd_base.specs.Geometry.{zone_count}
use Rattle.zd_model.specs.Places.{place_in, zone_at}
use Rattle.zd_model.specs.Tables.{NamesZone, Tables, entry_of, is_valid, where_valid}
use Rattle.zd_model.specs.declared.metadata.MapEntry.{MapEntry}
use Rattle.zd_model.proofs.FaultLaws.{none_some, some_is}
use Rattle.zd_tables.specs.Tables.{tables_in}
use Rattle.zd_volume.specs.Sets.{AreSets, Sets, new_tables}
use Rattle.zd_volume.specs.declared.work.Place.{Place}
use Rattle.zd_volume.specs.declared.work.Place.TheVariants.{Buffer, Main, NewBuffer, NewMain}
use Rattle.zd_volume.proofs.DropPlaces.{IsWithin, place_none, place_same}
use Rattle.zd_volume.proofs.DropTables.{in_or_out, some_or}
use Rattle.zd_routes.specs.Routes.{MovesBits, WritesRange, entry_with, other_zone}
use Rattle.zd_routes.proofs.RouteTables.{other_named}

-- A BLOCK that is valid in the chunk's zone stands there; in the buffer, where it isn't valid in the zone
module _ (u : Tables) (x : ℕ) where
  where_true : (o : Option ℕ) (z : ℕ) → o ≡ Some z → is_valid u z x ≡ true → where_valid u x o ≡ Some z
  where_true None z is valid = absurd (none_some z is)
  where_true (Some y) z is valid =
      ap (λ (b : Bool). cond b (Some y) None) (subst (λ (n : ℕ). is_valid u n x ≡ true) (sym (some_is y z is)) valid)
      ∙ is

  where_false : (o : Option ℕ) → ((z : ℕ) → o ≡ Some z → is_valid u z x ≡ false) → where_valid u x o ≡ None
  where_false None bare = refl
  where_false (Some y) bare = ap (λ (b : Bool). cond b (Some y) None) (bare y refl)

  pub place_zone : (e : MapEntry) (z : ℕ) → e.zone ≡ Some z → is_valid u z x ≡ true → place_in u e x ≡ Some z
  place_zone e z is valid =
      ap (λ (o : Option ℕ). option_or o (where_valid u x e.buffer)) (where_true e.zone z is valid)

  pub place_buffer : (e : MapEntry) (b : ℕ) → e.buffer ≡ Some b → is_valid u b x ≡ true
      → ((z : ℕ) → e.zone ≡ Some z → is_valid u z x ≡ false) → place_in u e x ≡ Some b
  place_buffer e b is valid bare =
      ap (λ (o : Option ℕ). option_or o (where_valid u x e.buffer)) (where_false e.zone bare)
      ∙ where_true e.buffer b is valid

-- which zones a chunk has where a write goes to this place and zone
abbrev pub SuitsPlace : MapEntry → Place → ℕ → Type 0
SuitsPlace e Main z = e.zone ≡ Some z
SuitsPlace e NewMain z = (e.zone ≡ None) × (e.buffer ≡ None)
SuitsPlace e Buffer z = e.buffer ≡ Some z
SuitsPlace e NewBuffer z = (e.buffer ≡ None) × (e.zone ≢ Some z)

-- THE BLOCKS OF THE CHUNK
module _ (e : MapEntry) (zone first end : ℕ) (t u : Tables) where
  inside_at : (place : Place) → SuitsPlace e place zone → MovesBits zone (other_zone e place) first end t u → (x : ℕ)
      → first ≤ x → x < end → place_in u (entry_with e place zone) x ≡ Some zone
  inside_at Main fits moves x low high = place_zone u x e zone fits (moves.here x low high)
  inside_at NewMain fits moves x low high =
      place_zone u x (record { zone = Some zone; buffer = None }) zone refl (moves.here x low high)
  inside_at Buffer fits moves x low high =
      place_buffer u x e zone fits (moves.here x low high) (λ y is. moves.cleared y x is low high)
  inside_at NewBuffer fits moves x low high =
      place_buffer u x (record { zone = e.zone; buffer = Some zone }) zone refl (moves.here x low high)
      (λ y is. moves.cleared y x is low high)

  -- where a zone that the chunk gets had no valid block
  outside_at : (place : Place) → SuitsPlace e place zone → MovesBits zone (other_zone e place) first end t u → (x : ℕ)
      → ((NamesZone e zone → ⊥) → is_valid t zone x ≡ false) → (x < first) ⊎ (end ≤ x)
      → place_in u (entry_with e place zone) x ≡ place_in t e x
  outside_at Main fits moves x bare out = place_same u x t e (λ y n. moves.outside y x out)
  outside_at NewMain fits moves x bare out =
      place_none u x (record { zone = Some zone; buffer = None }) (λ y n. elim n [
        | inl h ↦ subst (λ (k : ℕ). is_valid u k x ≡ false) (some_is zone y h)
            (moves.outside zone x out ∙ bare (unnamed zone))
        | inr h ↦ absurd (none_some y h)
      ])
      ∙ sym (place_none t x e (λ y n. absurd (unnamed y n)))
    where
      unnamed : (y : ℕ) → NamesZone e y → ⊥
      unnamed y n = elim n [
        | inl h ↦ none_some y (sym fits.0 ∙ h)
        | inr h ↦ none_some y (sym fits.1 ∙ h)
      ]
  outside_at Buffer fits moves x bare out = place_same u x t e (λ y n. moves.outside y x out)
  outside_at NewBuffer fits moves x bare out =
      ap (λ (b : Bool). option_or (where_valid u x e.zone) (cond b (Some zone) None))
      (moves.outside zone x out ∙ bare unnamed)
      ∙ place_same u x t (record { zone = e.zone; buffer = None }) (λ y n. moves.outside y x out)
      ∙ ap (λ (o : Option ℕ). option_or (where_valid t x e.zone) (where_valid t x o)) (sym fits.0)
    where
      unnamed : NamesZone e zone → ⊥
      unnamed n = elim n [ inl h ↦ fits.1 h | inr h ↦ none_some zone (sym fits.0 ∙ h) ]

module _ (s : Sets) (are : AreSets s) (chunk first end : ℕ) (place : Place) (zone : ℕ) (bytes : List ℕ)
    (low : zone < zone_count s.geometry)
    (alone : (c : ℕ) → NamesZone (entry_of (new_tables s) c) zone → c ≡ chunk)
    (wrote : WritesRange s chunk first end (entry_with (entry_of (new_tables s) chunk) place zone) zone
    (other_zone (entry_of (new_tables s) chunk) place) bytes) where
  abbrev t : Tables
  t = new_tables s

  abbrev u : Tables
  u = tables_in s.geometry s.head.layout bytes

  abbrev e : MapEntry
  e = entry_of (new_tables s) chunk

  -- the zones of other chunks are as they were
  pub others_as_were : (c z x : ℕ) → c ≢ chunk → NamesZone (entry_of (new_tables s) c) z
      → is_valid (tables_in s.geometry s.head.layout bytes) z x ≡ is_valid (new_tables s) z x
  others_as_were c z x off n =
      wrote.bits.others z x
      (λ is. off (alone c (subst (λ (k : ℕ). NamesZone (entry_of t c) k) is n)))
      (λ is. off (are.new_rules.map.named_once c chunk z n (other_named e place z is)))

  -- a block that is valid was so, or was written
  pub valid_from : (z x : ℕ) → is_valid (tables_in s.geometry s.head.layout bytes) z x ≡ true
      → (is_valid (new_tables s) z x ≡ true) ⊎ ((z ≡ zone) × (first ≤ x) × (x < end))
  valid_from z x valid = elim (in_or_out x first end) [
    | inr out ↦ inl (sym (wrote.bits.outside z x out) ∙ valid)
    | inl at ↦ elim (cases_eq z zone) [
      | inl here ↦ inr (here, at.0, at.1)
      | inr off ↦ elim (some_or (other_zone e place) z) [
        | inl cleared ↦ absurd (false≢true (sym (wrote.bits.cleared z x cleared at.0 at.1) ∙ valid))
        | inr far ↦ inl (sym (wrote.bits.others z x off far) ∙ valid)
      ]
    ]
  ]

  module _ (some : 0 < s.geometry.zone_blocks) (fits : SuitsPlace (entry_of (new_tables s) chunk) place zone) where
    -- THE SECTORS: those of the range
    pub written_there : (n : ℕ) → IsWithin s.geometry.zone_blocks chunk first end n
        → zone_at s.geometry.zone_blocks (tables_in s.geometry s.head.layout bytes) n ≡ Some zone
    written_there n h =
        ap (λ (c : ℕ). place_in u (entry_of u c) (n / 8 % s.geometry.zone_blocks)) h.0
        ∙ ap (λ (f : MapEntry). place_in u f (n / 8 % s.geometry.zone_blocks)) wrote.here
        ∙ inside_at e zone first end t u place fits wrote.bits (n / 8 % s.geometry.zone_blocks) h.1 h.2

    bare : (x : ℕ) → x < s.geometry.zone_blocks → (NamesZone (entry_of (new_tables s) chunk) zone → ⊥)
        → is_valid (new_tables s) zone x ≡ false
    bare x inside unnamed = false_from_ne_true (is_valid t zone x) (λ valid.
        let by = are.new_rules.bits.named zone x low inside valid in
        unnamed (subst (λ (c : ℕ). NamesZone (entry_of t c) zone) (alone by.0 by.1) by.1))

    in_chunk : (c x : ℕ) → x < s.geometry.zone_blocks → c ≡ chunk → (x < first) ⊎ (end ≤ x)
        → place_in (tables_in s.geometry s.head.layout bytes)
        (entry_of (tables_in s.geometry s.head.layout bytes) c) x
        ≡ place_in (new_tables s) (entry_of (new_tables s) c) x
    in_chunk c x inside here out =
        ap (λ (k : ℕ). place_in u (entry_of u k) x) here
        ∙ ap (λ (f : MapEntry). place_in u f x) wrote.here
        ∙ outside_at e zone first end t u place fits wrote.bits x (bare x inside) out
        ∙ ap (λ (k : ℕ). place_in t (entry_of t k) x) (sym here)

    -- all others
    pub others_there : (n : ℕ) → (IsWithin s.geometry.zone_blocks chunk first end n → ⊥)
        → zone_at s.geometry.zone_blocks (tables_in s.geometry s.head.layout bytes) n
        ≡ zone_at s.geometry.zone_blocks (new_tables s) n
    others_there n off = elim (cases_eq (n / 8 / s.geometry.zone_blocks) chunk) [
      | inr other ↦
          ap (λ (f : MapEntry). place_in u f (n / 8 % s.geometry.zone_blocks))
          (wrote.others (n / 8 / s.geometry.zone_blocks) other)
          ∙ place_same u (n / 8 % s.geometry.zone_blocks) t (entry_of t (n / 8 / s.geometry.zone_blocks))
          (λ z named. others_as_were (n / 8 / s.geometry.zone_blocks) z (n / 8 % s.geometry.zone_blocks) other named)
      | inl here ↦ elim (in_or_out (n / 8 % s.geometry.zone_blocks) first end) [
        | inl at ↦ absurd (off (here, at.0, at.1))
        | inr out ↦ in_chunk (n / 8 / s.geometry.zone_blocks) (n / 8 % s.geometry.zone_blocks)
            (within n) here out
      ]
    ]
      where
        within : (m : ℕ) → m / 8 % s.geometry.zone_blocks < s.geometry.zone_blocks
        within m = omega (arith, some)
