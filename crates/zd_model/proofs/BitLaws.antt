-- Bitmaps in which no bit is bad follow the rules, and in those that follow them none is.
use Rattle.std.proofs.Common.{◌≡◌, ℕ, zero, suc, ◌+◌, ◌*◌, ◌<◌, ◌≤◌, ◌⊎◌, Bool, true, false, cond, not}
use Rattle.std.proofs.Common.{◌&&◌, ◌||◌, List, [], ◌∷◌, map, get_or, refl, sym, ap, ◌∙◌, arith}
use Rattle.std.proofs.Common.{inl, inr, Some, None, Option, eqb, ltb, leb}
use Rattle.std.specs.Prelude.{find, IsTrue}
use Rattle.std.specs.Option.{option_or}
use Rattle.std.specs.List.{list_all, flat_map, range_with_len}
use borrow.Author.Tests.{eq-eqb, eqb-true, le-leb, leb-true, ltb-true, ltb-false}
use Rattle.std.proofs.lemmas.List.Folds.{list_any-append, find-append}
use Rattle.zd_base.specs.Geometry.{Shape, zone_count}
use Rattle.zd_base.specs.declared.layout.Layout.{Layout}
use Rattle.zd_model.specs.Tables.{Tables, NamesZone, MapFollowsRules, BitsFollowRules}
use Rattle.zd_model.specs.Tables.{entry_of, is_valid, zones_of}
use Rattle.zd_model.specs.Faults.{has, is_twice, is_right_bit, bad_bit}
use Rattle.zd_model.specs.declared.metadata.MapEntry.{MapEntry}
use Rattle.zd_model.proofs.FaultLaws.{unmapped, both, none_some, some_is, has_named, or_right, apart_bools}

-- none of the pairs passes the test
failed : {X : Type 0} (b : Bool) (x : X) (o : Option X) → ◌≡◌ {A = Option X} (cond b (Some x) o) None → (b ≡ false) × (o ≡ None)
failed true x o h = cc
failed false x o h = (refl, h)

none_of : {X : Type 0} (o p : Option X) → option_or o p ≡ None → (o ≡ None) × (p ≡ None)
none_of None p h = (refl, h)
none_of (Some x) p h = cc

first_or_more : (b x : ℕ) → b ≤ x → (b ≡ x) ⊎ (b + 1 ≤ x)
first_or_more b x low = elim (eqb b x) as (λ t. eqb b x ≡ t → (b ≡ x) ⊎ (b + 1 ≤ x)) [
  | true ↦ λ e. inl (eqb-true b x e)
  | false ↦ λ e. inr (let apart : b ≡ x → ⊥ = (λ same. apart_bools (eqb b x) (eq-eqb b x same) e) in omega arith)
] refl

module _ (q : ℕ × ℕ → Bool) (m : ℕ) where
  row_fails : (z b n : ℕ) → find q (map (λ x. (z, x)) (range_with_len b n)) ≡ None → (x : ℕ) → b ≤ x → x < b + n → q (z, x) ≡ false
  row_fails z b zero h x low high = absurd (omega arith)
  row_fails z b (suc n) h x low high =
      let first = failed (q (z, b)) (z, b) (find q (map (λ x. (z, x)) (range_with_len (b + 1) n))) h in
      elim (first_or_more b x low) [
        | inl same ↦ ap (λ (y : ℕ). q (z, y)) (sym same) ∙ first.0
        | inr more ↦ row_fails z (b + 1) n first.1 x more (omega arith)
      ]

  pairs_fail : (a n : ℕ) → find q (flat_map (λ z. map (λ x. (z, x)) (range_with_len 0 m)) (range_with_len a n)) ≡ None → (z x : ℕ) → a ≤ z → z < a + n → x < m → q (z, x) ≡ false
  pairs_fail a zero h z x low high within = absurd (omega arith)
  pairs_fail a (suc n) h z x low high within =
      let rows = none_of _ _ (sym (find-append q (map (λ x. (a, x)) (range_with_len 0 m)) (flat_map (λ z. map (λ x. (z, x)) (range_with_len 0 m)) (range_with_len (a + 1) n))) ∙ h) in
      elim (first_or_more a z low) [
        | inl same ↦ ap (λ (y : ℕ). q (y, x)) (sym same) ∙ row_fails a 0 m rows.0 x (omega arith) (omega arith)
        | inr more ↦ pairs_fail (a + 1) n rows.1 z x more (omega arith) within
      ]

  row_none : (z b n : ℕ) → ((x : ℕ) → x < b + n → q (z, x) ≡ false) → find q (map (λ x. (z, x)) (range_with_len b n)) ≡ None
  row_none z b zero all = refl
  row_none z b (suc n) all = rw (all b (omega arith)) (row_none z (b + 1) n (λ x low. all x (omega arith)))

  pairs_none : (a n : ℕ) → ((z x : ℕ) → z < a + n → x < m → q (z, x) ≡ false) → find q (flat_map (λ z. map (λ x. (z, x)) (range_with_len 0 m)) (range_with_len a n)) ≡ None
  pairs_none a zero all = refl
  pairs_none a (suc n) all =
      let rest : List (ℕ × ℕ) = flat_map (λ z. map (λ x. (z, x)) (range_with_len 0 m)) (range_with_len (a + 1) n) in
      find-append q (map (λ x. (a, x)) (range_with_len 0 m)) rest
      ∙ ap (λ (o : Option (ℕ × ℕ)). option_or o (find q rest)) (row_none a 0 m (λ x low. all a x (omega arith) (omega arith)))
      ∙ pairs_none (a + 1) n (λ z x low. all z x (omega arith))

-- a zone is named by the entry of some chunk
split_or : (x y : Bool) → (x || y) ≡ true → (x ≡ true) ⊎ (y ≡ true)
split_or true y h = inl refl
split_or false y h = inr h

has_one : (y z : ℕ) → (eqb y z || false) ≡ true → y ≡ z
has_one y z h = elim (split_or (eqb y z) false h) [ inl e ↦ eqb-true y z e | inr e ↦ absurd (let f : ⊥ = cc in f) ]

names_of : (zone buffer : Option ℕ) (z : ℕ) → has (zones_of (record { zone = zone; buffer = buffer })) z ≡ true → (zone ≡ Some z) ⊎ (buffer ≡ Some z)
names_of None None z h = cc
names_of None (Some b) z h = inr (ap Some (has_one b z h))
names_of (Some y) None z h = inl (ap Some (has_one y z h))
names_of (Some y) (Some b) z h = elim (split_or (eqb y z) (eqb b z || false) h) [ inl e ↦ inl (ap Some (eqb-true y z e)) | inr e ↦ inr (ap Some (has_one b z e)) ]

named_by : (entries : List MapEntry) (z : ℕ) → has (flat_map zones_of entries) z ≡ true → (c : ℕ) × NamesZone (get_or entries c unmapped) z
named_by [] z h = cc
named_by (e ∷ entries) z h =
    elim (split_or (has (zones_of e) z) (has (flat_map zones_of entries) z) (sym (list_any-append (λ y. eqb y z) (zones_of e) (flat_map zones_of entries)) ∙ h)) [
      | inl here ↦ (0, names_of e.zone e.buffer z here)
      | inr later ↦ (let there = named_by entries z later in (suc there.0, there.1))
    ]

has_by : (entries : List MapEntry) (c z : ℕ) → NamesZone (get_or entries c unmapped) z → has (flat_map zones_of entries) z ≡ true
has_by [] c z (inl e) = absurd (none_some z e)
has_by [] c z (inr e) = absurd (none_some z e)
has_by (e ∷ entries) zero z h = list_any-append (λ y. eqb y z) (zones_of e) (flat_map zones_of entries) ∙ ap (λ (b : Bool). b || has (flat_map zones_of entries) z) (has_named e.zone e.buffer z h)
has_by (e ∷ entries) (suc c) z h =
    list_any-append (λ y. eqb y z) (zones_of e) (flat_map zones_of entries)
    ∙ ap (λ (b : Bool). has (zones_of e) z || b) (has_by entries c z h) ∙ or_right (has (zones_of e) z)

-- a test that all entries pass
all_at : (p : MapEntry → Bool) (entries : List MapEntry) (c b : ℕ) → list_all p entries ≡ true → (get_or entries c unmapped).buffer ≡ Some b → p (get_or entries c unmapped) ≡ true
all_at p [] c b h e = absurd (none_some b e)
all_at p (e ∷ entries) zero b h named = (both (p e) (list_all p entries) h).0
all_at p (e ∷ entries) (suc c) b h named = all_at p entries c b (both (p e) (list_all p entries) h).1 named

all_of : (p : MapEntry → Bool) (entries : List MapEntry) → ((c : ℕ) → p (get_or entries c unmapped) ≡ true) → list_all p entries ≡ true
all_of p [] h = refl
all_of p (e ∷ entries) h = rw (h 0) (all_of p entries (λ c. h (suc c)))

not_true : (b : Bool) → not b ≡ true → b ≡ false
not_true true h = cc
not_true false h = refl

right_where : (valid right : Bool) → (valid && not right) ≡ false → valid ≡ true → right ≡ true
right_where true true h v = refl
right_where true false h v = cc
right_where false right h v = cc

-- a bit that isn't bad follows the rules
module _ (g : Shape) (l : Layout) (pointer : ℕ → ℕ) (t : Tables) (map_rules : MapFollowsRules g l t.entries) (none : bad_bit g pointer t ≡ None) where
  right_at : (z x : ℕ) → z < zone_count g → x < g.zone_blocks → IsTrue (is_valid t z x) → is_right_bit g pointer t (z, x) ≡ true
  right_at z x low within valid =
      let bit = pairs_fail (λ p. is_valid t p.0 p.1 && not (is_right_bit g pointer t p)) g.zone_blocks 0 (zone_count g) none z x (omega arith) (omega arith) within in
      right_where (is_valid t z x) (is_right_bit g pointer t (z, x)) bit valid

  twice_is : (zone buffer : Option ℕ) (z b x : ℕ) → zone ≡ Some z → buffer ≡ Some b → is_valid t z x ≡ true → is_twice t (b, x) (record { zone = zone; buffer = buffer }) ≡ true
  twice_is None buffer z b x e f valid = absurd (none_some z e)
  twice_is (Some y) None z b x e f valid = absurd (none_some b f)
  twice_is (Some y) (Some a) z b x e f valid = rw (eq-eqb a b (some_is a b f)) (ap (λ (k : ℕ). is_valid t k x) (some_is y z e) ∙ valid)

  once : (c z b x : ℕ) → (entry_of t c).zone ≡ Some z → (entry_of t c).buffer ≡ Some b → x < g.zone_blocks → IsTrue (is_valid t z x) → is_valid t b x ≡ false
  once c z b x zone buffer within valid = by_test (is_valid t b x) refl
    where
      by_test : (v : Bool) → is_valid t b x ≡ v → v ≡ false
      by_test false e = refl
      by_test true e =
          let low = (map_rules.data_zones c b (inr buffer)).1 in
          let tests = both _ (list_all (λ (f : MapEntry). not (is_twice t (b, x) f)) t.entries) (right_at b x low within e) in
          let apart = not_true _ (all_at (λ (f : MapEntry). not (is_twice t (b, x) f)) t.entries c b tests.1 buffer) in
          absurd (apart_bools (is_twice t (b, x) (entry_of t c)) (twice_is (entry_of t c).zone (entry_of t c).buffer z b x zone buffer valid) apart)

  pub bits_follow : BitsFollowRules g pointer t
  bits_follow = record {
    named = λ z x low within valid. named_by t.entries z (first z x (right_at z x low within valid)).0;
    below = λ z x far low within valid. elim (split_or _ _ (first z x (right_at z x low within valid)).1) [
      | inl conventional ↦ absurd (let less = ltb-true z g.conv conventional in omega arith)
      | inr under ↦ leb-true (8 * x + 8) (pointer z) under
    ];
    one_place = once;
  }
    where
      first : (z x : ℕ) → is_right_bit g pointer t (z, x) ≡ true → (has (flat_map zones_of t.entries) z ≡ true) × ((ltb z g.conv || leb (8 * x + 8) (pointer z)) ≡ true)
      first z x h = both (has (flat_map zones_of t.entries) z) _ (both _ (list_all (λ (f : MapEntry). not (is_twice t (z, x) f)) t.entries) h).0

-- and where the rules hold, no bit is bad
module _ (g : Shape) (pointer : ℕ → ℕ) (t : Tables) (rules : BitsFollowRules g pointer t) where
  not_twice : (c z x : ℕ) (zone buffer : Option ℕ) → (entry_of t c).zone ≡ zone → (entry_of t c).buffer ≡ buffer → x < g.zone_blocks → is_valid t z x ≡ true → not (is_twice t (z, x) (record { zone = zone; buffer = buffer })) ≡ true
  not_twice c z x _ None e f within valid = refl
  not_twice c z x None (Some b) e f within valid = by_test (eqb b z)
    where
      by_test : (v : Bool) → not (v && false) ≡ true
      by_test true = refl
      by_test false = refl
  not_twice c z x (Some y) (Some b) e f within valid = by_tests (eqb b z) (is_valid t y x) refl refl
    where
      by_tests : (v w : Bool) → eqb b z ≡ v → is_valid t y x ≡ w → not (v && w) ≡ true
      by_tests false w k m = refl
      by_tests true false k m = refl
      by_tests true true k m = absurd (apart_bools (is_valid t b x) (ap (λ (n : ℕ). is_valid t n x) (eqb-true b z k) ∙ valid) (rules.one_place c y b x e f within m))

  right_bit : (z x : ℕ) → z < zone_count g → x < g.zone_blocks → is_valid t z x ≡ true → is_right_bit g pointer t (z, x) ≡ true
  right_bit z x low within valid =
      let name = rules.named z x low within valid in
      rw (has_by t.entries name.0 z name.1, below (ltb z g.conv) refl) (all_of (λ (f : MapEntry). not (is_twice t (z, x) f)) t.entries (λ c. not_twice c z x (entry_of t c).zone (entry_of t c).buffer refl refl within valid))
    where
      below : (v : Bool) → ltb z g.conv ≡ v → (ltb z g.conv || leb (8 * x + 8) (pointer z)) ≡ true
      below true e = rw e refl
      below false e = rw e (le-leb (8 * x + 8) (pointer z) (rules.below z x (ltb-false z g.conv e) low within valid))

  pub no_bad_bit : bad_bit g pointer t ≡ None
  no_bad_bit = pairs_none (λ p. is_valid t p.0 p.1 && not (is_right_bit g pointer t p)) g.zone_blocks 0 (zone_count g) (λ z x low within. by_test z x (omega arith) within (is_valid t z x) refl)
    where
      by_test : (z x : ℕ) → z < zone_count g → x < g.zone_blocks → (v : Bool) → is_valid t z x ≡ v → (v && not (is_right_bit g pointer t (z, x))) ≡ false
      by_test z x low within false e = refl
      by_test z x low within true e = rw (right_bit z x low within e) refl
