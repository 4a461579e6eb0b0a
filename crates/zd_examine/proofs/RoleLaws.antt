-- The roles after one entry more.
use Rattle.std.proofs.Common.{◌≡◌, ℕ, ◌+◌, ◌<◌, Bool, true, false, not, ◌&&◌, ◌||◌, List, [], ◌∷◌, ◌++◌, map, length, get_or, Option, Some, None, refl, sym, ap, ap₂, ◌∙◌, subst, inl, inr, arith, eqb, ltb, leb}
use Rattle.std.proofs.Math.ListN.{set}
use Rattle.std.proofs.lemmas.List.{ext_get_or, get_or-map, get_or-set_same, get_or-set_other, length-map, length-set}
use Rattle.std.proofs.lemmas.List.FromFn.{get_or-map-range_with_len, length-map-range_with_len}
use Rattle.std.proofs.lemmas.List.Folds.{list_any-append}
use Rattle.std.proofs.lemmas.Bool.{false≢true}
use borrow.Author.Tests.{eq-eqb, eqb-true, ltb-true}
use Rattle.std.specs.Prelude.{IsSome}
use Rattle.std.specs.List.{flat_map, list_all, range_with_len}
use Rattle.std.specs.Option.{option_map_or}
use Rattle.zd_base.specs.Geometry.{Shape, zone_count}
use Rattle.zd_base.specs.Layout.{first_data_zone}
use Rattle.zd_base.specs.declared.layout.Layout.{Layout}
use Rattle.zd_model.specs.Faults.{has, is_new_zone, is_right_entry, is_right_buffer}
use Rattle.zd_model.specs.Tables.{NamesZone, zones_of}
use Rattle.zd_model.specs.declared.metadata.MapEntry.{MapEntry}
use Rattle.zd_model.proofs.FaultLaws.{all_named, both, none_some}
use Rattle.zd_examine.specs.declared.roles.Role.{Role}
use Rattle.zd_examine.specs.declared.roles.Role.TheVariants.{Main, Buffer}
use Rattle.zd_examine.specs.Roles.{AreRoles, GivesRole, is_unnamed, roles_with}
use Rattle.zd_examine.proofs.EntryLaws.{named_more}

-- the zones of a right entry are zones of the disk
pub in_disk : (g : Shape) (l : Layout) (earlier : List ℕ) (e : MapEntry) (z : ℕ) → is_right_entry g l earlier e ≡ true → NamesZone e z → z < zone_count g
in_disk g l earlier e z right named =
    let tests = both (list_all (is_new_zone g l earlier) (zones_of e)) (option_map_or (is_right_buffer g e.zone) e.buffer true) right in
    let test = all_named (is_new_zone g l earlier) e.zone e.buffer z tests.0 named in
    let within = both (leb (first_data_zone g l) z && ltb z (zone_count g)) (not (has earlier z)) test in
    ltb-true z (zone_count g) (both (leb (first_data_zone g l) z) (ltb z (zone_count g)) within.0).1

and_false : (x : Bool) → (x && false) ≡ true → false ≡ true
and_false true h = h
and_false false h = h

-- a right entry without a zone has no buffer
pub no_buffer : (g : Shape) (l : Layout) (earlier : List ℕ) (e : MapEntry) → is_right_entry g l earlier e ≡ true → e.zone ≡ None → e.buffer ≡ None
no_buffer g l earlier e right none = by_buffer e.buffer refl
  where
    test : option_map_or (is_right_buffer g e.zone) e.buffer true ≡ true
    test = (both (list_all (is_new_zone g l earlier) (zones_of e)) (option_map_or (is_right_buffer g e.zone) e.buffer true) right).1

    by_buffer : (o : Option ℕ) → e.buffer ≡ o → e.buffer ≡ None
    by_buffer None is = is
    by_buffer (Some b) is =
        let wrong : option_map_or (is_right_buffer g None) (Some b) true ≡ true = ap₂ (λ (z o : Option ℕ). option_map_or (is_right_buffer g z) o true) (sym none) (sym is) ∙ test in
        absurd (false≢true (and_false (ltb b g.conv) wrong))

-- so a buffer stands beside a zone
pub beside_zone : (g : Shape) (l : Layout) (earlier : List ℕ) (e : MapEntry) (b : ℕ) → is_right_entry g l earlier e ≡ true → e.buffer ≡ Some b → IsSome e.zone
beside_zone g l earlier e b right is = by_zone e.zone refl
  where
    by_zone : (o : Option ℕ) → e.zone ≡ o → IsSome o
    by_zone (Some z) zone = search
    by_zone None zone = absurd (none_some b (sym (no_buffer g l earlier e right zone) ∙ is))

-- one zone given a role
module _ (earlier : List ℕ) (roles : List Role) (z y : ℕ) (role : Role) (low : y < length roles) (named : is_unnamed role ≡ false) where
  pub set_unnamed : is_unnamed (get_or roles z Main) ≡ not (has earlier z)
      → is_unnamed (get_or (set roles y role) z Main) ≡ not (has earlier z || eqb y z)
  set_unnamed before = by_test (eqb y z) refl
    where
      or_true : (x : Bool) → not (x || true) ≡ false
      or_true true = refl
      or_true false = refl

      or_false : (x : Bool) → not x ≡ not (x || false)
      or_false true = refl
      or_false false = refl

      by_test : (b : Bool) → eqb y z ≡ b → is_unnamed (get_or (set roles y role) z Main) ≡ not (has earlier z || b)
      by_test true same =
          ap (λ i. is_unnamed (get_or (set roles y role) i Main)) (sym (eqb-true y z same)) ∙ ap is_unnamed (get_or-set_same roles y role Main low)
          ∙ named ∙ sym (or_true (has earlier z))
      by_test false other =
          ap is_unnamed (get_or-set_other roles y z role Main (λ e. false≢true (sym other ∙ eq-eqb y z (sym e))))
          ∙ before ∙ or_false (has earlier z)

or_assoc : (x y z : Bool) → (x || (y || (z || false))) ≡ ((x || y) || z)
or_assoc true y z = refl
or_assoc false true z = refl
or_assoc false false true = refl
or_assoc false false false = refl

or_end : (x y : Bool) → (x || (y || false)) ≡ (x || y)
or_end true y = refl
or_end false true = refl
or_end false false = refl

or_nothing : (x : Bool) → (x || false) ≡ x
or_nothing true = refl
or_nothing false = refl

-- the zones of the entry have roles, and the others what they had
module _ (g : Shape) (l : Layout) (entry : ℕ → MapEntry) (k : ℕ) (roles : List Role) (before : AreRoles g entry k roles) (right : is_right_entry g l (flat_map zones_of (map entry (range_with_len 0 k))) (entry k) ≡ true) where
  abbrev earlier : List ℕ
  earlier = flat_map zones_of (map entry (range_with_len 0 k))

  has_more : (z : ℕ) → has (flat_map zones_of (map entry (range_with_len 0 (k + 1)))) z ≡ (has earlier z || has (zones_of (entry k)) z)
  has_more z = ap (λ (zs : List ℕ). has zs z) (named_more entry k) ∙ list_any-append (λ y. eqb y z) earlier (zones_of (entry k))

  old_given : (z : ℕ) (role : Role) → z < zone_count g → get_or roles z Main ≡ role → is_unnamed role ≡ false → (c : ℕ) × (c < k + 1) × GivesRole z role (entry c)
  old_given z role low is named = (let given = before.given z role low is named in (given.0, omega (arith, given.1), given.2))

  unmapped : (entry k).zone ≡ None → AreRoles g entry (k + 1) (roles_with (entry k).zone (entry k).buffer roles)
  unmapped none = rw none (record {
    named = record {
      count = before.named.count;
      unnamed = λ z low. before.named.unnamed z low ∙ ap not (sym (has_more z ∙ ap (λ (zs : List ℕ). has earlier z || has zs z) (nothing (entry k) none (no_buffer g l earlier (entry k) right none)) ∙ or_nothing (has earlier z)));
    };
    given = old_given;
  })
    where
      nothing : (e : MapEntry) → e.zone ≡ None → e.buffer ≡ None → zones_of e ≡ []
      nothing e zone buffer = rw (zone, buffer) refl

  mapped : (y : ℕ) → (entry k).zone ≡ Some y → (entry k).buffer ≡ None → AreRoles g entry (k + 1) (roles_with (entry k).zone (entry k).buffer roles)
  mapped y is none = rw (is, none) (record {
    named = record {
      count = length-set roles y Main ∙ before.named.count;
      unnamed = λ z low. set_unnamed earlier roles z y Main there refl (before.named.unnamed z low)
          ∙ ap not (sym (has_more z ∙ ap (λ (zs : List ℕ). has earlier z || has zs z) (one (entry k) is none) ∙ or_end (has earlier z) (eqb y z)));
    };
    given = λ z role low at named. by_test z role low at named (eqb y z) refl;
  })
    where
      there : y < length roles
      there = (let low = in_disk g l earlier (entry k) y right (inl is) in let count = before.named.count in omega arith)

      one : (e : MapEntry) → e.zone ≡ Some y → e.buffer ≡ None → zones_of e ≡ y ∷ []
      one e zone buffer = rw (zone, buffer) refl

      by_test : (z : ℕ) (role : Role) → z < zone_count g → get_or (set roles y Main) z Main ≡ role → is_unnamed role ≡ false → (b : Bool) → eqb y z ≡ b
          → (c : ℕ) × (c < k + 1) × GivesRole z role (entry c)
      by_test z role low at named true same =
          let main : role ≡ Main = sym at ∙ ap (λ i. get_or (set roles y Main) i Main) (sym (eqb-true y z same)) ∙ get_or-set_same roles y Main Main there in
          (k, omega arith, subst (λ (r : Role). GivesRole z r (entry k)) (sym main) (is ∙ ap Some (eqb-true y z same)))
      by_test z role low at named false other =
          old_given z role low (sym (get_or-set_other roles y z Main Main (λ e. false≢true (sym other ∙ eq-eqb y z (sym e)))) ∙ at) named

  buffered : (y b : ℕ) → (entry k).zone ≡ Some y → (entry k).buffer ≡ Some b → AreRoles g entry (k + 1) (roles_with (entry k).zone (entry k).buffer roles)
  buffered y b is beside = rw (is, beside) (record {
    named = record {
      count = length-set (set roles y Main) b (Buffer y) ∙ length-set roles y Main ∙ before.named.count;
      unnamed = λ z low. set_two z low;
    };
    given = λ z role low at named. by_test z role low at named (eqb b z) refl;
  })
    where
      there : y < length roles
      there = (let low = in_disk g l earlier (entry k) y right (inl is) in let count = before.named.count in omega arith)

      here : b < length (set roles y Main)
      here = (let low = in_disk g l earlier (entry k) b right (inr beside) in let count = before.named.count in let size = length-set roles y Main in omega arith)

      two : (e : MapEntry) → e.zone ≡ Some y → e.buffer ≡ Some b → zones_of e ≡ y ∷ b ∷ []
      two e zone buffer = rw (zone, buffer) refl

      set_two : (z : ℕ) → z < zone_count g → is_unnamed (get_or (set (set roles y Main) b (Buffer y)) z Main) ≡ not (has (flat_map zones_of (map entry (range_with_len 0 (k + 1)))) z)
      set_two z low =
          set_unnamed (earlier ++ y ∷ []) (set roles y Main) z b (Buffer y) here refl
          (set_unnamed earlier roles z y Main there refl (before.named.unnamed z low) ∙ ap not (sym (list_any-append (λ i. eqb i z) earlier (y ∷ []) ∙ or_end (has earlier z) (eqb y z))))
          ∙ ap not (ap (λ (x : Bool). x || eqb b z) (list_any-append (λ i. eqb i z) earlier (y ∷ []) ∙ or_end (has earlier z) (eqb y z))
          ∙ sym (has_more z ∙ ap (λ (zs : List ℕ). has earlier z || has zs z) (two (entry k) is beside) ∙ or_assoc (has earlier z) (eqb y z) (eqb b z)))

      by_main : (z : ℕ) (role : Role) → z < zone_count g → get_or (set roles y Main) z Main ≡ role → is_unnamed role ≡ false → (t : Bool) → eqb y z ≡ t
          → (c : ℕ) × (c < k + 1) × GivesRole z role (entry c)
      by_main z role low at named true same =
          let main : role ≡ Main = sym at ∙ ap (λ i. get_or (set roles y Main) i Main) (sym (eqb-true y z same)) ∙ get_or-set_same roles y Main Main there in
          (k, omega arith, subst (λ (r : Role). GivesRole z r (entry k)) (sym main) (is ∙ ap Some (eqb-true y z same)))
      by_main z role low at named false other =
          old_given z role low (sym (get_or-set_other roles y z Main Main (λ e. false≢true (sym other ∙ eq-eqb y z (sym e)))) ∙ at) named

      by_test : (z : ℕ) (role : Role) → z < zone_count g → get_or (set (set roles y Main) b (Buffer y)) z Main ≡ role → is_unnamed role ≡ false → (t : Bool) → eqb b z ≡ t
          → (c : ℕ) × (c < k + 1) × GivesRole z role (entry c)
      by_test z role low at named true same =
          let buffer : role ≡ Buffer y = sym at ∙ ap (λ i. get_or (set (set roles y Main) b (Buffer y)) i Main) (sym (eqb-true b z same)) ∙ get_or-set_same (set roles y Main) b (Buffer y) Main here in
          (k, omega arith, subst (λ (r : Role). GivesRole z r (entry k)) (sym buffer) (is, beside ∙ ap Some (eqb-true b z same)))
      by_test z role low at named false other =
          by_main z role low (sym (get_or-set_other (set roles y Main) b z (Buffer y) Main (λ e. false≢true (sym other ∙ eq-eqb b z (sym e)))) ∙ at) named (eqb y z) refl

  pub roles_more : AreRoles g entry (k + 1) (roles_with (entry k).zone (entry k).buffer roles)
  roles_more = by_zone (entry k).zone (entry k).buffer refl refl
    where
      by_zone : (zone buffer : Option ℕ) → (entry k).zone ≡ zone → (entry k).buffer ≡ buffer → AreRoles g entry (k + 1) (roles_with (entry k).zone (entry k).buffer roles)
      by_zone None buffer is beside = unmapped is
      by_zone (Some y) None is beside = mapped y is beside
      by_zone (Some y) (Some b) is beside = buffered y b is beside

-- the flags of the zones that are no longer unnamed
pub flags_are : (g : Shape) (entry : ℕ → MapEntry) (k : ℕ) (roles : List Role) → AreRoles g entry k roles
    → map (λ (role : Role). not (is_unnamed role)) roles
    ≡ map (has (flat_map zones_of (map entry (range_with_len 0 k)))) (range_with_len 0 (zone_count g))
flags_are g entry k roles are =
    let zones : List ℕ = flat_map zones_of (map entry (range_with_len 0 k)) in
    let size : length (map (λ (role : Role). not (is_unnamed role)) roles) ≡ zone_count g = length-map roles (λ (role : Role). not (is_unnamed role)) ∙ are.named.count in
    ext_get_or false _ _ (size ∙ sym (length-map-range_with_len (has zones) 0 (zone_count g))) (λ i low.
    let under : i < zone_count g = omega (arith, low, size) in
    get_or-map (λ (role : Role). not (is_unnamed role)) roles i Main false (omega (arith, under, are.named.count))
    ∙ ap not (are.named.unnamed i under) ∙ twice (has zones i)
    ∙ sym (get_or-map-range_with_len (has zones) 0 (zone_count g) i i false under (omega arith)))
  where
    twice : (b : Bool) → not (not b) ≡ b
    twice true = refl
    twice false = refl
