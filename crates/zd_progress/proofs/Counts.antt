-- How many zones of a kind are free, and how many are in limbo.
use Rattle.std.proofs.Common.{◌≡◌, ◌≢◌, ℕ, ◌+◌, ◌-◌, ◌<◌, ◌≤◌, Bool, true, false, cond, ◌||◌, nat_lt, List, [], ◌∷◌}
use Rattle.std.proofs.Common.{length, get_or, map}
use Rattle.std.proofs.Common.{count_by, inl, inr, refl, sym, ap, ◌∙◌, true≢false, arith}
use Rattle.std.specs.List.{list_any}
use Rattle.std.proofs.lemmas.List.{get_or-take, get_or-drop, length-drop, length-take-le, take-map, drop-map}
use Rattle.std.proofs.lemmas.List.Sums.{get_or-le-sum_by, sum_by-cons, sum_by-take-drop}
use Rattle.std.proofs.lemmas.Bool.{cases_Bool, false_from_ne_true, lt-ltb, or_left}
use Rattle.zd_base.specs.declared.geometry.Kind.{Kind}
use Rattle.zd_base.specs.declared.geometry.Kind.TheVariants.{Conventional, Sequential}
use Rattle.zd_alloc.specs.Zones.{Division, use_at, uses_of, is_free, is_limbo, after_limbo, use_after_release, IsOf}
use Rattle.zd_alloc.specs.declared.uses.ZoneUse.{ZoneUse}
use Rattle.zd_alloc.specs.declared.uses.ZoneUse.TheVariants.{Meta, Free, Held, Limbo}

-- what one use counts
abbrev one : (ZoneUse → Bool) → ZoneUse → ℕ
one such u = cond (such u) 1 0

some_in : (such : ZoneUse → Bool) (us : List ZoneUse) (i : ℕ) → i < length us → such (get_or us i Meta) ≡ true
    → 0 < count_by such us
some_in such us i inside is =
    let here : one such (get_or us i Meta) ≡ 1 = ap (λ (b : Bool). cond b 1 0) is in
    omega (arith, here, get_or-le-sum_by (one such) us i Meta inside)

-- the place of a zone among the uses of its kind
record IsPlaceOf (kind : Kind) (d : Division) (z i : ℕ) : Type 0 where
  inside : i < length (uses_of kind d)
  is : get_or (uses_of kind d) i Meta ≡ use_at d.zones z

place_of : (kind : Kind) (d : Division) (z : ℕ) → d.conv ≤ length d.zones → z < length d.zones
    → IsOf kind d.conv z → (i : ℕ) × IsPlaceOf kind d z i
place_of Conventional d z few inside of = (
  z,
  record {
    inside = omega (arith, of, few, length-take-le d.conv d.zones few);
    is = get_or-take d.conv d.zones z Meta of;
  },
)
place_of Sequential d z few inside of =
    let at : d.conv + (z - d.conv) ≡ z = omega (arith, of) in (
      z - d.conv,
      record {
        inside = omega (arith, of, inside, length-drop d.conv d.zones);
        is = get_or-drop d.conv d.zones (z - d.conv) Meta ∙ ap (λ (i : ℕ). get_or d.zones i Meta) at;
      },
    )

-- a zone of such a use counts among those of its kind
counts : (such : ZoneUse → Bool) (kind : Kind) (d : Division) (z : ℕ) → d.conv ≤ length d.zones
    → z < length d.zones → IsOf kind d.conv z → such (use_at d.zones z) ≡ true → 0 < count_by such (uses_of kind d)
counts such kind d z few inside of is =
    let at = place_of kind d z few inside of in
    some_in such (uses_of kind d) at.0 at.1.inside (ap such at.1.is ∙ is)

pub none_counts : (such : ZoneUse → Bool) (kind : Kind) (d : Division) (z : ℕ) → d.conv ≤ length d.zones
    → z < length d.zones → IsOf kind d.conv z → count_by such (uses_of kind d) ≡ 0
    → such (use_at d.zones z) ≡ false
none_counts such kind d z few inside of none =
    false_from_ne_true (such (use_at d.zones z))
    (λ is. omega (arith, none, counts such kind d z few inside of is))

-- a zone that is given back is free or in limbo
pub release_counts : (kind : Kind) (d : Division) (z : ℕ) (named : Bool) → d.conv ≤ length d.zones
    → z < length d.zones → IsOf kind d.conv z → use_at d.zones z ≡ use_after_release named
    → 0 < count_by is_free (uses_of kind d) + count_by is_limbo (uses_of kind d)
release_counts kind d z true few inside of is =
    omega (arith, counts is_limbo kind d z few inside of (ap is_limbo is))
release_counts kind d z false few inside of is =
    omega (arith, counts is_free kind d z few inside of (ap is_free is))

-- a use that is none of the others
pub held_left : (u : ZoneUse) → u ≢ Meta → is_free u ≡ false → is_limbo u ≡ false → u ≡ Held
held_left Meta ne f l = absurd (ne refl)
held_left Free ne f l = absurd (true≢false f)
held_left Held ne f l = refl
held_left Limbo ne f l = absurd (true≢false l)

free_after : (u : ZoneUse) → one is_free (after_limbo u) ≡ one is_free u + one is_limbo u
free_after Meta = refl
free_after Free = refl
free_after Held = refl
free_after Limbo = refl

limbo_after : (u : ZoneUse) → one is_limbo (after_limbo u) ≡ 0
limbo_after Meta = refl
limbo_after Free = refl
limbo_after Held = refl
limbo_after Limbo = refl

free_ended : (us : List ZoneUse) → count_by is_free (map after_limbo us) ≡ count_by is_free us + count_by is_limbo us
free_ended [] = refl
free_ended (u ∷ us) = omega (
  arith,
  free_ended us,
  free_after u,
  sum_by-cons (one is_free) (after_limbo u) (map after_limbo us),
  sum_by-cons (one is_free) u us,
  sum_by-cons (one is_limbo) u us,
)

limbo_ended : (us : List ZoneUse) → count_by is_limbo (map after_limbo us) ≡ 0
limbo_ended [] = refl
limbo_ended (u ∷ us) = omega (
  arith,
  limbo_ended us,
  limbo_after u,
  sum_by-cons (one is_limbo) (after_limbo u) (map after_limbo us),
)

-- limbo has ended
abbrev pub ended : Division → Division
ended d = record d { zones = map after_limbo d.zones }

uses_ended : (kind : Kind) (d : Division) → uses_of kind (ended d) ≡ map after_limbo (uses_of kind d)
uses_ended Conventional d = take-map after_limbo d.conv d.zones
uses_ended Sequential d = drop-map after_limbo d.conv d.zones

pub free_when_ended : (kind : Kind) (d : Division)
    → count_by is_free (uses_of kind (ended d))
    ≡ count_by is_free (uses_of kind d) + count_by is_limbo (uses_of kind d)
free_when_ended kind d = ap (count_by is_free) (uses_ended kind d) ∙ free_ended (uses_of kind d)

pub limbo_when_ended : (kind : Kind) (d : Division) → count_by is_limbo (uses_of kind (ended d)) ≡ 0
limbo_when_ended kind d = ap (count_by is_limbo) (uses_ended kind d) ∙ limbo_ended (uses_of kind d)

-- some zone is in limbo exactly where one of either kind is
some_counts : (such : ZoneUse → Bool) (us : List ZoneUse) → list_any such us ≡ nat_lt 0 (count_by such us)
some_counts such [] = refl
some_counts such (u ∷ us) = elim (cases_Bool (such u)) [
  | inl ok ↦
      let here : one such u ≡ 1 = ap (λ (b : Bool). cond b 1 0) ok in
      or_left (such u) (list_any such us) ok
      ∙ sym (lt-ltb 0 (count_by such (u ∷ us)) (omega (arith, here, sum_by-cons (one such) u us)))
  | inr ng ↦
      let none : one such u ≡ 0 = ap (λ (b : Bool). cond b 1 0) ng in
      let same : count_by such us ≡ count_by such (u ∷ us) = omega (arith, none, sum_by-cons (one such) u us) in
      ap (λ (b : Bool). b || list_any such us) ng ∙ some_counts such us ∙ ap (nat_lt 0) same
]

pub limbo_in_all : (d : Division) → list_any is_limbo d.zones
    ≡ nat_lt 0 (count_by is_limbo (uses_of Conventional d) + count_by is_limbo (uses_of Sequential d))
limbo_in_all d = some_counts is_limbo d.zones ∙ ap (nat_lt 0) (sym (sum_by-take-drop (one is_limbo) d.zones d.conv))
