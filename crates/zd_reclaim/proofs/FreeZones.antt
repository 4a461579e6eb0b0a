-- A sequential zone is free where one counts.
use Rattle.std.proofs.Common.{◌≡◌, ◌⊎◌, inl, inr, ℕ, suc, ◌+◌, ◌-◌, ◌<◌, Bool, true, false, cond, nat_lt, List, [], ◌∷◌, length, count_by, refl, sym, ap, ◌∙◌, arith}
use Rattle.std.proofs.lemmas.List.{get_or-drop, get_or_past}
use Rattle.std.proofs.lemmas.List.Sums.{get_or-le-sum_by, sum_by-cons}
use Rattle.std.proofs.lemmas.Bool.{cases_lt, lt-ltb, ltb-true, true≢false}
use Rattle.zd_base.specs.declared.geometry.Kind.TheVariants.{Sequential}
use Rattle.zd_alloc.specs.Zones.{Division, is_free, use_at, uses_of}
use Rattle.zd_alloc.specs.declared.uses.ZoneUse.{ZoneUse}
use Rattle.zd_alloc.specs.declared.uses.ZoneUse.TheVariants.{Meta, Free, Held, Limbo}
use Rattle.zd_jobs.specs.Possible.{HasFreeSequential}

abbrev tally : ZoneUse → ℕ
tally u = cond (is_free u) 1 0

later : (u : ZoneUse) (zones : List ZoneUse) → (z : ℕ) × (use_at zones z ≡ Free)
    → (z : ℕ) × (use_at (u ∷ zones) z ≡ Free)
later u zones rest = (suc rest.0, rest.1)

-- where one counts there is one
pub some_free : (zones : List ZoneUse) → 0 < count_by is_free zones → (z : ℕ) × (use_at zones z ≡ Free)
some_free [] some = absurd (omega (arith, some))
some_free (Free ∷ zones) some = (0, refl)
some_free (Meta ∷ zones) some =
    later Meta zones (some_free zones (let n = sum_by-cons tally Meta zones in omega (arith, n, some)))
some_free (Held ∷ zones) some =
    later Held zones (some_free zones (let n = sum_by-cons tally Held zones in omega (arith, n, some)))
some_free (Limbo ∷ zones) some =
    later Limbo zones (some_free zones (let n = sum_by-cons tally Limbo zones in omega (arith, n, some)))

pub free_inside : (zones : List ZoneUse) (z : ℕ) → use_at zones z ≡ Free → z < length zones
free_inside zones z is = elim (cases_lt z (length zones)) [
  | inl less ↦ less
  | inr past ↦ absurd (true≢false (sym (ap is_free is) ∙ ap is_free (get_or_past zones z Meta past)))
]

-- zone z of the disk among the sequential ones
at_drop : (d : Division) (i : ℕ) → use_at (uses_of Sequential d) i ≡ use_at d.zones (d.conv + i)
at_drop d i = get_or-drop d.conv d.zones i Meta

pub free_counts : (d : Division) (n : ℕ) → n ≡ count_by is_free (uses_of Sequential d) → nat_lt 0 n ≡ true
    → HasFreeSequential d
free_counts d n is some =
    let low = ltb-true 0 n some in
    let one = some_free (uses_of Sequential d) (omega (arith, is, low)) in
    (d.conv + one.0, omega arith, sym (at_drop d one.0) ∙ one.1)

pub counts_free : (d : Division) (n : ℕ) → n ≡ count_by is_free (uses_of Sequential d) → HasFreeSequential d
    → nat_lt 0 n ≡ true
counts_free d n is has =
    let high = has.1 in
    let at : d.conv + (has.0 - d.conv) ≡ has.0 = omega (arith, high) in
    let free : use_at (uses_of Sequential d) (has.0 - d.conv) ≡ Free =
    at_drop d (has.0 - d.conv) ∙ ap (use_at d.zones) at ∙ has.2 in
    let here : tally (use_at (uses_of Sequential d) (has.0 - d.conv)) ≡ 1 = ap tally free in
    let most = get_or-le-sum_by tally (uses_of Sequential d) (has.0 - d.conv) Meta
    (free_inside (uses_of Sequential d) (has.0 - d.conv) free) in
    lt-ltb 0 n (omega (arith, here, most, is))

-- one is free or none is
pub free_or_not : (d : Division) → HasFreeSequential d ⊎ (HasFreeSequential d → ⊥)
free_or_not d = by (nat_lt 0 (count_by is_free (uses_of Sequential d))) refl
  where
    by : (b : Bool) → nat_lt 0 (count_by is_free (uses_of Sequential d)) ≡ b
        → HasFreeSequential d ⊎ (HasFreeSequential d → ⊥)
    by true is = inl (free_counts d (count_by is_free (uses_of Sequential d)) refl is)
    by false is = inr (λ has. true≢false (sym (counts_free d (count_by is_free (uses_of Sequential d)) refl has) ∙ is))
