-- A zone is in limbo where one of a kind is.
use Rattle.std.proofs.Common.{◌≡◌, ℕ, suc, ◌+◌, ◌<◌, ◌≤◌, true, cond, nat_lt, List, [], ◌∷◌, take, drop, count_by, refl, sym, ap, ◌∙◌, arith}
use Rattle.std.proofs.lemmas.List.{take-append-drop}
use Rattle.std.proofs.lemmas.List.Sums.{get_or-le-sum_by, sum_by-append, sum_by-cons}
use Rattle.std.proofs.lemmas.Bool.{lt-ltb, ltb-true}
use Rattle.zd_base.specs.declared.geometry.Kind.TheVariants.{Conventional, Sequential}
use Rattle.zd_alloc.specs.Zones.{Division, is_limbo, use_at, uses_of}
use Rattle.zd_alloc.specs.declared.uses.ZoneUse.{ZoneUse}
use Rattle.zd_alloc.specs.declared.uses.ZoneUse.TheVariants.{Meta, Free, Held, Limbo}
use Rattle.zd_alloc.proofs.TallyLaws.{limbo_inside}
use Rattle.zd_commit.specs.Closed.{HasLimbo}

abbrev tally : ZoneUse → ℕ
tally u = cond (is_limbo u) 1 0

-- a zone in limbo counts
counted : (zones : List ZoneUse) (z : ℕ) → use_at zones z ≡ Limbo → 0 < count_by is_limbo zones
counted zones z is =
    let here : tally (use_at zones z) ≡ 1 = ap tally is in
    let most = get_or-le-sum_by tally zones z Meta (limbo_inside zones z is) in
    omega (arith, here, most)

later : (u : ZoneUse) (zones : List ZoneUse) → (z : ℕ) × (use_at zones z ≡ Limbo) → (z : ℕ) × (use_at (u ∷ zones) z ≡ Limbo)
later u zones rest = (suc rest.0, rest.1)

-- and where one counts there is one
some_one : (zones : List ZoneUse) → 0 < count_by is_limbo zones → (z : ℕ) × (use_at zones z ≡ Limbo)
some_one [] some = absurd (omega (arith, some))
some_one (Limbo ∷ zones) some = (0, refl)
some_one (Meta ∷ zones) some =
    later Meta zones (some_one zones (let n = sum_by-cons tally Meta zones in omega (arith, n, some)))
some_one (Free ∷ zones) some =
    later Free zones (some_one zones (let n = sum_by-cons tally Free zones in omega (arith, n, some)))
some_one (Held ∷ zones) some =
    later Held zones (some_one zones (let n = sum_by-cons tally Held zones in omega (arith, n, some)))

-- both kinds together are all
both_kinds : (d : Division)
    → count_by is_limbo (uses_of Conventional d) + count_by is_limbo (uses_of Sequential d) ≡ count_by is_limbo d.zones
both_kinds d =
    sym (sum_by-append tally (take d.conv d.zones) (drop d.conv d.zones))
    ∙ ap (count_by is_limbo) (take-append-drop d.conv d.zones)

pub first_limbo : (d : Division) (n : ℕ) → n ≡ count_by is_limbo (uses_of Conventional d) → nat_lt 0 n ≡ true → HasLimbo d
first_limbo d n is some =
    let low = ltb-true 0 n some in
    some_one d.zones (let b = both_kinds d in omega (arith, b, is, low))

pub second_limbo : (d : Division) (n : ℕ) → n ≡ count_by is_limbo (uses_of Sequential d) → nat_lt 0 n ≡ true → HasLimbo d
second_limbo d n is some =
    let low = ltb-true 0 n some in
    some_one d.zones (let b = both_kinds d in omega (arith, b, is, low))

pub limbo_last : (d : Division) (m n : ℕ) → m ≡ count_by is_limbo (uses_of Conventional d)
    → n ≡ count_by is_limbo (uses_of Sequential d) → m ≤ 0 → HasLimbo d → nat_lt 0 n ≡ true
limbo_last d m n first second none has =
    let b = both_kinds d in
    let c = counted d.zones has.0 has.1 in
    lt-ltb 0 n (omega (arith, b, c, first, second, none))
