-- The sets and the numbers of zones after the use of one zone has changed.
use Rattle.std.proofs.Common.{◌≡◌, inl, inr, ℕ, suc, ◌+◌, ◌-◌, ◌<◌, Bool, true, false, cond, List, [], ◌∷◌, length, set, map, true≢false, refl, sym, ap, ap₂, ◌∙◌, arith, get_or-set_same, get_or-set_other, length-set}
use Rattle.std.proofs.Math.Seq.{map-set_same}
use Rattle.std.proofs.lemmas.List.{get_or_past}
use Rattle.std.proofs.lemmas.Bool.{cases_eq, cases_lt}
use Rattle.std.proofs.lemmas.List.Sums.{sum_by-set, get_or-le-sum_by}
use Rattle.zd_alloc.specs.Flags.{has_number, GivesFlag, HasNone}
use Rattle.zd_alloc.specs.Zones.{use_at, is_free, is_limbo, after_limbo, IsTally, HasTallies}
use Rattle.zd_alloc.specs.declared.uses.ZoneUse.{ZoneUse}
use Rattle.zd_alloc.specs.declared.uses.ZoneUse.TheVariants.{Meta, Free, Held, Limbo}

-- one zone where there is such a use
abbrev pub one : (ZoneUse → Bool) → ZoneUse → ℕ
one such u = cond (such u) 1 0

tally_set : (such : ZoneUse → Bool) (uses : List ZoneUse) (flags flags' : List ℕ) (n n' z : ℕ) (v : ZoneUse) → IsTally such uses flags n → z < length uses → length flags' ≡ length flags → GivesFlag (such v) z flags flags' → n' + one such (use_at uses z) ≡ n + one such v → IsTally such (set uses z v) flags' n'
tally_set such uses flags flags' n n' z v t inside same gives counts = record {
  room = omega (arith, t.room, same, length-set uses z v);
  tells = λ m. elim (cases_eq m z) [
    | inl here ↦ rw here (gives.there ∙ sym (ap such (get_or-set_same uses z v Meta inside)))
    | inr other ↦ gives.others m other ∙ t.tells m ∙ ap such (sym (get_or-set_other uses z m v Meta other))
  ];
  count = omega (arith, t.count, counts, sum_by-set (one such) uses z v Meta inside);
}

-- a use that is no such use before and after leaves all as it was
tally_same : (such : ZoneUse → Bool) (uses : List ZoneUse) (flags : List ℕ) (n z : ℕ) (v : ZoneUse) → IsTally such uses flags n → z < length uses → such (use_at uses z) ≡ such v → IsTally such (set uses z v) flags n
tally_same such uses flags n z v t inside e =
    tally_set such uses flags flags n n z v t inside refl
    (record { there = t.tells z ∙ e; others = λ m _. refl })
    (ap (λ (b : Bool). n + cond b 1 0) e)

-- where there is such a zone, the number isn't 0
tally_some : (such : ZoneUse → Bool) (uses : List ZoneUse) (flags : List ℕ) (n z : ℕ) → IsTally such uses flags n → z < length uses → such (use_at uses z) ≡ true → 0 < n
tally_some such uses flags n z t inside e =
    let here : one such (use_at uses z) ≡ 1 = ap (λ (b : Bool). cond b 1 0) e in
    omega (arith, t.count, here, get_or-le-sum_by (one such) uses z Meta inside)

-- such a zone gets another use
tally_out : (such : ZoneUse → Bool) (uses : List ZoneUse) (flags flags' : List ℕ) (n z : ℕ) (v : ZoneUse) → IsTally such uses flags n → z < length uses → such (use_at uses z) ≡ true → such v ≡ false → length flags' ≡ length flags → GivesFlag false z flags flags' → IsTally such (set uses z v) flags' (n - 1)
tally_out such uses flags flags' n z v t inside was now same gives =
    let here : one such (use_at uses z) ≡ 1 = ap (λ (b : Bool). cond b 1 0) was in
    let there : one such v ≡ 0 = ap (λ (b : Bool). cond b 1 0) now in
    tally_set such uses flags flags' n (n - 1) z v t inside same (rw now gives)
    (omega (arith, here, there, tally_some such uses flags n z t inside was))

-- another zone gets such a use
tally_in : (such : ZoneUse → Bool) (uses : List ZoneUse) (flags flags' : List ℕ) (n z : ℕ) (v : ZoneUse) → IsTally such uses flags n → z < length uses → such (use_at uses z) ≡ false → such v ≡ true → length flags' ≡ length flags → GivesFlag true z flags flags' → IsTally such (set uses z v) flags' (n + 1)
tally_in such uses flags flags' n z v t inside was now same gives =
    let here : one such (use_at uses z) ≡ 0 = ap (λ (b : Bool). cond b 1 0) was in
    let there : one such v ≡ 1 = ap (λ (b : Bool). cond b 1 0) now in
    tally_set such uses flags flags' n (n + 1) z v t inside same (rw now gives) (omega (arith, here, there))

pub kept_taken : (uses : List ZoneUse) (free free' limbo : List ℕ) (n m z : ℕ) → HasTallies uses free limbo n m → z < length uses → use_at uses z ≡ Free → length free' ≡ length free → GivesFlag false z free free' → HasTallies (set uses z Held) free' limbo (n - 1) m
kept_taken uses free free' limbo n m z kept inside was same gives = record {
  few = omega (arith, kept.few, length-set uses z Held);
  of_free = tally_out is_free uses free free' n z Held kept.of_free inside (ap is_free was) refl same gives;
  of_limbo = tally_same is_limbo uses limbo m z Held kept.of_limbo inside (ap is_limbo was);
}

pub kept_freed : (uses : List ZoneUse) (free free' limbo : List ℕ) (n m z : ℕ) → HasTallies uses free limbo n m → z < length uses → use_at uses z ≡ Held → length free' ≡ length free → GivesFlag true z free free' → HasTallies (set uses z Free) free' limbo (n + 1) m
kept_freed uses free free' limbo n m z kept inside was same gives = record {
  few = omega (arith, kept.few, length-set uses z Free);
  of_free = tally_in is_free uses free free' n z Free kept.of_free inside (ap is_free was) refl same gives;
  of_limbo = tally_same is_limbo uses limbo m z Free kept.of_limbo inside (ap is_limbo was);
}

pub kept_limbo : (uses : List ZoneUse) (free limbo limbo' : List ℕ) (n m z : ℕ) → HasTallies uses free limbo n m → z < length uses → use_at uses z ≡ Held → length limbo' ≡ length limbo → GivesFlag true z limbo limbo' → HasTallies (set uses z Limbo) free limbo' n (m + 1)
kept_limbo uses free limbo limbo' n m z kept inside was same gives = record {
  few = omega (arith, kept.few, length-set uses z Limbo);
  of_free = tally_same is_free uses free n z Limbo kept.of_free inside (ap is_free was);
  of_limbo = tally_in is_limbo uses limbo limbo' m z Limbo kept.of_limbo inside (ap is_limbo was) refl same gives;
}

pub kept_ended : (uses : List ZoneUse) (free free' limbo limbo' : List ℕ) (n m z : ℕ) → HasTallies uses free limbo n m → z < length uses → use_at uses z ≡ Limbo → length free' ≡ length free → GivesFlag true z free free' → length limbo' ≡ length limbo → GivesFlag false z limbo limbo' → HasTallies (set uses z Free) free' limbo' (n + 1) (m - 1)
kept_ended uses free free' limbo limbo' n m z kept inside was same gives same' gives' = record {
  few = omega (arith, kept.few, length-set uses z Free);
  of_free = tally_in is_free uses free free' n z Free kept.of_free inside (ap is_free was) refl same gives;
  of_limbo = tally_out is_limbo uses limbo limbo' m z Free kept.of_limbo inside (ap is_limbo was) refl same' gives';
}

is_limbo_one : (u : ZoneUse) → is_limbo u ≡ true → u ≡ Limbo
is_limbo_one Limbo e = refl
is_limbo_one Meta e = absurd (true≢false (sym e))
is_limbo_one Free e = absurd (true≢false (sym e))
is_limbo_one Held e = absurd (true≢false (sym e))

-- a set of limbo with a zone in it tells a zone in limbo, and one of the list
pub limbo_there : (uses : List ZoneUse) (flags : List ℕ) (n z : ℕ) → IsTally is_limbo uses flags n → has_number flags z ≡ true → use_at uses z ≡ Limbo
limbo_there uses flags n z t up = is_limbo_one (use_at uses z) (sym (t.tells z) ∙ up)

pub limbo_inside : (uses : List ZoneUse) (z : ℕ) → use_at uses z ≡ Limbo → z < length uses
limbo_inside uses z e = elim (cases_lt z (length uses)) [
  | inl less ↦ less
  | inr past ↦ absurd (true≢false (sym (ap is_limbo e) ∙ ap is_limbo (get_or_past uses z Meta past)))
]

-- with nothing in limbo its end changes nothing
keeps : (u : ZoneUse) → is_limbo u ≡ false → after_limbo u ≡ u
keeps Meta e = refl
keeps Free e = refl
keeps Held e = refl
keeps Limbo e = absurd (true≢false e)

ended_all : (uses : List ZoneUse) → ((z : ℕ) → is_limbo (use_at uses z) ≡ false) → map after_limbo uses ≡ uses
ended_all [] none = refl
ended_all (u ∷ us) none = ap₂ (λ (x : ZoneUse) (xs : List ZoneUse). x ∷ xs) (keeps u (none 0)) (ended_all us (λ z. none (suc z)))

pub ended_none : (uses : List ZoneUse) (flags : List ℕ) (n : ℕ) → IsTally is_limbo uses flags n → HasNone flags → map after_limbo uses ≡ uses
ended_none uses flags n t none = ended_all uses (λ z. sym (t.tells z) ∙ none z)

-- a zone freed out of limbo leaves what the end of limbo makes
pub ended_one : (uses : List ZoneUse) (z : ℕ) → use_at uses z ≡ Limbo → map after_limbo (set uses z Free) ≡ map after_limbo uses
ended_one uses z e = map-set_same after_limbo uses z Free Meta (sym (ap after_limbo e))
