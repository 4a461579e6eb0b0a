-- The blocks that zones make wrong, zone after zone, by what the map has them do.
use Rattle.std.proofs.Common.{◌≡◌, ◌≢◌, ℕ, ◌+◌, ◌<◌, ◌≤◌, List, Option, Some, get_or, refl, sym, ap, ◌∙◌, subst, inl, inr, arith}
use Rattle.std.proofs.lemmas.Bool.{cases_lt}
use Rattle.std.proofs.lemmas.List.{get_or_default}
use Rattle.std.specs.Prelude.{IsSomeAnd}
use Rattle.zd_base.specs.Geometry.{Shape, zone_count}
use Rattle.zd_base.specs.declared.layout.Layout.{Layout}
use Rattle.zd_examine.specs.Roles.{AreRoles}
use Rattle.zd_examine.specs.declared.roles.Role.{Role}
use Rattle.zd_examine.specs.declared.roles.Role.TheVariants.{Unnamed, Main, Buffer}
use Rattle.zd_model.specs.Tables.{MapFollowsRules, NamesZone, Tables, entry_in_map, is_valid}
use Rattle.zd_model.specs.declared.metadata.MapEntry.{MapEntry}
use Rattle.zd_model.proofs.FaultLaws.{some_is}
use Rattle.zd_tables.specs.Tables.{entries_in, entry_in_blocks}
use Rattle.zd_repair.specs.Repaired.{IsWrongBy, IsWrongPlace, MakesInvalid, role_at}
use Rattle.zd_repair.proofs.InvalidLaws.{invalid_then}
use Rattle.zd_repair.proofs.LeftEntries.{held_entry}

module _ (g : Shape) (l : Layout) (bytes : List ℕ) (roles : List Role) (rules : MapFollowsRules g l (entries_in l bytes))
    (are : AreRoles g (entry_in_blocks bytes) l.chunks roles) where
  abbrev entry : ℕ → MapEntry
  entry = entry_in_blocks bytes

  in_map : (c : ℕ) → c < l.chunks → entry_in_map (entries_in l bytes) c ≡ entry c
  in_map c low = held_entry g l bytes c low

  names : (c z : ℕ) → c < l.chunks → NamesZone (entry c) z → NamesZone (entry_in_map (entries_in l bytes) c) z
  names c z low named = subst (λ (e : MapEntry). NamesZone e z) (sym (in_map c low)) named

  -- a role that was read
  pub role_is : (z : ℕ) (role : Role) → z < zone_count g → role ≡ get_or roles z role → role ≡ role_at roles z
  role_is z role low is = is ∙ get_or_default roles z role Main (let count = are.named.count in omega (arith, count, low))

  -- a buffer stands beside another zone
  pub buffer_apart : (z main : ℕ) → z < zone_count g → role_at roles z ≡ Buffer main → (main < zone_count g) × (main ≢ z)
  buffer_apart z main low role =
      let given = are.given z (Buffer main) low role refl in
      let there = rules.buffers given.0 z (ap (λ (e : MapEntry). e.buffer) (in_map given.0 given.1) ∙ given.2.1) in
      let seq : IsSomeAnd (Some main) (λ y. g.conv ≤ y) =
      subst (λ (o : Option ℕ). IsSomeAnd o (λ y. g.conv ≤ y)) (ap (λ (e : MapEntry). e.zone) (in_map given.0 given.1) ∙ given.2.0) there.1 in (
        (rules.data_zones given.0 main (names given.0 main given.1 (inl given.2.0))).1,
        λ same. (let conv = there.0 in omega (arith, conv, seq, same)),
      )

  -- no other zone makes a block of a buffer wrong
  module _ (pointer : ℕ → ℕ) (first : Tables) (k main x : ℕ) (low : k < zone_count g) (role : role_at roles k ≡ Buffer main) where
    not_wrong : IsWrongPlace g first roles pointer k k x → ⊥
    not_wrong w = by_role (role_at roles w.zone) refl w.wrong
      where
        by_role : (r : Role) → role_at roles w.zone ≡ r → IsWrongBy g first r w.zone (pointer w.zone) k x → ⊥
        by_role Unnamed is at = (let less = w.low in omega (arith, less, at.0))
        by_role Main is at = (let less = w.low in omega (arith, less, at.1.0))
        by_role (Buffer other) is at =
            let mine = are.given k (Buffer main) low role refl in
            let less = w.low in
            let its = are.given w.zone (Buffer other) (omega (arith, less, low)) is refl in
            let here : (entry its.0).zone ≡ Some k = its.2.0 ∙ ap (λ (z : ℕ). Some z) (sym at.0.0) in
            let same : its.0 ≡ mine.0 = rules.named_once its.0 mine.0 k (names its.0 k its.1 (inl here)) (names mine.0 k mine.1 (inr mine.2.1)) in
            let zone : k ≡ main = some_is k main (sym here ∙ ap (λ (c : ℕ). (entry c).zone) same ∙ mine.2.0) in
            (buffer_apart k main low role).1 (sym zone)

  module _ (pointer : ℕ → ℕ) (first now next : Tables) (k : ℕ) (low : k < zone_count g)
      (before : MakesInvalid (IsWrongPlace g first roles pointer k) first now) where
    buffer_stays : (main x : ℕ) → role_at roles k ≡ Buffer main → is_valid now k x ≡ is_valid first k x
    buffer_stays main x role = before.others k x (not_wrong pointer first k main x low role)

    -- what the zone makes wrong, as at first
    as_first : (r : Role) → role_at roles k ≡ r → (z x : ℕ) → IsWrongBy g now r k (pointer k) z x → IsWrongBy g first r k (pointer k) z x
    as_first Unnamed is z x at = at
    as_first Main is z x at = at
    as_first (Buffer main) is z x at = (at.0, sym (buffer_stays main x is) ∙ at.1)

    as_now : (r : Role) → role_at roles k ≡ r → (z x : ℕ) → IsWrongBy g first r k (pointer k) z x → IsWrongBy g now r k (pointer k) z x
    as_now Unnamed is z x at = at
    as_now Main is z x at = at
    as_now (Buffer main) is z x at = (at.0, buffer_stays main x is ∙ at.1)

    pub wrong_more : MakesInvalid (IsWrongBy g now (role_at roles k) k (pointer k)) now next
        → MakesInvalid (IsWrongPlace g first roles pointer (k + 1)) first next
    wrong_more step =
        invalid_then (IsWrongPlace g first roles pointer k) (IsWrongBy g now (role_at roles k) k (pointer k))
        (IsWrongPlace g first roles pointer (k + 1)) first now next
        (λ z x w. record { zone = w.zone; low = (let less = w.low in omega (arith, less)); wrong = w.wrong })
        (λ z x at. record { zone = k; low = omega arith; wrong = as_first (role_at roles k) refl z x at })
        (λ z x w. elim (cases_lt w.zone k) [
          | inl less ↦ inl (record { zone = w.zone; low = less; wrong = w.wrong })
          | inr same ↦
              let here : w.zone ≡ k = (let less = w.low in omega (arith, less, same)) in
              inr (as_now (role_at roles k) refl z x (subst (λ (y : ℕ). IsWrongBy g first (role_at roles y) y (pointer y) z x) here w.wrong))
        ]) before step
