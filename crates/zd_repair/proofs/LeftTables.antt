-- What is left of the tables: of the map first, and then of the bitmaps by what the map has zones do.
use Rattle.std.proofs.Common.{◌≡◌, ℕ, ◌+◌, ◌*◌, ◌/◌, ◌<◌, ◌≤◌, Bool, true, false, not, List, ◌++◌, take, drop, length, Option, Some, refl, sym, ap, ap₂, ◌∙◌, subst, inl, inr, arith}
use Rattle.std.proofs.lemmas.Bool.{cases_lt, false≢true}
use Rattle.std.proofs.Math.Seq.{take-append_seam}
use Rattle.std.specs.Prelude.{IsSomeAnd}
use Rattle.zd_base.specs.Geometry.{Shape, zone_count}
use Rattle.zd_base.specs.declared.layout.Layout.{Layout}
use Rattle.zd_examine.specs.Roles.{AreRoles, GivesRole, is_unnamed}
use Rattle.zd_examine.specs.declared.roles.Role.{Role}
use Rattle.zd_examine.specs.declared.roles.Role.TheVariants.{Unnamed, Main, Buffer}
use Rattle.zd_model.specs.Faults.{is_right_entry}
use Rattle.zd_model.specs.Tables.{MapFollowsRules, NamesZone, Tables, entry_of, is_valid}
use Rattle.zd_model.specs.declared.metadata.MapEntry.{MapEntry}
use Rattle.zd_model.proofs.FaultLaws.{some_is}
use Rattle.zd_tables.specs.Tables.{entries_in, entry_in_blocks, tables_in}
use Rattle.zd_repair.specs.Repaired.{IsLeftOf, IsMapLeft, IsWrongBy, IsWrongPlace, MakesInvalid, MayStayValid, left_of, named_before, role_at, wrong_entries}
use Rattle.zd_repair.proofs.LeftEntries.{held_entry}
use Rattle.zd_repair.proofs.LeftMaps.{named_as, passing_as}
use Rattle.zd_repair.proofs.RepairedMaps.{has_name, rules_left}

module _ (g : Shape) (l : Layout) (pointer : ℕ → ℕ) (old mid : List ℕ)
    (left : IsMapLeft g l (entry_in_blocks old) (entry_in_blocks mid) l.chunks) where
  -- the map that is left follows the rules
  pub map_rules : MapFollowsRules g l (entries_in l mid)
  map_rules = rules_left g l (entry_in_blocks old) (entry_in_blocks mid) l.chunks left

  module _ (roles : List Role) (are : AreRoles g (entry_in_blocks mid) l.chunks roles)
      (bits_stay : (z x : ℕ) → is_valid (tables_in g l mid) z x ≡ is_valid (tables_in g l old) z x)
      (next : Tables) (cleared : MakesInvalid (IsWrongPlace g (tables_in g l mid) roles pointer (zone_count g)) (tables_in g l mid) next) where
    abbrev t : Tables
    t = tables_in g l mid

    abbrev first : Tables
    first = tables_in g l old

    -- entries of the tables
    old_entry : (c : ℕ) → c < l.chunks → entry_of (tables_in g l old) c ≡ entry_in_blocks old c
    old_entry c low = held_entry g l old c low

    new_entry : (c : ℕ) → c < l.chunks → entry_of next c ≡ entry_in_blocks mid c
    new_entry c low = cleared.entries c ∙ held_entry g l mid c low

    before : (c : ℕ) → c ≤ l.chunks → named_before (entry_of next) c ≡ named_before (entry_in_blocks mid) c
    before c low = named_as (entry_in_blocks mid) (entry_of next) c (λ d less. new_entry d (omega (arith, low, less)))

    pub map_left : IsMapLeft g l (entry_of (tables_in g l old)) (entry_of next) l.chunks
    map_left c low =
        new_entry c low ∙ left c low
        ∙ ap₂ (left_of g l) (sym (before c (omega (arith, low)))) (sym (old_entry c low))

    pub wrong_left : wrong_entries g l (entry_in_blocks old) (entry_in_blocks mid) l.chunks
        ≡ wrong_entries g l (entry_of (tables_in g l old)) (entry_of next) l.chunks
    wrong_left = passing_as
        (λ c. not (is_right_entry g l (named_before (entry_in_blocks mid) c) (entry_in_blocks old c)))
        (λ c. not (is_right_entry g l (named_before (entry_of next) c) (entry_of (tables_in g l old) c))) l.chunks
        (λ c low. ap₂ (λ (zs : List ℕ) (e : MapEntry). not (is_right_entry g l zs e)) (sym (before c (omega (arith, low)))) (sym (old_entry c low)))

    -- what the tables have a zone do
    at_entry : (c z : ℕ) → NamesZone (entry_of next c) z → NamesZone (entry_of t c) z
    at_entry c z named = subst (λ (e : MapEntry). NamesZone e z) (cleared.entries c) named

    named_role : (c z : ℕ) → z < zone_count g → NamesZone (entry_of next c) z → is_unnamed (role_at roles z) ≡ false
    named_role c z low named = are.named.unnamed z low ∙ ap not (has_name g l mid c z (at_entry c z named))

    given_at : (z : ℕ) → z < zone_count g → is_unnamed (role_at roles z) ≡ false
        → (c : ℕ) × (c < l.chunks) × GivesRole z (role_at roles z) (entry_of t c)
    given_at z low named =
        let given = are.given z (role_at roles z) low refl named in
        (given.0, given.1, subst (GivesRole z (role_at roles z)) (sym (held_entry g l mid given.0 given.1)) given.2)

    names : (z : ℕ) (r : Role) (e : MapEntry) → GivesRole z r e → NamesZone e z
    names z Unnamed e gives = absurd gives
    names z Main e gives = inl gives
    names z (Buffer main) e gives = inr gives.1

    buffer_low : (c b : ℕ) → (entry_of t c).buffer ≡ Some b → (b < g.conv) × IsSomeAnd (entry_of t c).zone (λ y. g.conv ≤ y)
    buffer_low c b is = map_rules.buffers c b is

    beside_high : (c z b : ℕ) → (entry_of t c).zone ≡ Some z → (entry_of t c).buffer ≡ Some b → g.conv ≤ z
    beside_high c z b zone buffer = subst (λ (o : Option ℕ). IsSomeAnd o (λ y. g.conv ≤ y)) zone (buffer_low c b buffer).1

    -- a block that stays valid is at no wrong place
    module _ (z x : ℕ) (low : z < zone_count g) (inside : x < g.zone_blocks) (fine : IsWrongPlace g t roles pointer (zone_count g) z x → ⊥) where
      by_unnamed : role_at roles z ≡ Unnamed → ⊥
      by_unnamed is = fine (record {
        zone = z;
        low = low;
        wrong = subst (λ (r : Role). IsWrongBy g t r z (pointer z) z x) (sym is) (refl, omega arith, inside);
      })

      is_named : is_unnamed (role_at roles z) ≡ false
      is_named = by_role (role_at roles z) refl
        where
          by_role : (r : Role) → role_at roles z ≡ r → is_unnamed (role_at roles z) ≡ false
          by_role Unnamed is = absurd (by_unnamed is)
          by_role Main is = ap is_unnamed is
          by_role (Buffer main) is = ap is_unnamed is

      is_below : g.conv ≤ z → 8 * x + 8 ≤ pointer z
      is_below seq = by_role (role_at roles z) refl
        where
          by_role : (r : Role) → role_at roles z ≡ r → 8 * x + 8 ≤ pointer z
          by_role Unnamed is = absurd (by_unnamed is)
          by_role Main is = elim (cases_lt x (pointer z / 8)) [
            | inl less ↦ omega (arith, less)
            | inr past ↦ absurd (fine (record {
              zone = z;
              low = low;
              wrong = subst (λ (r : Role). IsWrongBy g t r z (pointer z) z x) (sym is) (seq, (refl, past, inside));
            }))
          ]
          by_role (Buffer main) is =
              let given = given_at z low is_named in
              let gives = subst (λ (r : Role). GivesRole z r (entry_of t given.0)) is given.2 in
              let conv = (buffer_low given.0 z gives.1).0 in
              absurd (omega (arith, conv, seq))

      is_alone : (c b : ℕ) → (entry_of t c).zone ≡ Some z → (entry_of t c).buffer ≡ Some b → is_valid t b x ≡ false
      is_alone c b zone buffer = by_valid (is_valid t b x) refl
        where
          there : b < zone_count g
          there = (map_rules.data_zones c b (inr buffer)).1

          role_is : role_at roles b ≡ Buffer z
          role_is = by_role (role_at roles b) refl
            where
              named : is_unnamed (role_at roles b) ≡ false
              named = are.named.unnamed b there ∙ ap not (has_name g l mid c b (inr buffer))

              by_role : (r : Role) → role_at roles b ≡ r → role_at roles b ≡ Buffer z
              by_role Unnamed is = absurd (false≢true (sym named ∙ ap is_unnamed is))
              by_role Main is =
                  let given = given_at b there named in
                  let main : (entry_of t given.0).zone ≡ Some b = subst (λ (r : Role). GivesRole b r (entry_of t given.0)) is given.2 in
                  let same = map_rules.named_once given.0 c b (inl main) (inr buffer) in
                  let one : b ≡ z = some_is b z (sym main ∙ ap (λ (d : ℕ). (entry_of t d).zone) same ∙ zone) in
                  let conv = (buffer_low c b buffer).0 in
                  let seq = beside_high c z b zone buffer in
                  absurd (omega (arith, conv, seq, one))
              by_role (Buffer other) is =
                  let given = given_at b there named in
                  let gives = subst (λ (r : Role). GivesRole b r (entry_of t given.0)) is given.2 in
                  let same = map_rules.named_once given.0 c b (inr gives.1) (inr buffer) in
                  let one : other ≡ z = some_is other z (sym gives.0 ∙ ap (λ (d : ℕ). (entry_of t d).zone) same ∙ zone) in
                  is ∙ ap Buffer one

          by_valid : (v : Bool) → is_valid t b x ≡ v → is_valid t b x ≡ false
          by_valid false is = is
          by_valid true is = absurd (fine (record {
            zone = b;
            low = there;
            wrong = subst (λ (r : Role). IsWrongBy g t r b (pointer b) z x) (sym role_is) ((refl, omega arith, inside), is);
          }))

    -- and the other way round
    fine_if : (z x : ℕ) → z < zone_count g → MayStayValid g pointer (tables_in g l old) next z x
        → IsWrongPlace g t roles pointer (zone_count g) z x → ⊥
    fine_if z x low may w = by_role (role_at roles w.zone) refl w.wrong
      where
        by_role : (r : Role) → role_at roles w.zone ≡ r → IsWrongBy g t r w.zone (pointer w.zone) z x → ⊥
        by_role Unnamed is at =
            let named = named_role may.named.0 z low may.named.1 in
            false≢true (sym named ∙ ap (λ (y : ℕ). is_unnamed (role_at roles y)) at.0 ∙ ap is_unnamed is)
        by_role Main is at =
            let seq : g.conv ≤ z = (let conv = at.0 in omega (arith, conv, at.1.0)) in
            let below = may.below seq in
            let same = ap pointer at.1.0 in
            omega (arith, below, same, at.1.1)
        by_role (Buffer main) is at =
            let named : is_unnamed (role_at roles w.zone) ≡ false = ap is_unnamed is in
            let given = given_at w.zone w.low named in
            let gives = subst (λ (r : Role). GivesRole w.zone r (entry_of t given.0)) is given.2 in
            let zone : (entry_of next given.0).zone ≡ Some z = ap (λ (e : MapEntry). e.zone) (cleared.entries given.0) ∙ gives.0 ∙ ap (λ (y : ℕ). Some y) (sym at.0.0) in
            let buffer : (entry_of next given.0).buffer ≡ Some w.zone = ap (λ (e : MapEntry). e.buffer) (cleared.entries given.0) ∙ gives.1 in
            false≢true (sym (may.alone given.0 w.zone zone buffer) ∙ sym (bits_stay w.zone x) ∙ at.1)

    pub is_left : IsLeftOf g l pointer (tables_in g l old) next
    is_left = record {
      map = map_left;
      bits = λ z x low inside. (
        λ valid. (
            let fine : IsWrongPlace g t roles pointer (zone_count g) z x → ⊥ = λ w. false≢true (sym (cleared.gone z x w) ∙ valid) in
            let named = is_named z x low inside fine in
            let given = given_at z low named in (
              sym (bits_stay z x) ∙ cleared.fewer z x valid,
              record {
                named = (
                  given.0,
                  subst (λ (e : MapEntry). NamesZone e z) (sym (cleared.entries given.0)) (names z (role_at roles z) (entry_of t given.0) given.2),
                );
                below = is_below z x low inside fine;
                alone = λ c b zone buffer. sym (bits_stay b x) ∙ is_alone z x low inside fine c b
                    (ap (λ (e : MapEntry). e.zone) (sym (cleared.entries c)) ∙ zone)
                    (ap (λ (e : MapEntry). e.buffer) (sym (cleared.entries c)) ∙ buffer);
              },
            )),
        λ h. cleared.others z x (fine_if z x low h.1) ∙ bits_stay z x ∙ h.0,
      );
      beyond = λ z x past. cleared.others z x (λ w. far z x past w) ∙ bits_stay z x;
    }
      where
        far : (z x : ℕ) → g.zone_blocks ≤ x → IsWrongPlace g t roles pointer (zone_count g) z x → ⊥
        far z x past w = by_role (role_at roles w.zone) w.wrong
          where
            by_role : (r : Role) → IsWrongBy g t r w.zone (pointer w.zone) z x → ⊥
            by_role Unnamed at = omega (arith, past, at.2)
            by_role Main at = omega (arith, past, at.1.2)
            by_role (Buffer main) at = omega (arith, past, at.0.2)

-- by values that were read
pub cleared_at : {g h : Shape} {l m : Layout} (mid : List ℕ) (roles : List Role) (pointer : ℕ → ℕ) (next : Tables) → g ≡ h → l ≡ m
    → MakesInvalid (IsWrongPlace g (tables_in g l mid) roles pointer (zone_count g)) (tables_in g l mid) next
    → MakesInvalid (IsWrongPlace h (tables_in h m mid) roles pointer (zone_count h)) (tables_in h m mid) next
cleared_at {g} {h} {l} {m} mid roles pointer next e f made =
    subst (λ (s : Shape). MakesInvalid (IsWrongPlace s (tables_in s m mid) roles pointer (zone_count s)) (tables_in s m mid) next) e
    (subst (λ (n : Layout). MakesInvalid (IsWrongPlace g (tables_in g n mid) roles pointer (zone_count g)) (tables_in g n mid) next) f made)

-- a list that was written over as a whole
pub written_over : {X : Type 0} (old new : List X) (n : ℕ) → n ≡ length new → take n (new ++ drop (length new) old) ≡ new
written_over old new n all =
    ap (λ (k : ℕ). take k (new ++ drop (length new) old)) all ∙ take-append_seam new (drop (length new) old)
