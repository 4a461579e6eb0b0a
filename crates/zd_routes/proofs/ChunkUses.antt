-- THE ZONES ARE USED RIGHT where one zone has another use, and the others are named as they were.
use Rattle.std.proofs.Common.{◌≡◌, ◌≢◌, ◌⊎◌, ◌↔◌, ℕ, ◌<◌, ◌≤◌, Bool, true, false, List, length, get_or, Option}
use Rattle.std.proofs.Common.{inl, inr, refl, sym, ◌∙◌, subst, arith}
use Rattle.std.proofs.lemmas.Bool.{cases_eq, false≢true}
use Rattle.zd_base.specs.Geometry.{zone_count}
use Rattle.zd_base.specs.Layout.{first_data_zone}
use Rattle.zd_alloc.specs.Zones.{Division, use_after_release, use_at}
use Rattle.zd_alloc.specs.declared.uses.ZoneUse.{ZoneUse}
use Rattle.zd_alloc.specs.declared.uses.ZoneUse.TheVariants.{Free, Held, Limbo, Meta}
use Rattle.zd_volume.specs.Jobs.{IsNamed, IsTarget}
use Rattle.zd_volume.specs.Sets.{Sets, new_tables, old_tables}
use Rattle.zd_volume.specs.Uses.{AreUsed, FlagNamed}
use Rattle.zd_volume.specs.declared.work.Work.{Work}

-- a zone with this use, by what names it
pub record IsUsedAs (s : Sets) (job : Option Work) (z : ℕ) (use_now : ZoneUse) : Type 0 where
  pub meta : z < zone_count s.geometry → (use_now ≡ Meta) ↔ (z < first_data_zone s.geometry s.head.layout)
  pub free : use_now ≡ Free →
      (IsNamed (old_tables s) z → ⊥) × (IsNamed (new_tables s) z → ⊥) × (IsTarget job z → ⊥)
  pub limbo : use_now ≡ Limbo →
      IsNamed (old_tables s) z × (IsNamed (new_tables s) z → ⊥) × (IsTarget job z → ⊥)
  pub held : use_now ≡ Held → IsNamed (new_tables s) z ⊎ IsTarget job z
  pub named : IsNamed (new_tables s) z → use_now ≡ Held
  pub target : IsTarget job z → use_now ≡ Held

-- a data zone that is named
pub used_held : (s : Sets) (job : Option Work) (z : ℕ) → first_data_zone s.geometry s.head.layout ≤ z
    → IsNamed (new_tables s) z → IsUsedAs s job z Held
used_held s job z above named = record {
  meta = λ low. (
    (λ is. absurd (let f : ⊥ = cc in f)),
    (λ below. absurd (let f : ⊥ = omega (arith, above, below) in f)),
  );
  free = λ is. absurd (let f : ⊥ = cc in f);
  limbo = λ is. absurd (let f : ⊥ = cc in f);
  held = λ is. inl named;
  named = λ n. refl;
  target = λ t. refl;
}

-- one that is released: in limbo where the committed tables name it
pub used_released : (s : Sets) (job : Option Work) (named : List Bool) (z : ℕ)
    → FlagNamed s.geometry (old_tables s) named → first_data_zone s.geometry s.head.layout ≤ z
    → z < zone_count s.geometry → (IsNamed (new_tables s) z → ⊥) → (IsTarget job z → ⊥)
    → IsUsedAs s job z (use_after_release (get_or named z false))
used_released s job named z flags above low bare apart = by (get_or named z false) refl
  where
    by : (flag : Bool) → get_or named z false ≡ flag → IsUsedAs s job z (use_after_release flag)
    by true is = record {
      meta = λ low. (
        (λ no. absurd (let f : ⊥ = cc in f)),
        (λ below. absurd (let f : ⊥ = omega (arith, above, below) in f)),
      );
      free = λ no. absurd (let f : ⊥ = cc in f);
      limbo = λ _. ((flags.each z low).0 is, bare, apart);
      held = λ no. absurd (let f : ⊥ = cc in f);
      named = λ n. absurd (bare n);
      target = λ t. absurd (apart t);
    }
    by false is = record {
      meta = λ low. (
        (λ no. absurd (let f : ⊥ = cc in f)),
        (λ below. absurd (let f : ⊥ = omega (arith, above, below) in f)),
      );
      free = λ _. ((λ n. false≢true (sym is ∙ (flags.each z low).1 n)), bare, apart);
      limbo = λ no. absurd (let f : ⊥ = cc in f);
      held = λ no. absurd (let f : ⊥ = cc in f);
      named = λ n. absurd (bare n);
      target = λ t. absurd (apart t);
    }

module _ (s : Sets) (bytes : List ℕ) (job : Option Work) (d e : Division) (was : AreUsed s job d)
    (conv : e.conv ≡ d.conv) (order : length e.order ≡ length d.order) (count : length e.zones ≡ length d.zones)
    (zone : ℕ) (uses : (y : ℕ) → y ≢ zone → use_at e.zones y ≡ use_at d.zones y)
    (more : (y : ℕ) → y ≢ zone → IsNamed (new_tables s) y → IsNamed (new_tables (record s { new = bytes })) y)
    (less : (y : ℕ) → y ≢ zone → IsNamed (new_tables (record s { new = bytes })) y → IsNamed (new_tables s) y)
    (here : IsUsedAs (record s { new = bytes }) job zone (use_at e.zones zone)) where
  abbrev r : Sets
  r = record s { new = bytes }

  -- another zone, and so each
  used_else : (y : ℕ) → y ≢ zone → IsUsedAs (record s { new = bytes }) job y (use_at e.zones y)
  used_else y off = record {
    meta = λ low. (
      (λ is. (was.meta y low).0 (sym (uses y off) ∙ is)),
      (λ below. uses y off ∙ (was.meta y low).1 below),
    );
    free = λ is. (let bare = was.free y (sym (uses y off) ∙ is) in (bare.0, (λ n. bare.1 (less y off n)), bare.2));
    limbo = λ is. (let left = was.limbo y (sym (uses y off) ∙ is) in (left.0, (λ n. left.1 (less y off n)), left.2));
    held = λ is. elim (was.held y (sym (uses y off) ∙ is)) [ inl n ↦ inl (more y off n) | inr t ↦ inr t ];
    named = λ n. uses y off ∙ was.named y (less y off n);
    target = λ t. uses y off ∙ was.target y t;
  }

  used_each : (y : ℕ) → IsUsedAs (record s { new = bytes }) job y (use_at e.zones y)
  used_each y = elim (cases_eq y zone) [
    | inl same ↦ subst (λ (n : ℕ). IsUsedAs r job n (use_at e.zones n)) (sym same) here
    | inr off ↦ used_else y off
  ]

  pub uses_but_one : AreUsed (record s { new = bytes }) job e
  uses_but_one = record {
    count = count ∙ was.count;
    conv = conv ∙ was.conv;
    order = order ∙ was.order;
    meta = λ y. (used_each y).meta;
    free = λ y. (used_each y).free;
    limbo = λ y. (used_each y).limbo;
    held = λ y. (used_each y).held;
    named = λ y. (used_each y).named;
    target = λ y. (used_each y).target;
  }
