-- THE ZONES ARE USED RIGHT where a job begins: a zone that a Move has taken is held, and any other target is named.
use Rattle.std.proofs.Common.{◌≡◌, ◌≢◌, ℕ, ◌≤◌, List, length, get_or-set_other, get_or-set_same, length-set, Some}
use Rattle.std.proofs.Common.{None, inl, inr, refl, sym, ap, ◌∙◌, subst, arith}
use Rattle.std.proofs.lemmas.Bool.{cases_eq}
use Rattle.zd_base.specs.Layout.{first_data_zone}
use Rattle.zd_base.specs.declared.geometry.Kind.TheVariants.{Sequential}
use Rattle.zd_alloc.specs.Zones.{Division, TakesLeast, use_at}
use Rattle.zd_alloc.specs.declared.uses.ZoneUse.{ZoneUse}
use Rattle.zd_alloc.specs.declared.uses.ZoneUse.TheVariants.{Held, Meta}
use Rattle.zd_model.proofs.FaultLaws.{some_is}
use Rattle.zd_volume.specs.Jobs.{IsNamed}
use Rattle.zd_volume.specs.Sets.{Sets, new_tables}
use Rattle.zd_volume.specs.Uses.{AreUsed}
use Rattle.zd_volume.specs.declared.work.Work.{Work}
use Rattle.zd_routes.proofs.ChunkUses.{IsUsedAs}
use Rattle.zd_routes.proofs.GoalLaws.{free_spare}

module _ (s : Sets) (w : Work) (d : Division) (was : AreUsed s None d) where
  -- the job copies to a zone that is named, or to none
  pub uses_named : ((z : ℕ) → w.target ≡ Some z → IsNamed (new_tables s) z) → AreUsed s (Some w) d
  uses_named named = record {
    count = was.count;
    conv = was.conv;
    order = was.order;
    meta = was.meta;
    free = λ z is. (let bare = was.free z is in (bare.0, bare.1, λ target. bare.1 (named z target)));
    limbo = λ z is. (let left = was.limbo z is in (left.0, left.1, λ target. left.1 (named z target)));
    held = λ z is. elim (was.held z is) [ inl n ↦ inl n | inr none ↦ absurd none ];
    named = was.named;
    target = λ z target. was.named z (named z target);
  }

  -- it copies to a free zone that it takes
  module _ (e : Division) (zone : ℕ) (takes : TakesLeast Sequential d e zone) (target : w.target ≡ Some zone) where
    above : first_data_zone s.geometry s.head.layout ≤ zone
    above = (free_spare s None d was zone takes.least.inside takes.least.free).data_zone.0

    taken : use_at e.zones zone ≡ Held
    taken =
        ap (λ (uses : List ZoneUse). use_at uses zone) takes.zones
        ∙ get_or-set_same d.zones zone Held Meta takes.least.inside

    use_here : IsUsedAs s (Some w) zone (use_at e.zones zone)
    use_here = subst (IsUsedAs s (Some w) zone) (sym taken) (record {
      meta = λ low. (
        (λ is. absurd (let f : ⊥ = cc in f)),
        (λ below. absurd (let high = above in let f : ⊥ = omega (arith, high, below) in f)),
      );
      free = λ is. absurd (let f : ⊥ = cc in f);
      limbo = λ is. absurd (let f : ⊥ = cc in f);
      held = λ is. inr target;
      named = λ n. refl;
      target = λ t. refl;
    })

    use_there : (y : ℕ) → y ≢ zone → IsUsedAs s (Some w) y (use_at e.zones y)
    use_there y off = record {
      meta = λ low. (
        (λ is. (was.meta y low).0 (sym at ∙ is)),
        (λ below. at ∙ (was.meta y low).1 below),
      );
      free = λ is. (let bare = was.free y (sym at ∙ is) in (bare.0, bare.1, other));
      limbo = λ is. (let left = was.limbo y (sym at ∙ is) in (left.0, left.1, other));
      held = λ is. elim (was.held y (sym at ∙ is)) [ inl n ↦ inl n | inr none ↦ absurd none ];
      named = λ n. at ∙ was.named y n;
      target = λ t. absurd (other t);
    }
      where
        at : use_at e.zones y ≡ use_at d.zones y
        at =
            ap (λ (uses : List ZoneUse). use_at uses y) takes.zones
            ∙ get_or-set_other d.zones zone y Held Meta off

        other : w.target ≡ Some y → ⊥
        other is = off (some_is y zone (sym is ∙ target))

    use_each : (y : ℕ) → IsUsedAs s (Some w) y (use_at e.zones y)
    use_each y = elim (cases_eq y zone) [
      | inl same ↦ subst (λ (n : ℕ). IsUsedAs s (Some w) n (use_at e.zones n)) (sym same) use_here
      | inr off ↦ use_there y off
    ]

    pub uses_taken : AreUsed s (Some w) e
    uses_taken = record {
      count = ap (λ (uses : List ZoneUse). length uses) takes.zones ∙ length-set d.zones zone Held ∙ was.count;
      conv = takes.conv ∙ was.conv;
      order = ap (λ (order : List ℕ). length order) takes.order ∙ was.order;
      meta = λ y. (use_each y).meta;
      free = λ y. (use_each y).free;
      limbo = λ y. (use_each y).limbo;
      held = λ y. (use_each y).held;
      named = λ y. (use_each y).named;
      target = λ y. (use_each y).target;
    }
