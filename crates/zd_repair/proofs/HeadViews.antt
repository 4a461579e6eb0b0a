-- Both super blocks of a volume, written one after the other.
use Rattle.std.proofs.Common.{◌≡◌, ◌⊎◌, Option, Some, None, IsSome, is_some, true, Result, Ok, Err, IsErr, OnOk, ℕ, ◌+◌, ◌-◌, ◌/◌, ◌^◌, ◌<◌, ◌≤◌, min, List, inl, inr, refl, sym, ap, ◌∙◌, subst, arith}
use Rattle.std.proofs.lemmas.Bool.{cases_lt}
use Rattle.std.proofs.Math.Nat.{zero-div}
use Rattle.zd_base.specs.Geometry.{Shape}
use Rattle.zd_base.specs.Layout.{Fits, set_zones}
use Rattle.zd_disk.specs.Told.{WhereTold}
use Rattle.zd_disk.specs.View.{View, Holds, IsDurable, Made, Reaches, Turns}
use Rattle.zd_disk.proofs.ViewLaws.{holds_as, holds_durable, read_as, reaches_as, reaches_then, turned, turned_back}
use Rattle.zd_examine.specs.Opened.{HoldsBothSets}
use Rattle.zd_model.specs.Image.{Image, IsImage, Same, block_at}
use Rattle.zd_model.specs.Volume.{good_super}
use Rattle.zd_model.specs.declared.metadata.Super.{Super}
use Rattle.zd_sets.specs.Equal.{HasSuper, InSet, head_at}
use Rattle.zd_sets.specs.declared.choice.Chosen.{Chosen}
use Rattle.zd_sets.proofs.EqualLaws.{in_zones, only_more, only_then, same_good}
use Rattle.zd_repair.specs.Heads.{AreHeadsAfter, AtFronts, HasGoodSuper, HasPartOfHead, HasPartOfHeads, HoldsEither, HoldsHeads, LeavesHeads, MadeUpTo, MovesHeads, calls_done}
use Rattle.zd_repair.proofs.HeadLaws.{either_head, new_head, other_head, own_head, same_head}

Some-get : {X : Type 0} (o : Option X) → IsSome o → (x : X) × (o ≡ Some x)
Some-get None h = absurd (let f : ⊥ = cc in f)
Some-get (Some x) h = (x, refl)

-- what became, in a way, of images of which this held
pub holds_reached : {A P : Image → Type 0} {R : Image → Image → Type 0} {u v : View} {g : Shape} → u.told ≡ Some g
    → Holds A u → ((a b : Image) → a.geometry ≡ g → IsImage a → IsImage b → A a → R a b → P b)
    → Reaches R u v → Holds P v
holds_reached {A} {P} {R} {u} {v} {g} told start f way = record {
  now = λ i e. (
      let from = turned_back way.reads i e in
      let is = read_as {v = u} told from.0 from.1 in
      f from.0 i is.geometry is.image (v.shaped i e) (start.now from.0 from.1) from.2);
  left = λ low i can. (
      let now = Some-get v.zones (v.leaves v.calls i (omega arith) can).2 in
      let from = turned_back way.reads now.0 now.1 in
      let order = way.order in
      let under : u.calls < 2 ^ 64 - 1 = omega (arith, low, order) in
      let one = (way.left low from.0 from.1).each v.calls i order (omega arith) can in
      let was = u.leaves u.calls one.0 (omega arith) one.1 in
      let shape : one.0.geometry ≡ g = (let e : Some one.0.geometry ≡ Some g = sym was.1 ∙ told in cc) in
      f one.0 i shape was.0 (v.leaves v.calls i (omega arith) can).0 (start.left under one.0 one.1) one.2);
}

-- both sets have the chosen head
pub both_heads : {g : Shape} {c : Chosen} {bytes : List ℕ} {u : View} → Holds (HoldsBothSets g c bytes) u
    → Holds (HoldsHeads g c.head.layout c.head c.head bytes) u
both_heads h = holds_as (λ i both. record { first_set = both.first; second_set = both.second }) h

good_of : (i : Image) (zone : ℕ) (s : Super) → good_super i zone ≡ Some s → is_some (good_super i zone) ≡ true
good_of i zone s e = ap (λ (o : Option Super). is_some o) e

module _ (g : Shape) (old new : Super) (bytes : List ℕ) (some : 0 < g.zone_blocks) (fits : Fits g old.layout) where
  abbrev n : ℕ
  n = set_zones g old.layout

  second_zone : 0 < n
  second_zone = (let one = in_zones g old.layout fits some 0 (omega arith) in omega (arith, one))

  -- set 1 has its new head, or a part of it was written
  pub second_put : (a b : Image) → a.geometry ≡ g → HoldsHeads g old.layout old old bytes a → HasSuper g n new a b
      → HoldsHeads g old.layout old new bytes b
  second_put a b shape h put = record {
    first_set = other_head g old.layout fits some 0 (omega arith) a b shape n (inr (omega arith)) put.only old bytes h.first_set;
    second_set = new_head g old.layout fits some n (omega arith) a b shape old new bytes put h.second_set;
  }

  pub second_part : (a b : Image) (j : ℕ) → j < 2 → a.geometry ≡ g → HoldsHeads g old.layout old old bytes a
      → HasPartOfHead g n new a b → AreHeadsAfter j g old new bytes b
  second_part a b j early shape h part = record {
    first_set = inl (other_head g old.layout fits some 0 (omega arith) a b shape n (inr (omega arith)) part.only old bytes h.first_set);
    second_set = elim (own_head g old.layout fits some n (omega arith) a b shape old new bytes part h.second_set) [
      | inl before ↦ inl (early, before)
      | inr put ↦ inr put
    ];
    ended = λ late. absurd (omega (arith, early, late));
  }

  -- and then set 0
  pub first_put : (a b : Image) → a.geometry ≡ g → HoldsHeads g old.layout old new bytes a → HasSuper g 0 new a b
      → HoldsHeads g old.layout new new bytes b
  first_put a b shape h put = record {
    first_set = new_head g old.layout fits some 0 (omega arith) a b shape old new bytes put h.first_set;
    second_set = other_head g old.layout fits some n (omega arith) a b shape 0 (inl second_zone) put.only new bytes h.second_set;
  }

  pub first_part : (a b : Image) (j : ℕ) → 2 ≤ j → (4 ≤ j → ⊥) → a.geometry ≡ g → HoldsHeads g old.layout old new bytes a
      → HasPartOfHead g 0 new a b → AreHeadsAfter j g old new bytes b
  first_part a b j late last shape h part = record {
    first_set = elim (own_head g old.layout fits some 0 (omega arith) a b shape old new bytes part h.first_set) [
      | inl before ↦ inl before
      | inr put ↦ inr (late, put)
    ];
    second_set = inr (other_head g old.layout fits some n (omega arith) a b shape 0 (inl second_zone) part.only new bytes h.second_set);
    ended = λ end. absurd (last end);
  }

  pub all_put : (b : Image) (j : ℕ) → 2 ≤ j → HoldsHeads g old.layout new new bytes b → AreHeadsAfter j g old new bytes b
  all_put b j late h = record {
    first_set = inr (late, h.first_set);
    second_set = inr h.second_set;
    ended = λ end. h.first_set;
  }

  same_heads : (first second : Super) (a b : Image) → a.geometry ≡ g → IsImage a → Same a b
      → HoldsHeads g old.layout first second bytes a → HoldsHeads g old.layout first second bytes b
  same_heads first second a b shape image same h = record {
    first_set = same_head g old.layout fits some 0 (omega arith) a b shape image same first bytes h.first_set;
    second_set = same_head g old.layout fits some n (omega arith) a b shape image same second bytes h.second_set;
  }

  -- a part of the one, and then of the other
  front_apart : InSet g n 0 1 0 0 → ⊥
  front_apart at =
      let here : at.0 ≡ 0 = omega (arith, at.2) in
      let least = second_zone in
      absurd (omega (arith, at.3, least))

  second_apart : InSet g 0 0 1 n 0 → ⊥
  second_apart at =
      let here : at.0 ≡ 0 = omega (arith, at.2) in
      let same = ap (λ (k : ℕ). k / g.zone_blocks) here in
      let none = zero-div g.zone_blocks in
      let least = second_zone in
      absurd (omega (arith, at.3, same, none, least))

  second_of : (a b : Image) → a.geometry ≡ g → HasPartOfHead g n new a b → HasPartOfHeads g old.layout new a b
  second_of a b shape part =
      let conv = ap (λ (s : Shape). s.conv) shape in
      let blocks = ap (λ (s : Shape). s.zone_blocks) shape in
      let room = fits.conventional_data in
      record {
        only = only_more (InSet g n 0 1) (AtFronts g old.layout) a b (λ z x at. inl at) part.only;
        first_super = inl (part.only.elsewhere 0 0 (omega (arith, room, conv)) (omega (arith, some, blocks)) front_apart);
        second_super = part.super;
      }

  first_of : (a b : Image) → a.geometry ≡ g → HasPartOfHead g 0 new a b → HasPartOfHeads g old.layout new a b
  first_of a b shape part =
      let conv = ap (λ (s : Shape). s.conv) shape in
      let blocks = ap (λ (s : Shape). s.zone_blocks) shape in
      let room = fits.conventional_data in
      record {
        only = only_more (InSet g 0 0 1) (AtFronts g old.layout) a b (λ z x at. inr at) part.only;
        first_super = part.super;
        second_super = inl (part.only.elsewhere n 0 (omega (arith, room, conv)) (omega (arith, some, blocks)) second_apart);
      }

  heads_then : (a b c : Image) → HasPartOfHeads g old.layout new a b → HasPartOfHeads g old.layout new b c
      → HasPartOfHeads g old.layout new a c
  heads_then a b c h k = record {
    only = only_then (AtFronts g old.layout) a b c h.only k.only;
    first_super = put_then 0 h.first_super k.first_super;
    second_super = put_then n h.second_super k.second_super;
  }
    where
      put_then : (zone : ℕ) → (block_at b zone 0 ≡ block_at a zone 0) ⊎ (good_super b zone ≡ Some (head_at g zone new))
          → (block_at c zone 0 ≡ block_at b zone 0) ⊎ (good_super c zone ≡ Some (head_at g zone new))
          → (block_at c zone 0 ≡ block_at a zone 0) ⊎ (good_super c zone ≡ Some (head_at g zone new))
      put_then zone one (inr put) = inr put
      put_then zone (inl before) (inl same) = inl (same ∙ before)
      put_then zone (inr put) (inl same) = inr (same_good b c zone k.only.geometry same ∙ put)

  -- each set has the old head or the new one
  pub heads_either : (a b : Image) → a.geometry ≡ g → HoldsHeads g old.layout old old bytes a → HasPartOfHeads g old.layout new a b
      → HoldsEither g old new bytes b
  heads_either a b shape h part = record {
    first_set = either_head g old.layout fits some 0 (omega arith) a b shape n (inr (omega arith))
        (only_more (AtFronts g old.layout) (λ z x. InSet g 0 0 1 z x ⊎ InSet g n 0 1 z x) a b
        (λ z x at. elim at [ inl two ↦ inr two | inr one ↦ inl one ]) part.only) old new bytes part.first_super h.first_set;
    second_set = either_head g old.layout fits some n (omega arith) a b shape 0 (inl second_zone) part.only old new bytes part.second_super h.second_set;
  }

  -- the calls, from a disk whose sets have the old head
  module _ {u m : View} (told : u.told ≡ Some g) (start : Holds (HoldsHeads g old.layout old old bytes) u)
      (one : Reaches (HasPartOfHead g n new) u m) where
    pub second_good : Holds (HasGoodSuper n) u
    second_good = record {
      now = λ i e. good_of i n (head_at g n old) (start.now i e).second_set.super;
      left = λ low i can. good_of i n (head_at g n old) (start.left low i can).second_set.super;
    }

    pub first_good : Holds (HasGoodSuper 0) m
    first_good = holds_reached told start (λ a b shape image after h part. good_of b 0 (head_at g 0 old)
        (other_head g old.layout fits some 0 (omega arith) a b shape n (inr (omega arith)) part.only old bytes h.first_set).super) one

    pub second_way : Reaches (HasPartOfHeads g old.layout new) u m
    second_way = reaches_as told (λ a b shape image after part. second_of a b shape part) one

    -- at each moment of the first two
    early_heads : (done : ℕ) → done ≤ u.calls + 1 → m.calls < 2 ^ 64 - 1 → WhereTold u.zones (λ _. LeavesHeads u.calls done g old new bytes m)
    early_heads done few low r e k i above below can =
        let order = one.order in
        let here = (one.left low r e).each k i above below can in
        let was = u.leaves u.calls here.0 (omega arith) here.1 in
        let shape : here.0.geometry ≡ g = (let f : Some here.0.geometry ≡ Some g = sym was.1 ∙ told in cc) in
        second_part here.0 i (min k done - u.calls) (omega (arith, few)) shape
        (start.left (omega (arith, low, order)) here.0 here.1) here.2

    pub moves_second : {T E : Type 0} (r : Result T E) → IsErr r → MadeUpTo 2 u m
        → MovesHeads g old new bytes (calls_done r m.calls) u m
    moves_second (Ok x) err made = absurd (let f : ⊥ = cc in f)
    moves_second (Err e) err made = record {
      left = λ low. early_heads (m.calls - 1) (let few = made.few low in omega (arith, few)) low;
    }

    -- set 1 has its new head on the disk
    module _ (put : Turns (HasSuper g n new) u m) (two_calls : Made 2 u m) (durable : IsDurable m) where
      between : Holds (HoldsHeads g old.layout old new bytes) m
      between = holds_durable (one.stays.told g told) durable
          (λ a b shape image same h. same_heads old new a b shape image same h)
          (λ i e. let from = turned_back put i e in
          second_put from.0 i (read_as {v = u} told from.0 from.1).geometry (start.now from.0 from.1) from.2)

      module _ {v : View} (two : Reaches (HasPartOfHead g 0 new) m v) where
        pub both_way : Reaches (HasPartOfHeads g old.layout new) u v
        both_way = reaches_then (λ a b h. h) heads_then second_way
            (reaches_as (one.stays.told g told) (λ a b shape image after part. first_of a b shape part) two)

        -- at each moment, where the last call did nothing more
        late_heads : (done : ℕ) → u.calls + 2 ≤ done → done ≤ u.calls + 3 → v.calls < 2 ^ 64 - 1
            → WhereTold u.zones (λ _. LeavesHeads u.calls done g old new bytes v)
        late_heads done least most low r e k i above below can =
            let order = two.order in
            let number = two_calls.number_is (omega (arith, low, order)) in
            let there = turned one.reads r e in
            let leaves = two.left low there.0 there.1 in
            elim (cases_lt k m.calls) [
              | inl early ↦
                  let before = early_heads (u.calls + 1) (omega arith) (omega (arith, low, order)) r e k i above (omega (arith, early)) (leaves.earlier k i early can) in
                  let same : min k (u.calls + 1) - u.calls ≡ min k done - u.calls = omega (arith, early, number, least, above) in
                  subst (λ (j : ℕ). AreHeadsAfter j g old new bytes i) same before
              | inr late ↦
                  let here = leaves.each k i late below can in
                  let was = m.leaves m.calls here.0 (omega arith) here.1 in
                  let shape : here.0.geometry ≡ g = (let f : Some here.0.geometry ≡ Some g = sym was.1 ∙ one.stays.told g told in cc) in
                  first_part here.0 i (min k done - u.calls) (omega (arith, least, late, number)) (λ end. omega (arith, end, most)) shape
                  (between.left (omega (arith, low, order)) here.0 here.1) here.2
            ]

        module _ (done_put : Turns (HasSuper g 0 new) m v) (last : IsDurable v) where
          pub both_put : Holds (HoldsHeads g old.layout new new bytes) v
          both_put = holds_durable (two.stays.told g (one.stays.told g told)) last
              (λ a b shape image same h. same_heads new new a b shape image same h)
              (λ i e. let from = turned_back done_put i e in
              first_put from.0 i (read_as {v = m} (one.stays.told g told) from.0 from.1).geometry
              (between.now from.0 from.1) from.2)

          -- at the last moment both have it
          all_heads : Made 2 m v → v.calls < 2 ^ 64 - 1 → WhereTold u.zones (λ _. LeavesHeads u.calls v.calls g old new bytes v)
          all_heads made low r e k i above below can =
              let first = two_calls.number_is (let order = two.order in omega (arith, low, order)) in
              let number = made.number_is low in
              elim (cases_lt k v.calls) [
                | inl early ↦
                    let before = late_heads (u.calls + 3) (omega arith) (omega arith) low r e k i above below can in
                    let same : min k (u.calls + 3) - u.calls ≡ min k v.calls - u.calls = omega (arith, early, first, number) in
                    subst (λ (j : ℕ). AreHeadsAfter j g old new bytes i) same before
                | inr late ↦
                    let here : k ≡ v.calls = omega (arith, late, below) in
                    all_put i (min k v.calls - u.calls) (omega (arith, late, first, number))
                    (both_put.left low i (subst (λ (n : ℕ). v.left n i) here can))
              ]

        pub moves_both : {T E : Type 0} (r : Result T E) → OnOk r (Turns (HasSuper g 0 new) m v) → OnOk r (IsDurable v)
            → OnOk r (Made 2 m v) → MadeUpTo 2 m v → MovesHeads g old new bytes (calls_done r v.calls) u v
        moves_both (Ok x) done_put last made some_made = record { left = λ low. all_heads done_put last made low }
        moves_both (Err e) done_put last made some_made = record {
          left = λ low. late_heads (v.calls - 1)
              (let order = two.order in let number = two_calls.number_is (omega (arith, low, order)) in let least = some_made.some low in omega (arith, number, least))
              (let order = two.order in let number = two_calls.number_is (omega (arith, low, order)) in let most = some_made.few low in omega (arith, number, most)) low;
        }

        pub put_where_ok : {T E : Type 0} (r : Result T E) → OnOk r (Turns (HasSuper g 0 new) m v) → OnOk r (IsDurable v)
            → OnOk r (Holds (HoldsHeads g old.layout new new bytes) v)
        put_where_ok (Ok x) done_put last = both_put done_put last
        put_where_ok (Err e) done_put last = tt
