-- A disk that is opened, padded at the end: what it reads as, what a stop leaves, and how many calls it had.
use Rattle.std.proofs.Common.{◌≡◌, ℕ, ◌+◌, ◌-◌, ◌^◌, ◌<◌, ◌≤◌, Bool, false, List, length, Option, Some, None, IsSome, refl, sym, ap, ap₂, ◌∙◌, subst, inl, inr, arith}
use Rattle.std.proofs.lemmas.Bool.{cases_lt}
use Rattle.std.specs.Prelude.{count_by, slice_index}
use Rattle.std.specs.List.{range_with_len}
use Rattle.zd_base.specs.Geometry.{Shape, IsShape, zone_count}
use Rattle.zd_model.specs.Image.{Image, IsImage, Same}
use Rattle.zd_model.specs.Tables.{BitsFollowRules}
use Rattle.zd_model.proofs.ContentLaws.{tables_of_same}
use Rattle.zd_model.proofs.EventLaws.{SameZone-trans}
use Rattle.zd_disk.specs.Told.{WhereTold}
use Rattle.zd_disk.specs.View.{View, Holds, IsDurable, MadeOf, ReachesBy, Turns}
use Rattle.zd_disk.proofs.ToldLaws.{Some-same}
use Rattle.zd_disk.proofs.ViewLaws.{by_then, turned, turned_back, turns_with}
use Rattle.zd_sets.specs.Choice.{IsPlacedChoice, chosen_of}
use Rattle.zd_sets.specs.declared.choice.Chosen.{Chosen as Choice}
use Rattle.zd_sets.proofs.CallLaws.{passing_same}
use Rattle.zd_tables.specs.Tables.{tables_in}
use Rattle.zd_examine.specs.Examined.{IsUsable}
use Rattle.zd_examine.specs.declared.examining.Image.{Image as Volume}
use Rattle.zd_examine.proofs.PointerLaws.{flag_count, usable_rounded, whole_pointers}
use Rattle.zd_examine.specs.Opened.{HoldsBothSets, IsAlmostDurable, IsLeftOrKept, IsOpened, IsOpening, IsSameVolume, KeepsFrom, ServesContent, flags_in, open_calls, set_calls}
use Rattle.zd_examine.specs.Padded.{ArePadsAscending, AreRoundedUp, HasPartOfPads, IsPadded, PadsAscending, named_flags, needs_pad, pad_count, pads_before}
use Rattle.zd_examine.proofs.LeftLaws.{HasMade}
use Rattle.zd_examine.proofs.OpenedLaws.{same_volume, tables_of_set, was_well_formed}
use Rattle.zd_examine.proofs.PaddedLaws.{content_served, need_same, opened, sequential_same, sets_held, short_of, unpadded, volume_padded}
use Rattle.zd_examine.proofs.PadLaws.{padded_parts}
use Rattle.zd_examine.proofs.PadSteps.{conventional_none, none_before, none_needed, past_none}

Some-get : {X : Type 0} (o : Option X) → IsSome o → (x : X) × (o ≡ Some x)
Some-get None h = absurd (let f : ⊥ = cc in f)
Some-get (Some x) h = (x, refl)

module _ {g : Shape} {c : Choice} {bytes reported : List ℕ} {named : List Bool} {u v w : View}
    (made : Turns (HasMade g c bytes reported) u v)
    (way : ReachesBy (λ i _. HasPartOfPads named i) v w) where
  -- what was made of what the disk first read as
  made_of : (old j : Image) → u.zones ≡ Some old → v.zones ≡ Some j → HasMade g c bytes reported old j
  made_of old j e m =
      let there = turned made old e in
      subst (HasMade g c bytes reported old) (Some-same there.0 j (sym there.1 ∙ m)) there.2

  same_then : (old j : Image) → HasMade g c bytes reported old j → (i : Image) → IsImage i
      → HasPartOfPads named j i → IsSameVolume old i
  same_then old j h i after parts =
      volume_padded j i h.third after parts old
      (subst IsShape (sym (h.equal.only.geometry ∙ h.same.geometry)) h.shape)
      (same_volume g c bytes reported old h.middle j h.first h.second h.third h.shape h.same h.examined h.keeps)

  pub pads_way : ReachesBy IsLeftOrKept u v → ReachesBy IsLeftOrKept u w
  pads_way before = by_then (λ i a b k. k)
      (λ i j a b d e m after here k parts. inr (same_then i j (made_of i j e m) d after parts)) before way

  -- what may be left from the first pad on
  left_parts : w.calls < 2 ^ 64 - 1 → (old j : Image) → u.zones ≡ Some old → v.zones ≡ Some j
      → (k : ℕ) (i : Image) → v.calls ≤ k → k ≤ w.calls
      → w.left k i → HasPartOfPads named j i
  left_parts low old j e m k i above below can = ((way.left low j m).each k i above below can).2

  pub pads_keep : {from : ℕ} → KeepsFrom from u v → KeepsFrom from u w
  pads_keep {from} before = record {
    left = λ low old e k i above below can. (
        let there = turned made old e in
        let later = way.order in
        elim (cases_lt k v.calls) [
          | inl early ↦ before.left (omega (arith, low, later)) old e k i above (omega (arith, early))
              ((way.left low there.0 there.1).earlier k i early can)
          | inr late ↦ inr (same_then old there.0 there.2 i (w.leaves k i below can).0
              (left_parts low old there.0 e there.1 k i late below can))
        ]);
  }

  module _ (placed : IsPlacedChoice g c) where
    pub pads_leave : BitsFollowRules g (slice_index reported) (tables_in g c.head.layout bytes)
        → w.calls < 2 ^ 64 - 1
        → WhereTold u.zones (λ old. (i : Image) → w.left w.calls i → ServesContent g c bytes old i)
    pads_leave bits low old e i can =
        let there = turned made old e in
        let h = there.2 in
        let later = way.order in
        content_served old h.middle there.0 h.first h.second h.third h.shape h.same h.examined placed h.equal i
        (w.leaves w.calls i (omega arith) can).0
        (left_parts low old there.0 e there.1 w.calls i later (omega arith) can) bits

    -- the zones that need a pad are the same ones
    before_same : (old j : Image) → HasMade g c bytes reported old j → (z : ℕ)
        → pads_before named j z ≡ pads_before named old z
    before_same old j h z =
        let whole : z ≡ z - 0 = omega arith in
        ap (λ (n : ℕ). count_by (needs_pad named j) (range_with_len 0 n)) whole
        ∙ passing_same (needs_pad named j) (needs_pad named old) 0 z (λ n above below.
        need_same old h.middle j h.first h.second h.third h.shape h.same h.examined placed h.equal named n)
        ∙ ap (λ (n : ℕ). count_by (needs_pad named old) (range_with_len 0 n)) (sym whole)

    pub pads_ascend : PadsAscending named v w → v.calls ≤ w.calls → MadeOf (set_calls c) u v
        → w.calls < 2 ^ 64 - 1 → WhereTold u.zones (λ old. ArePadsAscending named old (u.calls + set_calls c old) w)
    pads_ascend ascending later counted low old e k z i from below can under =
        let there = turned made old e in
        let h = there.2 in
        let number = counted.number_is (omega (arith, low, later)) old e in
        let number_there = before_same old there.0 h z in
        elim (cases_lt z old.geometry.conv) [
          | inl conv ↦ (let none =
              none_before named old z (λ y less. conventional_none named old y (omega (arith, less, conv))) in
              absurd (omega (arith, none, from, under)))
          | inr seq ↦ SameZone-trans old there.0 i z
              (sequential_same old h.middle there.0 h.first h.second h.third h.shape h.same h.examined placed
              h.equal z seq)
              (ascending.left low there.0 there.1 k z i (omega (arith, number, from)) below can
              (omega (arith, number, number_there, under)))
        ]

    -- the flags are those of the image's own tables
    flags_of : named ≡ named_flags g (tables_in g c.head.layout bytes)
        → (old j : Image) → HasMade g c bytes reported old j → named ≡ flags_in old (chosen_of c)
    flags_of flags old j h =
        let tables = tables_of_set g c bytes reported h.middle h.examined
        ∙ tables_of_same old h.middle (chosen_of c) h.first h.shape h.same
        (was_well_formed g c bytes reported old h.middle j h.first h.second h.third h.shape h.same
        h.examined).is_chosen
        (was_well_formed g c bytes reported old h.middle j h.first h.second h.third h.shape h.same
        h.examined).layout in
        flags ∙ ap₂ named_flags (h.examined.geometry ∙ h.same.geometry) tables

    pub pads_counted : named ≡ named_flags g (tables_in g c.head.layout bytes) → MadeOf (set_calls c) u v
        → v.calls ≤ w.calls → MadeOf (pad_count named) v w
        → MadeOf (open_calls c) u w
    pads_counted flags before later pads = record {
      number_is = λ low old e. (
          let there = turned made old e in
          let h = there.2 in
          let one = before.number_is (omega (arith, low, later)) old e in
          let two = pads.number_is low there.0 there.1 in
          let count = before_same old there.0 h (zone_count there.0.geometry) in
          let size = ap (λ (s : Shape). pads_before named old (zone_count s))
          (h.equal.only.geometry ∙ h.same.geometry) in
          let same = flags_of flags old there.0 h in
          let all = ap (λ (fs : List Bool). pad_count fs old) same in
          omega (arith, one, two, count, size, all));
    }

    -- with all pads
    module _ (padded : Turns (IsPadded named (zone_count g)) v w) (size : length named ≡ zone_count g) where
      pub pads_opened : (rounded : List ℕ) → AreRoundedUp g named (zone_count g) reported rounded
          → Turns (IsOpened g c bytes rounded named) u w
      pads_opened rounded up = turns_with (λ old j new e m after h k.
          opened old h.middle j h.first h.second h.third h.shape h.same h.examined placed h.equal new after
          rounded up k size) made padded

      pub pads_hold : Holds (HoldsBothSets g c bytes) w
      pads_hold = record {
        now = λ i e. (
            let pads = turned_back padded i e in
            let before = turned_back made pads.0 pads.1 in
            let h = before.2 in
            sets_held before.0 h.middle pads.0 h.first h.second h.third h.shape h.same h.examined placed h.equal
            i (w.shaped i e) (padded_parts pads.2));
        left = λ low i can. (
            let now = Some-get w.zones (w.leaves w.calls i (omega arith) can).2 in
            let pads = turned_back padded now.0 now.1 in
            let before = turned_back made pads.0 pads.1 in
            let h = before.2 in
            sets_held before.0 h.middle pads.0 h.first h.second h.third h.shape h.same h.examined placed h.equal
            i (w.leaves w.calls i (omega arith) can).0
            (left_parts low before.0 pads.0 before.1 pads.1 w.calls i way.order (omega arith) can));
      }

      pub pads_almost : IsAlmostDurable w
      pads_almost = record {
        left = λ low now e i can. (
            let pads = turned_back padded now e in
            let before = turned_back made pads.0 pads.1 in
            short_of pads.0 now i pads.2
            (left_parts low before.0 pads.0 before.1 pads.1 w.calls i way.order (omega arith) can)
            (omega (arith, size)));
      }

      -- where none needs one, what may be left is what the disk reads as
      pub pads_durable : named ≡ named_flags g (tables_in g c.head.layout bytes)
          → WhereTold u.zones (λ old. pad_count (flags_in old (chosen_of c)) old ≡ 0 → IsDurable w)
      pads_durable flags old e zero = record {
        left = λ low now at i can. (
            let there = turned made old e in
            let h = there.2 in
            let all = turned padded there.0 there.1 in
            let none = before_same old there.0 h (zone_count g)
            ∙ ap (λ (s : Shape). pads_before named old (zone_count s)) (h.examined.geometry ∙ h.same.geometry)
            ∙ ap (λ (fs : List Bool). pad_count fs old) (flags_of flags old there.0 h)
            ∙ zero in
            let parts = left_parts low old there.0 e there.1 w.calls i way.order (omega arith) can in
            subst (λ (n : Image). Same n i) (Some-same all.0 now (sym all.1 ∙ at))
            (unpadded there.0 all.0 i all.2 parts (no_pad there.0 none)));
      }
        where
          no_pad : (j : Image) → pads_before named j (zone_count g) ≡ 0 → (z : ℕ) → needs_pad named j z ≡ false
          no_pad j none z = elim (cases_lt z (zone_count g)) [
            | inl low ↦ none_needed named j (zone_count g) z none low
            | inr past ↦ past_none named j z (omega (arith, past, size))
          ]

-- the calls that pad a disk, and the pointers then
pub record HasPads (g : Shape) (named : List Bool) (reported rounded : List ℕ) (v w : View) : Type 0 where
  pub padded : Turns (IsPadded named (zone_count g)) v w
  pub rounded_up : AreRoundedUp g named (zone_count g) reported rounded
  pub way : ReachesBy (λ i _. HasPartOfPads named i) v w
  pub ascending : PadsAscending named v w
  pub counted : MadeOf (pad_count named) v w

pub opening_is : {x : Volume} {reported : List ℕ} {u v w : View} → v.told ≡ Some x.geometry
    → IsUsable x.geometry x.chosen x.blocks reported x.named.items
    → Turns (HasMade x.geometry x.chosen x.blocks reported) u v
    → MadeOf (set_calls x.chosen) u v → HasPads x.geometry x.named.items reported x.pointers.items v w
    → IsOpening x u w
opening_is {x} {reported} {u} {v} {w} told usable made sets h =
    let size = flag_count usable in
    record {
      told = h.way.stays.told x.geometry told;
      usable = usable_rounded size h.rounded_up usable;
      whole = whole_pointers size h.rounded_up;
      opened = pads_opened made h.way usable.placed h.padded size x.pointers.items h.rounded_up;
      sets = pads_hold made h.way usable.placed h.padded size;
      leaves = pads_leave made h.way usable.placed usable.bits;
      almost_durable = pads_almost made h.way usable.placed h.padded size;
      durable = pads_durable made h.way usable.placed h.padded size usable.flags;
      ascending = pads_ascend made h.way usable.placed h.ascending h.way.order sets;
      counted = pads_counted made h.way usable.placed usable.flags sets h.way.order h.counted;
    }
