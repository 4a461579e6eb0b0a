-- A volume that is opened, and whose heads are changed then.
use Rattle.std.proofs.Common.{◌≡◌, Some, ℕ, ◌+◌, ◌-◌, ◌^◌, ◌<◌, ◌≤◌, min, inl, inr, sym, ap, ◌∙◌, subst, arith}
use Rattle.std.proofs.lemmas.Bool.{cases_lt, false≢true}
use Rattle.zd_base.specs.Geometry.{Shape, zone_count}
use Rattle.zd_disk.specs.OfGeometry.{IsImageOf}
use Rattle.zd_disk.specs.View.{View, Holds, IsDurable, Keeps, Made, Reaches, ReachesBy, Turns}
use Rattle.zd_disk.proofs.SameSteps.{Same-trans}
use Rattle.zd_disk.proofs.ToldLaws.{Both-by}
use Rattle.zd_disk.proofs.ViewLaws.{by_as, kept_by, stays_then, turned, turns_with}
use Rattle.zd_examine.specs.Examined.{IsUsable}
use Rattle.zd_examine.specs.Opened.{HoldsBothSets, IsLeftOrKept, IsOpened, IsOpening, IsSameVolume, KeepsFrom, ServesContent, open_calls}
use Rattle.zd_examine.specs.Padded.{HasPad}
use Rattle.zd_examine.specs.declared.examining.Image.{Image as Volume}
use Rattle.zd_examine.proofs.PadSteps.{conventional_none}
use Rattle.zd_model.specs.Image.{Image, IsImage, SameZone}
use Rattle.zd_model.specs.Volume.{IsWellFormed}
use Rattle.zd_model.specs.declared.metadata.Super.{Super}
use Rattle.zd_model.proofs.EventLaws.{SameZone-trans}
use Rattle.zd_sets.specs.Choice.{chosen_of}
use Rattle.zd_sets.specs.Equal.{OnlyAt}
use Rattle.zd_sets.specs.declared.choice.Chosen.{Chosen as Choice}
use Rattle.zd_repair.specs.Heads.{AreHeadsAfter, AtFronts, HasPartOfHeads, HoldsHeads, IsNextHead, MovesHeads}
use Rattle.zd_repair.specs.Reheaded.{ChangesHeads, HasChangedHeads, IsKeptBut, IsLeftOrBut, IsVolumeBut, KeepsFromBut, ServesWith, ServesWithEither}
use Rattle.zd_repair.proofs.FrontLaws.{serves_still}
use Rattle.zd_repair.proofs.HeadVolumes.{with_either, with_new}
use Rattle.zd_repair.proofs.HeadViews.{heads_either}

-- a pad stays where its zone does
pad_still : (old d b : Image) (z : ℕ) → SameZone d b z → HasPad old d z → HasPad old b z
pad_still old d b z same pad = record {
  held = same.held ∙ pad.held;
  part = record {
    least = (let held = same.held in let least = pad.part.least in omega (arith, held, least));
    most = (let held = same.held in let most = pad.part.most in omega (arith, held, most));
    before = λ i low. same.sectors i (let least = pad.part.least in omega (arith, least, low)) ∙ pad.part.before i low;
    zeros = λ i from low. (
        let under : i < d.held z = (let held = same.held in omega (arith, held, low)) in
        same.sectors i under ∙ pad.part.zeros i from under);
  };
}

module _ (v : Volume) (usable : IsUsable v.geometry v.chosen v.blocks v.pointers.items v.named.items) (some : 0 < v.geometry.zone_blocks) where
  abbrev g : Shape
  g = v.geometry

  abbrev c : Choice
  c = v.chosen

  -- what was opened serves its content
  module _ (old d : Image) (is : IsOpened v.geometry v.chosen v.blocks v.pointers.items v.named.items old d) where
    pub opened_serves : ServesContent v.geometry v.chosen v.blocks old d
    opened_serves = record {
      served = is.served;
      bits = record {
        named = usable.bits.named;
        below = λ z x far low within valid. (
            let under = usable.bits.below z x far low within valid in
            let at = is.pointers.sequential z (subst (λ (h : Shape). h.conv ≤ z) is.geometry far) (subst (λ (h : Shape). z < zone_count h) is.geometry low) in
            omega (arith, under, at));
        one_place = usable.bits.one_place;
      };
    }

    -- and is so with other super blocks
    module _ (b : Image) (first : IsImage d) (second : IsImage b) (only : OnlyAt (AtFronts v.geometry v.chosen.head.layout) d b) where
      of_d : IsImageOf v.geometry d
      of_d = record { image = first; geometry = sym is.geometry }

      of_b : IsImageOf v.geometry b
      of_b = record { image = second; geometry = only.geometry ∙ sym is.geometry }

      served_on : ServesContent v.geometry v.chosen v.blocks old b
      served_on = serves_still v.geometry v.chosen v.blocks some usable.placed.fits usable.map old d b of_d of_b only opened_serves

      pub opened_still : IsOpened v.geometry v.chosen v.blocks v.pointers.items v.named.items old b
      opened_still = record {
        geometry = is.geometry ∙ sym only.geometry;
        stays = only.geometry ∙ is.stays;
        well_formed = is.well_formed;
        served = served_on.served;
        pointers = record {
          count = is.pointers.count ∙ ap (λ (h : Shape). zone_count h) (sym only.geometry);
          conventional = λ z low. is.pointers.conventional z (subst (λ (h : Shape). z < h.conv) only.geometry low);
          sequential = λ z far low. (
              let far_d = subst (λ (h : Shape). h.conv ≤ z) only.geometry far in
              is.pointers.sequential z far_d (subst (λ (h : Shape). z < zone_count h) only.geometry low)
              ∙ sym (only.sequential z far_d).held);
        };
        pads = λ z need. elim (cases_lt z old.geometry.conv) [
          | inl conv ↦ absurd (false≢true (sym (conventional_none v.named.items old z conv) ∙ need))
          | inr seq ↦ pad_still old d b z (only.sequential z (subst (λ (h : Shape). h.conv ≤ z) (sym is.stays) seq)) (is.pads z need)
        ];
        others = λ z seq none. SameZone-trans old d b z (is.others z seq none)
            (only.sequential z (subst (λ (h : Shape). h.conv ≤ z) (sym is.stays) seq));
      }

-- a volume that opening keeps has its head
same_but : (change : Super → Super) (old new : Image) → IsSameVolume old new → IsVolumeBut change old new
same_but change old new v = (
  v.0,
  v.1,
  inl (record { set = v.2.set; well_formed = v.2.well_formed; same_head = v.2.same_head; same = v.2.same }),
)

left_but : (change : Super → Super) (reads old new : Image) → IsLeftOrKept reads old new → IsLeftOrBut change reads old new
left_but change reads old new (inl same) = inl same
left_but change reads old new (inr v) = inr (same_but change reads new v)

-- where opening alone was done
pub opened_way : (change : Super → Super) {u w : View} → ReachesBy IsLeftOrKept u w → ReachesBy (IsLeftOrBut change) u w
opened_way change h = by_as (left_but change) h

pub opened_keeps : (change : Super → Super) {from : ℕ} {u w : View} → KeepsFrom from u w → KeepsFromBut change from u w
opened_keeps change h = record {
  left = λ low old e k i above below can. left_but change old old i (h.left low old e k i above below can);
}

-- where a stop would have left what the disk read as alone
pub way_kept : (change : Super → Super) {u w : View} → ReachesBy (IsLeftOrBut change) u w → Keeps (IsKeptBut change) u w
way_kept change h = kept_by (λ i a b e same is. elim is [
  | inl here ↦ inl (Same-trans i a b same here)
  | inr volume ↦ inr volume
]) h

-- from opening's end on
module _ (v : Volume) (some : 0 < v.geometry.zone_blocks) {u m w : View} (opening : IsOpening v u m) (new : Super)
    (next : IsNextHead v.chosen.head new) (way : Reaches (HasPartOfHeads v.geometry v.chosen.head.layout new) m w) where
  pub told_now : w.told ≡ Some v.geometry
  told_now = way.stays.told v.geometry opening.told

  of_left : (x : View) → x.told ≡ Some v.geometry → (k : ℕ) (i : Image) → k ≤ x.calls → x.left k i → IsImageOf v.geometry i
  of_left x told k i low can =
      let was = x.leaves k i low can in
      record { image = was.0; geometry = (let e : Some i.geometry ≡ Some v.geometry = sym was.1 ∙ told in cc) }

  -- an image whose heads are changed, all or in part
  volume_of : (old d b : Image) → IsImageOf v.geometry d → IsImageOf v.geometry b
      → HoldsBothSets v.geometry v.chosen v.blocks d → ServesContent v.geometry v.chosen v.blocks old d
      → HasPartOfHeads v.geometry v.chosen.head.layout new d b
      → ServesWithEither v.chosen.head new (chosen_of v.chosen) old b
  volume_of old d b first second both serves part =
      with_either v.geometry v.chosen v.blocks opening.usable.placed.fits opening.usable.map old b second.geometry
      (serves_still v.geometry v.chosen v.blocks some opening.usable.placed.fits opening.usable.map old d b first second part.only serves)
      new next
      (heads_either v.geometry v.chosen.head new v.blocks some opening.usable.placed.fits d b first.geometry
      (record { first_set = both.first; second_set = both.second }) part)

  -- what the disk reads as
  read_volume : (old d b : Image) → m.zones ≡ Some d → IsImage b
      → IsOpened v.geometry v.chosen v.blocks v.pointers.items v.named.items old d
      → HasPartOfHeads v.geometry v.chosen.head.layout new d b
      → ServesWithEither v.chosen.head new (chosen_of v.chosen) old b
  read_volume old d b e after is part =
      volume_of old d b (record { image = m.shaped d e; geometry = sym is.geometry })
      (record { image = after; geometry = part.only.geometry ∙ sym is.geometry }) (opening.sets.now d e)
      (opened_serves v opening.usable some old d is) part

  -- and what a stop leaves
  pub late_volume : w.calls < 2 ^ 64 - 1 → (old : Image) → u.zones ≡ Some old → (k : ℕ) (i : Image) → m.calls ≤ k → k ≤ w.calls
      → w.left k i → ServesWithEither v.chosen.head new (chosen_of v.chosen) old i
  late_volume low old e k i above below can =
      let order = way.order in
      let under : m.calls < 2 ^ 64 - 1 = omega (arith, low, order) in
      let there = turned opening.opened old e in
      let one = (way.left low there.0 there.1).each k i above below can in
      volume_of old one.0 i (of_left m opening.told m.calls one.0 (omega arith) one.1) (of_left w told_now k i below can)
      (opening.sets.left under one.0 one.1) (opening.leaves under old e one.0 one.1) one.2

  module _ (change : Super → Super) (changed : change v.chosen.head ≡ new) where
    is_but : (old b : Image) → IsWellFormed old (chosen_of v.chosen) → ServesWithEither v.chosen.head new (chosen_of v.chosen) old b
        → IsVolumeBut change old b
    is_but old b well h = (
      chosen_of v.chosen,
      well,
      subst (λ (s : Super). ServesWithEither v.chosen.head s (chosen_of v.chosen) old b) (sym changed) h,
    )

    late_but : w.calls < 2 ^ 64 - 1 → (old : Image) → u.zones ≡ Some old → (k : ℕ) (i : Image) → m.calls ≤ k → k ≤ w.calls
        → w.left k i → IsVolumeBut change old i
    late_but low old e k i above below can =
        let there = turned opening.opened old e in
        is_but old i there.2.well_formed (late_volume low old e k i above below can)

    pub reheads_way : ReachesBy IsLeftOrKept u m → ReachesBy (IsLeftOrBut change) u w
    reheads_way before = record {
      stays = stays_then before.stays way.stays;
      order = let one = before.order in let two = way.order in omega (arith, one, two);
      reads = turns_with (λ old d b e n after is part. inr (is_but old b is.well_formed (read_volume old d b n after is part)))
          opening.opened way.reads;
      left = λ low old e. (
          let order = way.order in
          let there = turned opening.opened old e in
          let one = before.left (omega (arith, low, order)) old e in
          let two = way.left low there.0 there.1 in
          let later = before.order in
          record {
            earlier = λ k i under can. one.earlier k i under (two.earlier k i (omega (arith, under, later)) can);
            each = λ k i above below can. elim (cases_lt k m.calls) [
              | inl early ↦
                  let here = one.each k i above (omega (arith, early)) (two.earlier k i early can) in
                  (here.0, here.1, left_but change old here.0 i here.2)
              | inr late ↦
                  let here = two.each k i late below can in
                  let from = one.each m.calls here.0 later (omega arith) here.1 in
                  (from.0, from.1, inr (late_but low old e k i late below can))
            ];
          });
    }

    pub reheads_keep : {from : ℕ} → KeepsFrom from u m → KeepsFromBut change from u w
    reheads_keep {from} before = record {
      left = λ low old e k i above below can. (
          let order = way.order in
          let there = turned opening.opened old e in
          elim (cases_lt k m.calls) [
            | inl early ↦ left_but change old old i (before.left (omega (arith, low, order)) old e k i above (omega (arith, early))
                ((way.left low there.0 there.1).earlier k i early can))
            | inr late ↦ inr (late_but low old e k i late below can)
          ]);
    }

  pub opened_then : Turns (IsOpened v.geometry v.chosen v.blocks v.pointers.items v.named.items) u w
  opened_then = turns_with (λ old d b e n after is part.
      opened_still v opening.usable some old d is b (m.shaped d n) after part.only) opening.opened way.reads

  module _ {done : ℕ} (version : ℕ) (is : v.chosen.head.version ≡ version) (rises : v.chosen.head.generation + 1 < 2 ^ 64)
      (change : Super → Super) (changed : change v.chosen.head ≡ new)
      (moves : MovesHeads v.geometry v.chosen.head new v.blocks done m w) where
    -- opening's end by the count of calls
    pub ended : w.calls < 2 ^ 64 - 1 → (old : Image) → u.zones ≡ Some old → m.calls ≡ u.calls + open_calls v.chosen old
    ended low old e = let order = way.order in opening.counted.number_is (omega (arith, low, order)) old e

    abbrev pub changes : ChangesHeads version change done u w
    changes = record {
      volume = v;
      told = told_now;
      usable = opening.usable;
      opened = opened_then;
      version_is = is;
      rises = rises;
      heads = λ low old e k i above below can. (
          let there = turned opening.opened old e in
          let end = ended low old e in
          subst (λ (s : Super). AreHeadsAfter (min k done - (u.calls + open_calls v.chosen old)) v.geometry v.chosen.head s v.blocks i) (sym changed)
          (subst (λ (n : ℕ). AreHeadsAfter (min k done - n) v.geometry v.chosen.head new v.blocks i) end
          (moves.left low there.0 there.1 k i (omega (arith, above, end)) below can)));
      kept = λ low old e k i above below can. (
          let end = ended low old e in
          subst (λ (s : Super). ServesWithEither v.chosen.head s (chosen_of v.chosen) old i) (sym changed)
          (late_volume low old e k i (omega (arith, above, end)) below can));
    }

  -- all four calls did their work
  module _ (version : ℕ) (is : v.chosen.head.version ≡ version) (rises : v.chosen.head.generation + 1 < 2 ^ 64)
      (change : Super → Super) (changed : change v.chosen.head ≡ new)
      (moves : MovesHeads v.geometry v.chosen.head new v.blocks w.calls m w)
      (heads : Holds (HoldsHeads v.geometry v.chosen.head.layout new new v.blocks) w) (durable : IsDurable w) (made : Made 4 m w) where
    pub all_changed : HasChangedHeads version change u w
    all_changed = record {
      changes = changes version is rises change changed moves;
      heads = subst (λ (s : Super). Holds (HoldsHeads v.geometry v.chosen.head.layout s s v.blocks) w) (sym changed) heads;
      is_volume = record {
        reads = Both-by u.zones w.zones _ _ (λ old b e z is. (
          chosen_of v.chosen,
          is.well_formed,
          subst (λ (s : Super). ServesWith s (chosen_of v.chosen) old b) (sym changed)
              (with_new v.geometry v.chosen v.blocks opening.usable.placed.fits opening.usable.map old b (sym is.geometry)
              (opened_serves v opening.usable some old b is) new next (heads.now b z)),
        )) opened_then.reads;
      };
      durable = durable;
      counted = record {
        number_is = λ low old e. (
            let order = way.order in
            let end = opening.counted.number_is (omega (arith, low, order)) old e in
            let number = made.number_is low in
            omega (arith, end, number));
      };
    }
