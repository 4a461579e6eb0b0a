-- Pointers that are rounded up to blocks.
use Rattle.std.proofs.Common.{◌≡◌, ℕ, ◌+◌, ◌*◌, ◌%◌, ◌<◌, ◌≤◌, ◌==◌, Bool, true, false, not, ◌&&◌, List, ◌++◌, take, drop, length, refl, sym, ap, ◌∙◌, subst, inl, inr, arith}
use Rattle.std.proofs.lemmas.Bool.{cases_lt, false≢true, le-ltb}
use Rattle.std.proofs.lemmas.List.FromFn.{length-map-range_with_len}
use Rattle.std.proofs.Math.ListN.{get_or-eq_default}
use Rattle.std.proofs.Math.Seq.{take-append_seam}
use borrow.Author.Tests.{eqb-true}
use Rattle.std.specs.Prelude.{slice_index, slice_index_or}
use Rattle.zd_base.specs.Geometry.{Shape, is_conventional, zone_count, zone_sectors}
use Rattle.zd_model.specs.Faults.{has}
use Rattle.zd_model.specs.Tables.{named_zones}
use Rattle.zd_disk.specs.Told.{WhereTold}
use Rattle.zd_disk.specs.View.{View, Turns}
use Rattle.zd_disk.proofs.ViewLaws.{turned_back}
use Rattle.zd_sets.specs.Equal.{IsMadeEqual}
use Rattle.zd_sets.specs.declared.choice.Chosen.{Chosen as Choice}
use Rattle.zd_tables.specs.Tables.{tables_in}
use Rattle.zd_examine.specs.Examined.{ArePointers, IsExamined, IsUsable}
use Rattle.zd_examine.specs.Opened.{AreWhole}
use Rattle.zd_examine.specs.Padded.{AreRoundedUp, block_end, is_cut}

-- what a list holds that was written over as a whole
pub with_all : (old new : List ℕ) (n : ℕ) → n ≡ length new → take n (new ++ drop (length new) old) ≡ new
with_all old new n all =
    ap (λ (k : ℕ). take k (new ++ drop (length new) old)) all ∙ take-append_seam new (drop (length new) old)

-- there is a flag for each zone
pub flag_count : {g : Shape} {c : Choice} {bytes reported : List ℕ} {named : List Bool}
    → IsUsable g c bytes reported named → length named ≡ zone_count g
flag_count {g} {c} {bytes} {reported} {named} u =
    ap (λ (fs : List Bool). length fs) u.flags
    ∙ length-map-range_with_len (has (named_zones (tables_in g c.head.layout bytes))) 0 (zone_count g)

-- pointers stay, where the other set is made equal
pub pointers_made : {g : Shape} {c : Choice} {bytes reported : List ℕ} {end : ℕ} {s v : View}
    → Turns (IsMadeEqual g c end) s v
    → WhereTold s.zones (IsExamined g c bytes reported) → WhereTold v.zones (λ i. ArePointers i reported)
pointers_made {g} {c} {bytes} {reported} {end} {s} {v} equal found j e =
    let there = turned_back equal j e in
    let was = (found there.0 there.1).pointers in
    let only = there.2.only in
    record {
      count = was.count ∙ ap (λ (h : Shape). zone_count h) (sym only.geometry);
      conventional = λ z low. was.conventional z (subst (λ (h : Shape). z < h.conv) only.geometry low);
      sequential = λ z seq low. (
          let here : there.0.geometry.conv ≤ z = subst (λ (h : Shape). h.conv ≤ z) only.geometry seq in
          was.sequential z here (subst (λ (h : Shape). z < zone_count h) only.geometry low)
          ∙ sym (only.sequential z here).held);
    }

module _ {g : Shape} {named : List Bool} {reported rounded : List ℕ} (size : length named ≡ zone_count g)
    (up : AreRoundedUp g named (zone_count g) reported rounded) where
  -- behind all zones there is no pointer to round up
  behind : (z : ℕ) → zone_count g ≤ z → is_cut g named z (slice_index reported z) ≡ false
  behind z past = rw (get_or-eq_default named false (let e : length named ≤ z = omega (arith, past, size) in e))
      (and_no (not (is_conventional g z)))
    where
      and_no : (b : Bool) → (b && false) ≡ false
      and_no true = refl
      and_no false = refl

  pointer_by : (P : ℕ → Type 0) (z : ℕ)
      → (is_cut g named z (slice_index reported z) ≡ true → P (block_end (slice_index reported z)))
      → (is_cut g named z (slice_index reported z) ≡ false → P (slice_index reported z)) → P (slice_index rounded z)
  pointer_by P z cut none = by_cut (is_cut g named z (slice_index reported z)) refl
    where
      by_cut : (b : Bool) → is_cut g named z (slice_index reported z) ≡ b → P (slice_index rounded z)
      by_cut true is = elim (cases_lt z (zone_count g)) [
        | inl low ↦ subst P (sym (up.pads z low is)) (cut is)
        | inr past ↦ absurd (false≢true (sym (behind z past) ∙ is))
      ]
      by_cut false is = subst P (sym (up.others z is)) (none is)

  pub whole_pointers : AreWhole g named rounded
  whole_pointers = record {
    whole = λ z seq flag. pointer_by (λ n. n % 8 ≡ 0) z (λ is. omega arith) (λ is. uncut z seq flag is);
  }
    where
      uncut : (z : ℕ) → g.conv ≤ z → slice_index_or named z false ≡ true
          → is_cut g named z (slice_index reported z) ≡ false → slice_index reported z % 8 ≡ 0
      uncut z seq flag is =
          let far : is_conventional g z ≡ false = le-ltb z g.conv seq in
          let cut = rw (far, flag) at is in
          eqb-true (slice_index reported z % 8) 0 (not_false (slice_index reported z % 8 == 0) cut)
        where
          not_false : (b : Bool) → not b ≡ false → b ≡ true
          not_false true e = refl
          not_false false e = cc

  pub usable_rounded : {c : Choice} {bytes : List ℕ} → IsUsable g c bytes reported named
      → IsUsable g c bytes rounded named
  usable_rounded {c} {bytes} u = record {
    placed = u.placed;
    size = u.size;
    count = up.count ∙ u.count;
    map = u.map;
    bits = record {
      named = u.bits.named;
      below = λ z x far low within valid. (
          let under = u.bits.below z x far low within valid in
          pointer_by (λ n. 8 * x + 8 ≤ n) z (λ is. omega (arith, under)) (λ is. under));
      one_place = u.bits.one_place;
    };
    within = λ z. (let under = u.within z in pointer_by (λ n. n ≤ zone_sectors g) z (λ is. omega (arith, under))
        (λ is. under));
    flags = u.flags;
  }
