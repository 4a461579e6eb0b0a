-- What tables serve stays where super blocks alone change.
use Rattle.std.proofs.Common.{◌≡◌, ℕ, ◌+◌, ◌*◌, ◌/◌, ◌%◌, ◌<◌, ◌≤◌, List, length, inl, inr, refl, sym, ap, ◌∙◌, arith}
use Rattle.std.proofs.lemmas.Bool.{cases_lt}
use Rattle.std.proofs.Math.Nat.{zero-div}
use Rattle.std.specs.Prelude.{IsTrue}
use Rattle.zd_base.specs.Geometry.{Shape}
use Rattle.zd_base.specs.Layout.{Fits, first_data_zone, set_zones}
use Rattle.zd_base.specs.declared.layout.Layout.{Layout}
use Rattle.zd_disk.specs.OfGeometry.{IsImageOf}
use Rattle.zd_examine.specs.Opened.{ServesContent}
use Rattle.zd_model.specs.Bytes.{zero_sector}
use Rattle.zd_model.specs.Image.{Image}
use Rattle.zd_model.specs.Tables.{BitsFollowRules, MapFollowsRules, NamesZone, Tables, entry_of, is_valid, sector_of, served}
use Rattle.zd_model.specs.declared.metadata.MapEntry.{MapEntry}
use Rattle.zd_model.proofs.ContentLaws.{where_it_is}
use Rattle.zd_model.proofs.SameLaws.{same_map}
use Rattle.zd_sets.specs.Equal.{InSet, OnlyAt}
use Rattle.zd_sets.specs.declared.choice.Chosen.{Chosen as Choice}
use Rattle.zd_sets.proofs.EqualLaws.{in_zones}
use Rattle.zd_sets.proofs.VolumeLaws.{same_sectors}
use Rattle.zd_tables.specs.Tables.{entries_in, tables_in}
use Rattle.zd_repair.specs.Heads.{AtFronts}

module _ (g : Shape) (l : Layout) (some : 0 < g.zone_blocks) (fits : Fits g l) (t : Tables) (rules : MapFollowsRules g l t.entries)
    (d b : Image) (first : IsImageOf g d) (second : IsImageOf g b) (bits : BitsFollowRules g d.held t)
    (only : OnlyAt (AtFronts g l) d b) where
  -- no super block stands in a data zone
  no_front : (z x : ℕ) → first_data_zone g l ≤ z → AtFronts g l z x → ⊥
  no_front z x behind at =
      let least = in_zones g l fits some 0 (omega arith) in
      elim at [
        | inl two ↦ zone_of (set_zones g l) two (omega (arith, behind, least))
        | inr one ↦ zone_of 0 one (omega (arith, behind, least))
      ]
    where
      zone_of : (zone : ℕ) → InSet g zone 0 1 z x → zone < z → ⊥
      zone_of zone in_it less =
          let here : in_it.0 ≡ 0 = omega (arith, in_it.2) in
          let same = ap (λ (k : ℕ). k / g.zone_blocks) here in
          let none = zero-div g.zone_blocks in
          absurd (omega (arith, in_it.3, same, none, less))

  data_same : (chunk z x j : ℕ) → NamesZone (entry_of t chunk) z → IsTrue (is_valid t z x) → x < g.zone_blocks → j < 8
      → b.sector z (8 * x + j) ≡ d.sector z (8 * x + j)
  data_same chunk z x j named valid inside few =
      let zones = rules.data_zones chunk z named in
      let blocks = ap (λ (s : Shape). s.zone_blocks) first.geometry in
      let conv = ap (λ (s : Shape). s.conv) first.geometry in
      let more = ap (λ (s : Shape). s.zone_blocks) second.geometry in
      let count = ap (λ (s : Shape). s.conv) second.geometry in
      elim (cases_lt z g.conv) [
        | inl low ↦
            let here = first.image.conventional z (omega (arith, low, conv)) in
            let there = second.image.conventional z (omega (arith, low, count)) in
            same_sectors (b.sector z) (d.sector z) (8 * x) 8 j
            (λ i from below. (second.image.sectors z i (omega (arith, there, more, inside, below))).0
            ∙ sym (first.image.sectors z i (omega (arith, here, blocks, inside, below))).0)
            (only.elsewhere z x (omega (arith, low, conv)) (omega (arith, inside, blocks)) (no_front z x zones.0)) few
        | inr seq ↦
            let below = bits.below z x seq zones.1 inside valid in
            (only.sequential z (omega (arith, seq, conv))).sectors (8 * x + j) (omega (arith, below, few))
      ]

  pub served_still : served g.zone_blocks t b.sector ≡ served g.zone_blocks t d.sector
  served_still =
      let n : ℕ = g.zone_blocks in
      same_map (sector_of n t b.sector) (sector_of n t d.sector) 0 (length t.entries * n * 8) (λ i from low.
      let x : ℕ = i / 8 % n in
      let entry : MapEntry = entry_of t (i / 8 / n) in
      let inside : x < n = omega (arith, some) in
      where_it_is (λ u v. u ≡ v) t x entry.zone (λ z. b.sector z (8 * x + i % 8)) (λ z. d.sector z (8 * x + i % 8)) _ _
      (λ z named valid. data_same (i / 8 / n) z x (i % 8) (inl named) valid inside (omega arith))
      (where_it_is (λ u v. u ≡ v) t x entry.buffer (λ z. b.sector z (8 * x + i % 8)) (λ z. d.sector z (8 * x + i % 8)) zero_sector zero_sector
      (λ z named valid. data_same (i / 8 / n) z x (i % 8) (inr named) valid inside (omega arith)) refl))

  -- and so do the rules
  pub rules_still : BitsFollowRules g b.held t
  rules_still = record {
    named = bits.named;
    below = λ z x far low within valid. (
        let conv = ap (λ (s : Shape). s.conv) first.geometry in
        let same = (only.sequential z (omega (arith, far, conv))).held in
        let under = bits.below z x far low within valid in
        omega (arith, same, under));
    one_place = bits.one_place;
  }

-- the content of a volume that was opened
pub serves_still : (g : Shape) (c : Choice) (bytes : List ℕ) → 0 < g.zone_blocks → Fits g c.head.layout
    → MapFollowsRules g c.head.layout (entries_in c.head.layout bytes) → (old d b : Image) → IsImageOf g d → IsImageOf g b
    → OnlyAt (AtFronts g c.head.layout) d b → ServesContent g c bytes old d → ServesContent g c bytes old b
serves_still g c bytes some fits rules old d b first second only h = record {
  served = served_still g c.head.layout some fits (tables_in g c.head.layout bytes) rules d b first second h.bits only ∙ h.served;
  bits = rules_still g c.head.layout some fits (tables_in g c.head.layout bytes) rules d b first second h.bits only;
}
