-- A block that a pointer cuts, made whole by zeros, whole or in part.
use Rattle.std.proofs.Common.{◌≡◌, ◌≢◌, ℕ, ◌+◌, ◌-◌, ◌*◌, ◌%◌, ◌<◌, ◌≤◌, Bool, true, false, List, replicate, take, refl, sym, ap, ◌∙◌, subst, inl, inr, arith}
use Rattle.std.proofs.lemmas.Bool.{cases_eq, cases_lt, false≢true}
use Rattle.std.proofs.lemmas.List.{drop-replicate, length-replicate, take-replicate}
use Rattle.zd_base.specs.Geometry.{Shape}
use Rattle.zd_model.specs.Bytes.{zero_sector}
use Rattle.zd_model.specs.Image.{Image, SameZone}
use Rattle.zd_model.proofs.EventLaws.{SameZone-trans}
use Rattle.zd_disk.specs.Steps.{Wrote, WriteLeaves, WriteStep, ZoneWrote, count_of, piece}
use Rattle.zd_examine.specs.Padded.{HasPad, HasPartOfPad, HasPartOfPads, IsPadStep, IsPadded, PadsZone, block_end, needs_pad}

zeros_are : zero_sector ≡ replicate 512 0
unfolding zero_sector
zeros_are = refl

-- each sector of zeros is the sector of zeros
zero_piece : (n j : ℕ) → j < n → piece (replicate (512 * n) 0) j ≡ zero_sector
zero_piece n j low =
    ap (λ (xs : List ℕ). take 512 xs) (drop-replicate (512 * j) (512 * n) 0)
    ∙ take-replicate 512 (512 * n - 512 * j) 0 (omega arith) ∙ sym zeros_are

-- n zero sectors written at a pointer inside a block, which don't go past the block's end
zone_part : (z p n : ℕ) (reads new : Image) → reads.held z ≡ p → p % 8 ≢ 0 → n ≤ 8 - p % 8
    → ZoneWrote z p (replicate (512 * n) 0) reads new → HasPartOfPad reads new z
zone_part z p n reads new at cut few w =
    let count : count_of (replicate (512 * n) 0) ≡ n = omega (arith, length-replicate {A = ℕ} (512 * n) 0) in
    let held = w.held in
    record {
      least = omega (arith, held);
      most = omega (arith, held, at, count, few, cut);
      before = λ i low. w.before i (omega (arith, low, at)) low;
      zeros = λ i above below. (
          let j : ℕ = i - p in
          let inside : j < n = omega (arith, above, below, held, at, count) in
          let here : p + j ≡ i = omega (arith, above, at) in
          ap (new.sector z) (sym here) ∙ w.put j (omega (arith, inside, count)) ∙ zero_piece n j inside);
    }

-- a part that is there, and then the same; the same, and then a part
pub part_then : {y : ℕ} {a b c : Image} → HasPartOfPad a b y → SameZone b c y → HasPartOfPad a c y
part_then {y} {a} {b} {c} h same = record {
  least = omega (arith, h.least, same.held);
  most = omega (arith, h.most, same.held);
  before = λ i low. same.sectors i (omega (arith, low, h.least)) ∙ h.before i low;
  zeros = λ i above below. (
      let inside : i < b.held y = omega (arith, below, same.held) in
      same.sectors i inside ∙ h.zeros i above inside);
}

pub part_from : {y : ℕ} {a b c : Image} → SameZone a b y → HasPartOfPad b c y → HasPartOfPad a c y
part_from {y} {a} {b} {c} same h = record {
  least = omega (arith, h.least, same.held);
  most = subst (λ (n : ℕ). c.held y ≤ block_end n) same.held h.most;
  before = λ i low. h.before i (omega (arith, low, same.held)) ∙ same.sectors i low;
  zeros = λ i above below. h.zeros i (omega (arith, above, same.held)) below;
}

pub part_same : {y : ℕ} {a b : Image} → SameZone a b y → HasPartOfPad a b y
part_same {y} {a} {b} same = record {
  least = omega (arith, same.held);
  most = omega (arith, same.held);
  before = same.sectors;
  zeros = λ i above below. absurd (omega (arith, above, below, same.held));
}

-- zeros written at the pointer of a zone, up to the block's end
module _ (g : Shape) (z p n : ℕ) (bytes : List ℕ) (zeros : bytes ≡ replicate (512 * n) 0) (seq : g.conv ≤ z)
    (cut : p % 8 ≢ 0) (all : n ≡ 8 - p % 8) where
  count : count_of bytes ≡ n
  count = ap count_of zeros
      ∙ (let e : count_of (replicate (512 * n) 0) ≡ n = omega (arith, length-replicate {A = ℕ} (512 * n) 0) in e)

  -- some of them
  short : (reads new : Image) → reads.held z ≡ p → (m : ℕ) → m ≤ count_of bytes
      → ZoneWrote z p (take (512 * m) bytes) reads new → HasPartOfPad reads new z
  short reads new at m few w =
      let under : m ≤ n = omega (arith, few, count) in
      zone_part z p m reads new at cut (omega (arith, under, all))
      (subst (λ (bs : List ℕ). ZoneWrote z p bs reads new)
      (ap (take (512 * m)) zeros ∙ take-replicate (512 * m) (512 * n) 0 (omega (arith, under))) w)

  pub step_is : (reads a b : Image) → reads.held z ≡ p → a.geometry ≡ g → WriteStep reads z p bytes a b
      → IsPadStep reads z a b
  step_is reads a b at shape w = record {
    geometry = w.geometry;
    others = w.others;
    zone = elim (w.sequential (subst (λ (h : Shape). h.conv ≤ z) (sym shape) seq)) [
      | inl same ↦ inl same
      | inr some ↦ inr (short reads b at some.0 some.1 some.2)
    ];
  }

  pub leaves_is : (reads now a b : Image) → reads.held z ≡ p → a.geometry ≡ g
      → WriteLeaves reads now z p bytes a b → IsPadStep reads z a b
  leaves_is reads now a b at shape w = record {
    geometry = w.geometry;
    others = w.others;
    zone = elim (w.sequential (subst (λ (h : Shape). h.conv ≤ z) (sym shape) seq)) [
      | inl same ↦ inl same
      | inr some ↦ inr (short reads b at some.0 some.1 some.3)
    ];
  }

  -- all of them
  pub zone_padded : (a b : Image) → a.held z ≡ p → Wrote z p bytes a b → PadsZone z a b
  zone_padded a b at w =
      let held = w.zone.held in
      record {
        geometry = w.geometry;
        others = w.others;
        zone = record {
          held = omega (arith, held, at, count, all, cut);
          part = zone_part z p n a b at cut (omega (arith, all))
              (subst (λ (bs : List ℕ). ZoneWrote z p bs a b) zeros w.zone);
        };
      }

-- a step that is done
pub padded_step : {z : ℕ} {a b : Image} → PadsZone z a b → IsPadStep a z a b
padded_step h = record { geometry = h.geometry; others = h.others; zone = inr h.zone.part }

-- the zones below z have their pads
module _ {named : List Bool} {z : ℕ} {a b : Image} (h : IsPadded named z a b) where
  pub padded_parts : HasPartOfPads named a b
  padded_parts = record {
    geometry = h.geometry;
    pads = λ y need. elim (cases_lt y z) [
      | inl low ↦ (h.pads y low need).part
      | inr high ↦ part_same (h.later y high)
    ];
    others = h.others;
  }

  -- zone z needs none
  pub padded_skip : needs_pad named a z ≡ false → IsPadded named (z + 1) a b
  padded_skip none = record {
    geometry = h.geometry;
    pads = λ y low need. elim (cases_lt y z) [
      | inl under ↦ h.pads y under need
      | inr at ↦ (let here : y ≡ z = omega arith in
          absurd (false≢true (sym none ∙ ap (needs_pad named a) (sym here) ∙ need)))
    ];
    later = λ y high. h.later y (omega arith);
    others = h.others;
  }

  -- it gets one
  module _ (need : needs_pad named a z ≡ true) where
    other_zone : (y : ℕ) → needs_pad named a y ≡ false → y ≢ z
    other_zone y none e = false≢true (sym none ∙ ap (needs_pad named a) e ∙ need)

    pub padded_more : {c : Image} → PadsZone z b c → IsPadded named (z + 1) a c
    padded_more {c} k = record {
      geometry = k.geometry ∙ h.geometry;
      pads = λ y low some. elim (cases_lt y z) [
        | inl under ↦
            let there = h.pads y under some in
            let same = k.others y (omega arith) in
            record { held = same.held ∙ there.held; part = part_then there.part same }
        | inr at ↦
            let same = h.later z (omega arith) in
            subst (HasPad a c) (let here : z ≡ y = omega arith in here) (record {
              held = k.zone.held ∙ ap block_end same.held;
              part = part_from same k.zone.part;
            })
      ];
      later = λ y high. SameZone-trans a b c y (h.later y (omega arith)) (k.others y (omega arith));
      others = λ y none. SameZone-trans a b c y (h.others y none) (k.others y (other_zone y none));
    }

    -- an image with a part of the pads gets a part of it
    pub parts_more : {d c : Image} → HasPartOfPads named a d → IsPadStep b z d c → HasPartOfPads named a c
    parts_more {d} {c} parts k = record {
      geometry = k.geometry ∙ parts.geometry;
      pads = λ y some. elim (cases_eq y z) [
        | inl here ↦ subst (HasPartOfPad a c) (sym here) (elim k.zone [
          | inl same ↦ part_then (parts.pads z need) same
          | inr part ↦ part_from (h.later z (omega arith)) part
        ])
        | inr other ↦ part_then (parts.pads y some) (k.others y other)
      ];
      others = λ y none. SameZone-trans a d c y (parts.others y none) (k.others y (other_zone y none));
    }
