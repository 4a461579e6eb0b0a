-- What a write of a block or of the super block makes of a set, done or cut short.
use Rattle.std.proofs.Common.{◌≡◌, ◌⊎◌, ℕ, ◌+◌, ◌*◌, ◌/◌, ◌%◌, ◌^◌, ◌<◌, ◌≤◌, List, length, is_some, inl, inr, sym, ap, ◌∙◌, subst, arith}
use Rattle.std.proofs.lemmas.Bool.{cases_eq}
use Rattle.std.proofs.Math.Nat.{zero-div, zero-mod}
use Rattle.zd_base.specs.Geometry.{Shape}
use Rattle.zd_model.specs.Image.{Image}
use Rattle.zd_model.specs.Super.{HasBlock, block_of}
use Rattle.zd_model.specs.Volume.{good_super}
use Rattle.zd_model.specs.declared.metadata.Super.{Super}
use Rattle.zd_model.proofs.SuperSpelling.{spells}
use Rattle.zd_disk.specs.OfGeometry.{IsImageOf}
use Rattle.zd_disk.specs.Steps.{Wrote, count_of, piece}
use Rattle.zd_sets.specs.Blocks.{blocks_of}
use Rattle.zd_sets.specs.Equal.{head_at}
use Rattle.zd_sets.specs.Stages.{HasSet, IsBetween, IsWritten, next_head, sector_in_set, sector_of_block}
use Rattle.zd_sets.specs.Writes.{WrotePart}
use Rattle.zd_sets.proofs.EqualLaws.{first_block, good_at, same_good, same_place}
use Rattle.zd_sets.proofs.MixLaws.{mixed_over_good}
use Rattle.zd_sets.proofs.StageLaws.{IsConventionalSet, front_same, held_at}
use Rattle.zd_sets.proofs.StopLaws.{wrote_part}
use Rattle.zd_sets.proofs.WriteLaws.{pieces}

module _ (g : Shape) (first used : ℕ) (set : IsConventionalSet g first used) (i c : Image) (of : IsImageOf g i) where
  abbrev zone : ℕ → ℕ
  zone m = first + m / g.zone_blocks

  abbrev start : ℕ → ℕ
  start m = 8 * (m % g.zone_blocks)

  -- some sectors of block k are written
  module _ (k : ℕ) (block : List ℕ) (size : length block ≡ 4096) (w : WrotePart (zone k) (start k) block i c) where
    in_zone : (m j : ℕ) → zone m ≡ zone k → j < 8 → start m + j < i.held (zone k)
        → (c.sector (zone k) (start m + j) ≡ i.sector (zone k) (start m + j))
        ⊎ ((m ≡ k) × (c.sector (zone k) (start m + j) ≡ piece block j))
    in_zone m j here few low = elim (w.zone.sectors (start m + j) low) [
      | inl stay ↦ inl stay
      | inr put ↦
          let count : count_of block ≡ 8 = omega (arith, size) in
          let rest : m % g.zone_blocks ≡ k % g.zone_blocks = omega (arith, put.1, put.2, count, few) in
          let which : put.0 ≡ j = omega (arith, put.2, rest) in
          inr (
            same_place g.zone_blocks m k set.some (omega (arith, here)) rest,
            put.3 ∙ ap (λ (n : ℕ). piece block n) which,
          )
    ]

    -- each sector of the set is as it was, or one of these in block k
    sector_put : (m j : ℕ) → m < used → j < 8
        → (sector_in_set g c first m j ≡ sector_in_set g i first m j)
        ⊎ ((m ≡ k) × (sector_in_set g c first m j ≡ piece block j))
    sector_put m j low few =
        let held = held_at g first used set i of m j low few in
        elim (cases_eq (zone m) (zone k)) [
          | inl here ↦ subst
              (λ (z : ℕ). (c.sector z (start m + j) ≡ i.sector z (start m + j))
              ⊎ ((m ≡ k) × (c.sector z (start m + j) ≡ piece block j)))
              (sym here) (in_zone m j here few (subst (λ (z : ℕ). start m + j < i.held z) here held))
          | inr other ↦ inl ((w.others (zone m) other).sectors (start m + j) held)
        ]

    -- the other blocks stay
    others_stay : (m j : ℕ) → m < used → j < 8 → (m ≡ k → ⊥)
        → sector_in_set g c first m j ≡ sector_in_set g i first m j
    others_stay m j low few off = elim (sector_put m j low few) [
      | inl stay ↦ stay
      | inr put ↦ absurd (off put.0)
    ]

  -- a write that was done put all
  done_part : (k : ℕ) (block : List ℕ) → k < used → length block ≡ 4096 → Wrote (zone k) (start k) block i c
      → WrotePart (zone k) (start k) block i c
  done_part k block low size done =
      let last = held_at g first used set i of k 7 low (omega arith) in
      wrote_part i c (zone k) (start k) block (omega (arith, last, size)) done

  -- block k behind the super block is written
  module _ (k : ℕ) (new : List ℕ) (above : 1 ≤ k) (size : length (blocks_of new k 1) ≡ 4096) where
    super_same : WrotePart (zone k) (start k) (blocks_of new k 1) i c → good_super c first ≡ good_super i first
    super_same w = front_same g first used set i c w.geometry
        (λ j few. others_stay k (blocks_of new k 1) size w 0 j set.one few (λ same. omega (arith, same, above)))

    -- cut short, the set is still between old and new
    pub block_part : (head : Super) (old : List ℕ)
        → WrotePart (first + k / g.zone_blocks) (8 * (k % g.zone_blocks)) (blocks_of new k 1) i c
        → IsBetween g first used head old new i → IsBetween g first used head old new c
    block_part head old w h = record {
      super = super_same w ∙ h.super;
      each = λ m j m_above m_below few. elim (sector_put k (blocks_of new k 1) size w m j m_below few) [
        | inl stay ↦ elim (h.each m j m_above m_below few) [
          | inl before ↦ inl (stay ∙ before)
          | inr after ↦ inr (stay ∙ after)
        ]
        | inr put ↦ inr (put.1 ∙ ap (λ (n : ℕ). sector_of_block new n j) (sym put.0))
      ];
    }

    -- done, the next block is due
    pub block_written : (head : Super) (old : List ℕ) → k < used
        → Wrote (first + k / g.zone_blocks) (8 * (k % g.zone_blocks)) (blocks_of new k 1) i c
        → IsWritten g first used head old new k i → IsWritten g first used head old new (k + 1) c
    block_written head old low done h =
        let w = done_part k (blocks_of new k 1) low size done in
        record {
          super = super_same w ∙ h.super;
          below = λ m j m_above m_below upto few. elim (cases_eq m k) [
            | inl here ↦ subst (λ (n : ℕ). sector_in_set g c first n j ≡ sector_of_block new n j) (sym here)
                (done.zone.put j (omega (arith, size, few)))
            | inr off ↦
                others_stay k (blocks_of new k 1) size w m j m_below few off
                ∙ h.below m j m_above m_below (omega (arith, off, upto)) few
          ];
          from = λ m j m_above m_below upto few.
              others_stay k (blocks_of new k 1) size w m j m_below few (λ same. omega (arith, same, upto))
              ∙ h.from m j m_above m_below (omega (arith, upto)) few;
        }

  -- the super block stands in the first block
  as_block : (P : ℕ → ℕ → Type 0) → P first 0 → P (zone 0) (start 0)
  as_block P p =
      let here : first ≡ zone 0 = (let none = zero-div g.zone_blocks in omega (arith, none)) in
      let front : 0 ≡ start 0 = (let none = zero-mod g.zone_blocks in omega (arith, none)) in
      subst (λ (z : ℕ). P z (start 0)) here (subst (λ (x : ℕ). P first x) front p)

  -- it is written with the next head
  module _ (head : Super) (new : List ℕ) (fits : IsImageOf g c)
      (sizes : HasBlock (head_at g first (next_head head))) where
    abbrev block : List ℕ
    block = block_of (head_at g first (next_head head))

    size : length block ≡ 4096
    size = (spells (head_at g first (next_head head)) sizes).bytes.count

    own : (head_at g first (next_head head)).own ≡ first * c.geometry.zone_blocks
    own = ap (λ (s : Shape). first * s.zone_blocks) (sym fits.geometry)

    behind : WrotePart first 0 block i c → (m j : ℕ) → 1 ≤ m → m < used → j < 8
        → sector_in_set g c first m j ≡ sector_in_set g i first m j
    behind w m j above below few =
        others_stay 0 block size (as_block (λ z x. WrotePart z x block i c) w) m j below few
        (λ same. omega (arith, same, above))

    -- cut short, it is the old one or the next one, and never a third
    pub super_part : WrotePart first 0 (block_of (head_at g first (next_head head))) i c
        → HasSet g first used head new i → HasSet g first used head new c ⊎ HasSet g first used (next_head head) new c
    super_part w h =
        let conv = ap (λ (s : Shape). s.conv) of.geometry in
        let blocks = ap (λ (s : Shape). s.zone_blocks) of.geometry in
        let inside = set.inside 0 set.one in
        let some = set.some in
        let rest : (m j : ℕ) → 1 ≤ m → m < used → j < 8 → sector_in_set g c first m j ≡ sector_of_block new m j =
        λ m j above below few. behind w m j above below few ∙ h.each m j above below few in
        elim (mixed_over_good i c of.image fits.image first (head_at g first (next_head head))
        (omega (arith, inside, conv)) (omega (arith, blocks, some)) sizes own w (ap is_some h.super)) [
          | inl stay ↦ inl (record { super = same_good i c first w.geometry stay ∙ h.super; each = rest })
          | inr put ↦ inr (record { super = put; each = rest })
        ]

    -- done, it is the next one
    pub super_written : (old : List ℕ) → Wrote first 0 (block_of (head_at g first (next_head head))) i c
        → IsWritten g first used head old new used i → IsWritten g first used (next_head head) old new used c
    super_written old done h =
        let full : 8 ≤ i.held first = as_front in
        let w = wrote_part i c first 0 block (omega (arith, full, size)) done in
        record {
          super = good_at c first (head_at g first (next_head head))
              (first_block c first
              ∙ pieces (c.sector first) 8 0 block size (λ j few. done.zone.put j (omega (arith, size, few))))
              sizes own;
          below = λ m j above below upto few. behind w m j above below few ∙ h.below m j above below upto few;
          from = λ m j above below upto few. absurd (omega (arith, below, upto));
        }
      where
        as_front : 8 ≤ i.held first
        as_front =
            let last = held_at g first used set i of 0 7 set.one (omega arith) in
            let none = zero-div g.zone_blocks in
            let front = zero-mod g.zone_blocks in
            let here : first + 0 / g.zone_blocks ≡ first = omega (arith, none) in
            subst (λ (z : ℕ). 8 ≤ i.held z) here (omega (arith, last, front))

-- the next head has a block, where the generation can rise
pub next_has_block : (g : Shape) (first : ℕ) (head : Super) → HasBlock head → head.generation + 1 < 2 ^ 64
    → first * g.zone_blocks < 2 ^ 64 → HasBlock (head_at g first (next_head head))
next_has_block g first head has rises own = record {
  generation = rises;
  own = own;
  meta_blocks = has.meta_blocks;
  reserved = has.reserved;
  chunks = has.chunks;
  map_blocks = has.map_blocks;
  bitmap_blocks = has.bitmap_blocks;
  label = has.label;
  volume = has.volume;
  device = has.device;
  fits = record {
    version = has.fits.version;
    label = has.fits.label;
    volume = has.fits.volume;
    device = has.fits.device;
  };
}
