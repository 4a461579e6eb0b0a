-- What stands in a set by its sectors: what leaves it as it is, and how far it is.
use Rattle.std.proofs.Common.{◌≡◌, ℕ, ◌+◌, ◌*◌, ◌/◌, ◌%◌, ◌<◌, ◌≤◌, List, length, inl, inr, sym, ap, ap₂, ◌∙◌, arith}
use Rattle.std.proofs.lemmas.Bool.{cases_lt}
use Rattle.std.proofs.Math.Nat.{zero-div, zero-mod}
use Rattle.zd_base.specs.Geometry.{Shape}
use Rattle.zd_model.specs.Image.{Image, SameZone, set_block}
use Rattle.zd_model.specs.Volume.{good_super}
use Rattle.zd_model.specs.declared.metadata.Super.{Super}
use Rattle.zd_model.proofs.SameLaws.{same_run}
use Rattle.zd_disk.specs.OfGeometry.{IsImageOf}
use Rattle.zd_disk.specs.Steps.{piece}
use Rattle.zd_sets.specs.Blocks.{blocks_of}
use Rattle.zd_sets.specs.Stages.{HasSet, InStage, IsBetween, IsWritten, SetStays, Stage, next_head, sector_in_set}
use Rattle.zd_sets.specs.Stages.Stage.{Before, Mixed, Whole, Either, After}
use Rattle.zd_sets.proofs.BlockLaws.{block_size}
use Rattle.zd_sets.proofs.EqualLaws.{same_good}
use Rattle.zd_sets.proofs.WriteLaws.{pieces}

-- the used blocks of the set that begins in zone `first` stand in conventional zones
pub record IsConventionalSet (g : Shape) (first used : ℕ) : Type 0 where
  pub some : 0 < g.zone_blocks
  pub one : 1 ≤ used
  pub inside : (k : ℕ) → k < used → first + k / g.zone_blocks < g.conv

module _ (g : Shape) (first used : ℕ) (set : IsConventionalSet g first used) where
  full : (i : Image) → IsImageOf g i → (k : ℕ) → k < used
      → i.held (first + k / g.zone_blocks) ≡ 8 * g.zone_blocks
  full i of k below =
      let conv = ap (λ (s : Shape). s.conv) of.geometry in
      let size = ap (λ (s : Shape). s.zone_blocks) of.geometry in
      let at = set.inside k below in
      of.image.conventional (first + k / g.zone_blocks) (omega (arith, conv, at)) ∙ ap (λ (n : ℕ). 8 * n) size

  -- each of their sectors is held
  pub held_at : (i : Image) → IsImageOf g i → (k j : ℕ) → k < used → j < 8
      → 8 * (k % g.zone_blocks) + j < i.held (first + k / g.zone_blocks)
  held_at i of k j below few =
      let all = full i of k below in
      let some = set.some in
      omega (arith, all, some)

  -- the super block stands in the first block
  front_is : (i : Image) (j : ℕ) → sector_in_set g i first 0 j ≡ i.sector first j
  front_is i j =
      let zone : first + 0 / g.zone_blocks ≡ first = (let none = zero-div g.zone_blocks in omega (arith, none)) in
      let place : 8 * (0 % g.zone_blocks) + j ≡ j = (let none = zero-mod g.zone_blocks in omega (arith, none)) in
      ap₂ (λ (z x : ℕ). i.sector z x) zone place

  -- a super block whose sectors are the same
  pub front_same : (i c : Image) → c.geometry ≡ i.geometry
      → ((j : ℕ) → j < 8 → sector_in_set g c first 0 j ≡ sector_in_set g i first 0 j)
      → good_super c first ≡ good_super i first
  front_same i c geometry same =
      same_good i c first geometry (same_run (c.sector first) (i.sector first) 0 8
      (λ j from below. sym (front_is c j) ∙ same j (omega arith) ∙ front_is i j))

  -- a set whose zones are the same stays
  pub zones_stay : (i c : Image) → IsImageOf g i → c.geometry ≡ i.geometry
      → ((k : ℕ) → k < used → SameZone i c (first + k / g.zone_blocks)) → SetStays g first used i c
  zones_stay i c of geometry same =
      let one = set.one in
      record {
        super = front_same i c geometry (λ j few.
            (same 0 one).sectors (8 * (0 % g.zone_blocks) + j) (held_at i of 0 j one few));
        each = λ k j above below few.
            (same k below).sectors (8 * (k % g.zone_blocks) + j) (held_at i of k j below few);
      }

-- a set that stays is as far as it was
module _ (g : Shape) (first used : ℕ) (i c : Image) (stays : SetStays g first used i c) where
  pub has_stays : (head : Super) (bytes : List ℕ)
      → HasSet g first used head bytes i → HasSet g first used head bytes c
  has_stays head bytes h = record {
    super = stays.super ∙ h.super;
    each = λ k j above below few. stays.each k j above below few ∙ h.each k j above below few;
  }

  between_stays : (head : Super) (old new : List ℕ)
      → IsBetween g first used head old new i → IsBetween g first used head old new c
  between_stays head old new h = record {
    super = stays.super ∙ h.super;
    each = λ k j above below few. elim (h.each k j above below few) [
      | inl o ↦ inl (stays.each k j above below few ∙ o)
      | inr n ↦ inr (stays.each k j above below few ∙ n)
    ];
  }

  pub written_stays : (head : Super) (old new : List ℕ) (upto : ℕ)
      → IsWritten g first used head old new upto i → IsWritten g first used head old new upto c
  written_stays head old new upto h = record {
    super = stays.super ∙ h.super;
    below = λ k j above below to few. stays.each k j above below few ∙ h.below k j above below to few;
    from = λ k j above below to few. stays.each k j above below few ∙ h.from k j above below to few;
  }

  pub stage_stays : (st : Stage) (head : Super) (old new : List ℕ)
      → InStage st g first used head old new i → InStage st g first used head old new c
  stage_stays Before head old new h = has_stays head old h
  stage_stays Mixed head old new h = between_stays head old new h
  stage_stays Whole head old new h = has_stays head new h
  stage_stays Either head old new (inl h) = inl (has_stays head new h)
  stage_stays Either head old new (inr h) = inr (has_stays (next_head head) new h)
  stage_stays After head old new h = has_stays (next_head head) new h

-- how far one set is
module _ (g : Shape) (first used : ℕ) (head : Super) (old new : List ℕ) (i : Image) where
  pub before_mixed : HasSet g first used head old i → IsBetween g first used head old new i
  before_mixed h = record { super = h.super; each = λ k j above below few. inl (h.each k j above below few) }

  pub mixed_whole : HasSet g first used head new i → IsBetween g first used head old new i
  mixed_whole h = record { super = h.super; each = λ k j above below few. inr (h.each k j above below few) }

  -- blocks that are the same in both may be left out
  pub skip_same : (k m : ℕ) → k ≤ m → ((n : ℕ) → k ≤ n → n < m → blocks_of old n 1 ≡ blocks_of new n 1)
      → IsWritten g first used head old new k i → IsWritten g first used head old new m i
  skip_same k m le same h = record {
    super = h.super;
    below = λ n j above below upto few. elim (cases_lt n k) [
      | inl before ↦ h.below n j above below before few
      | inr from ↦ h.from n j above below from few ∙ ap (λ (b : List ℕ). piece b j) (same n from upto)
    ];
    from = λ n j above below upto few. h.from n j above below (omega arith) few;
  }

  -- no block is written, or each
  pub none_written : (upto : ℕ) → upto ≤ 1 → IsWritten g first used head old new upto i
      → HasSet g first used head old i
  none_written upto few h = record {
    super = h.super;
    each = λ k j above below small. h.from k j above below (omega arith) small;
  }

  pub before_written : HasSet g first used head old i → IsWritten g first used head old new 1 i
  before_written h = record {
    super = h.super;
    below = λ k j above below upto few. absurd (omega arith);
    from = λ k j above below upto few. h.each k j above below few;
  }

  pub all_written : IsWritten g first used head old new used i → HasSet g first used head new i
  all_written h = record { super = h.super; each = λ k j above below few. h.below k j above below below few }

  pub written_mixed : (upto : ℕ) → IsWritten g first used head old new upto i
      → IsBetween g first used head old new i
  written_mixed upto h = record {
    super = h.super;
    each = λ k j above below few. elim (cases_lt k upto) [
      | inl before ↦ inr (h.below k j above below before few)
      | inr from ↦ inl (h.from k j above below from few)
    ];
  }

-- the blocks of a set, by its sectors
pub blocks_are : (i : Image) (first used : ℕ) (head : Super) (bytes : List ℕ) → length bytes ≡ 4096 * used
    → HasSet i.geometry first used head bytes i → (k : ℕ) → 1 ≤ k → k < used
    → set_block i first k ≡ blocks_of bytes k 1
blocks_are i first used head bytes size has k above below =
    pieces (i.sector (first + k / i.geometry.zone_blocks)) 8 (8 * (k % i.geometry.zone_blocks))
    (blocks_of bytes k 1) (block_size bytes k (omega (arith, size, below))) (λ j few. has.each k j above below few)
