-- Steps of making the other set equal, done or cut short, one after another.
use Rattle.std.proofs.Common.{◌≡◌, ◌⊎◌, Some, None, ℕ, ◌+◌, ◌*◌, ◌/◌, ◌%◌, ◌<◌, ◌≤◌, List, length, replicate, inl, inr, Bool, true, false, refl, sym, ap, ◌∙◌, subst, arith}
use Rattle.std.proofs.lemmas.Bool.{cases_lt}
use Rattle.std.proofs.lemmas.List.{length-replicate}
use Rattle.zd_base.specs.Geometry.{IsShape, Shape}
use Rattle.zd_base.specs.Layout.{used_blocks}
use Rattle.zd_model.specs.Image.{Image, IsImage, block_at, set_block}
use Rattle.zd_model.specs.Super.{HasBlock, block_of}
use Rattle.zd_model.specs.Volume.{good_super, has_magic}
use Rattle.zd_model.proofs.SameLaws.{same_block}
use Rattle.zd_model.proofs.SuperSpelling.{spells}
use Rattle.zd_sets.specs.Blocks.{AreBlocks, blocks_of}
use Rattle.zd_sets.specs.Choice.{IsChoice, IsPlacedChoice, chosen_of}
use Rattle.zd_sets.specs.Equal.{HasSetBlocks, HasSuper, InSet, IsCleared, IsReady, OnlyAt, head_at}
use Rattle.zd_sets.specs.Kept.{HasMagicOf, HasPartOfBlocks, HasPartOfSuper, IsPartCleared, ChoosesSame, KeepsVolume}
use Rattle.zd_sets.proofs.OnTheWay.{IsOnTheWay}
use Rattle.zd_sets.specs.declared.choice.Chosen.{Chosen as Choice}
use Rattle.zd_sets.proofs.EqualLaws.{at_front, first_block, only_more, only_then, same_good, same_only, same_place, set_still, there_inside}
use Rattle.zd_sets.proofs.KeptLaws.{chooses_same, keeps_volume}
use Rattle.zd_sets.proofs.MixLaws.{mixed_mark, mixed_over_good, mixed_over_zeros, mixed_zeros, zeros_bad}
use Rattle.zd_sets.proofs.StopLaws.{mixed_only}
use Rattle.zd_sets.specs.Writes.{WrotePart}
use Rattle.zd_disk.proofs.ViewLaws.{IsWay}

-- a step that is done is one done in part
pub done_clear : (g : Shape) (zone : ℕ) (good : Bool) (a b : Image) → IsCleared g zone good a b → IsPartCleared g zone good a b
done_clear g zone good a b h = record { only = h.only; super = by_good good refl }
  where
    by_good : (v : Bool) → good ≡ v → (block_at b zone 0 ≡ block_at a zone 0) ⊎ ((good ≡ false) × (good_super b zone ≡ None))
    by_good true e = inl (h.same e)
    by_good false e = inr (e, zeros_bad b zone (h.zeros e))

pub done_blocks : (g : Shape) (first from end : ℕ) (bytes : List ℕ) (a b : Image) → HasSetBlocks g first from end bytes a b
    → HasPartOfBlocks g first from end bytes a b
done_blocks g first from end bytes a b h = record { only = h.only; marks = λ k above below. inr (ap has_magic (h.each k above below)) }

pub done_super : (g : Shape) (c : Choice) (a b : Image) → HasSuper g c.other c.head a b → HasPartOfSuper g c a b
done_super g c a b h = record { only = h.only; super = inr (inr h.super) }

-- a write that is cut short
pub part_clear : (g : Shape) (zone : ℕ) (good : Bool) (a b : Image) → a.geometry ≡ g → IsImage a → zone < g.conv
    → 0 < g.zone_blocks → good ≡ false → WrotePart zone 0 (replicate 512 0) a b → IsPartCleared g zone good a b
part_clear g zone good a b shape image low some bad w =
    let conv = ap (λ (s : Shape). s.conv) shape in
    let blocks = ap (λ (s : Shape). s.zone_blocks) shape in
    record {
      only = only_more (λ z k. (z ≡ zone) × (k ≡ 0)) (InSet g zone 0 1) a b (at_front g zone)
          (mixed_only a b zone 0 1 (replicate 512 0) image (omega (arith, conv)) (omega (arith, blocks)) (length-replicate {A = ℕ} 512 0) (omega arith) w);
      super = elim (mixed_zeros a b image zone (omega (arith, conv)) (omega (arith, blocks)) w) [
        | inl stays ↦ inl stays
        | inr none ↦ inr (bad, none)
      ];
    }

-- where a block of a set stands
set_place : (g : Shape) (first i : ℕ) (a : Image) → a.geometry ≡ g
    → set_block a first i ≡ block_at a (first + i / g.zone_blocks) (i % g.zone_blocks)
set_place g first i a shape = ap (λ (s : Shape). block_at a (first + i / s.zone_blocks) (i % s.zone_blocks)) shape

pub part_block : (g : Shape) (first i : ℕ) (bytes : List ℕ) (a b : Image) → a.geometry ≡ g → IsImage a → 0 < g.zone_blocks
    → first + i / g.zone_blocks < g.conv → length (blocks_of bytes i 1) ≡ 4096
    → WrotePart (first + i / g.zone_blocks) (8 * (i % g.zone_blocks)) (blocks_of bytes i 1) a b
    → HasPartOfBlocks g first i (i + 1) bytes a b
part_block g first i bytes a b shape image some inside size w =
    let conv = ap (λ (s : Shape). s.conv) shape in
    let blocks = ap (λ (s : Shape). s.zone_blocks) shape in
    let zone : ℕ = first + i / g.zone_blocks in
    let x : ℕ = i % g.zone_blocks in
    let now = ap has_magic (set_place g first i b (w.geometry ∙ shape)) in
    record {
      only = only_more (λ z k. (z ≡ first + i / g.zone_blocks) × (k ≡ i % g.zone_blocks)) (InSet g first i (i + 1)) a b
          (λ z k p. (i, omega arith, omega arith, p.0, p.1))
          (mixed_only a b zone x 8 (blocks_of bytes i 1) image (omega (arith, conv)) (omega (arith, blocks)) size (omega arith) w);
      marks = λ k above below. subst (λ (n : ℕ). HasMagicOf (set_block b first n) (set_block a first n) (blocks_of bytes n 1))
          (let e : i ≡ k = omega arith in e)
          (elim (mixed_mark a b image zone x (blocks_of bytes i 1) (omega (arith, conv)) (omega (arith, blocks)) w size) [
            | inl before ↦ inl (now ∙ before ∙ ap has_magic (sym (set_place g first i a shape)))
            | inr put ↦ inr (now ∙ put)
          ]);
    }

pub part_super : (g : Shape) (c : Choice) (end : ℕ) (a b : Image) → a.geometry ≡ g → IsImage a → IsImage b → c.other < g.conv
    → 0 < g.zone_blocks → HasBlock (head_at g c.other c.head) → IsReady c end a
    → WrotePart c.other 0 (block_of (head_at g c.other c.head)) a b → HasPartOfSuper g c a b
part_super g c end a b shape first second low some sizes ready w = record {
  only = only_more (λ z k. (z ≡ c.other) × (k ≡ 0)) (InSet g c.other 0 1) a b (at_front g c.other)
      (mixed_only a b c.other 0 8 (block_of (head_at g c.other c.head)) first (omega (arith, conv)) (omega (arith, blocks))
      (spells (head_at g c.other c.head) sizes).bytes.count (omega arith) w);
  super = by_good c.other_good refl;
}
  where
    conv : a.geometry.conv ≡ g.conv
    conv = ap (λ (s : Shape). s.conv) shape

    blocks : a.geometry.zone_blocks ≡ g.zone_blocks
    blocks = ap (λ (s : Shape). s.zone_blocks) shape

    own : c.other * g.zone_blocks ≡ c.other * b.geometry.zone_blocks
    own = ap (λ (s : Shape). c.other * s.zone_blocks) (sym (w.geometry ∙ shape))

    by_good : (v : Bool) → c.other_good ≡ v → (block_at b c.other 0 ≡ block_at a c.other 0)
        ⊎ ((c.other_good ≡ false) × (good_super b c.other ≡ None))
        ⊎ (good_super b c.other ≡ Some (head_at g c.other c.head))
    by_good true e = elim (mixed_over_good a b first second c.other (head_at g c.other c.head) (omega (arith, conv)) (omega (arith, blocks)) sizes own w (ready.good e)) [
      | inl stays ↦ inl stays
      | inr put ↦ inr (inr put)
    ]
    by_good false e = elim (mixed_over_zeros a b first second c.other (head_at g c.other c.head) (omega (arith, conv)) (omega (arith, blocks)) sizes own w (ready.zeros e)) [
      | inl none ↦ inr (inl (e, none))
      | inr put ↦ inr (inr put)
    ]

-- a block before or behind others doesn't stand at the place of one of them
pub outside : (g : Shape) (first from end k : ℕ) → 0 < g.zone_blocks → (k < from) ⊎ (end ≤ k)
    → InSet g first from end (first + k / g.zone_blocks) (k % g.zone_blocks) → ⊥
outside g first from end k some out at =
    let one = same_place g.zone_blocks k at.0 some (omega (arith, at.3)) at.4 in
    elim out [ inl before ↦ absurd (omega (arith, at.1, one)) | inr behind ↦ absurd (omega (arith, at.2, one)) ]

-- part of some of the blocks
pub part_of_more : (g : Shape) (first from end : ℕ) (bytes : List ℕ) → 0 < g.zone_blocks
    → ((k : ℕ) → k < end → first + k / g.zone_blocks < g.conv) → (low high : ℕ) → from ≤ low → high ≤ end
    → (a b : Image) → a.geometry ≡ g → HasPartOfBlocks g first low high bytes a b → HasPartOfBlocks g first from end bytes a b
part_of_more g first from end bytes some inside low high least most a b shape part = record {
  only = only_more (InSet g first low high) (InSet g first from end) a b
      (λ z x p. (p.0, omega (arith, p.1), omega (arith, p.2), p.3, p.4)) part.only;
  marks = λ k above below. elim (cases_lt k low) [
    | inl before ↦ inl (ap has_magic (set_still g first (InSet g first low high) a b some shape part.only k (inside k below)
        (outside g first low high k some (inl before))))
    | inr on ↦ elim (cases_lt k high) [
      | inl within ↦ part.marks k on within
      | inr past ↦ inl (ap has_magic (set_still g first (InSet g first low high) a b some shape part.only k (inside k below)
          (outside g first low high k some (inr past))))
    ]
  ];
}

-- steps that are done in part, one after another, are done in part
pub blocks_way : (g : Shape) (first from end : ℕ) (bytes : List ℕ) → 0 < g.zone_blocks
    → ((k : ℕ) → k < end → first + k / g.zone_blocks < g.conv) → IsWay g (HasPartOfBlocks g first from end bytes)
blocks_way g first from end bytes some inside = record {
  same = λ d i image shape same. record {
    only = same_only (InSet g first from end) d i image same;
    marks = λ k above below. inl (ap has_magic
        (set_still g first (λ _ _. ⊥) d i some shape (same_only (λ _ _. ⊥) d i image same) k (inside k below) (λ none. none)));
  };
  then = λ a b c h k. record {
    only = only_then (InSet g first from end) a b c h.only k.only;
    marks = λ n above below. elim (k.marks n above below) [
      | inl stays ↦ elim (h.marks n above below) [
        | inl before ↦ inl (stays ∙ before)
        | inr put ↦ inr (stays ∙ put)
      ]
      | inr put ↦ inr put
    ];
  };
}

pub clear_way : (g : Shape) (zone : ℕ) (good : Bool) → zone < g.conv → 0 < g.zone_blocks → IsWay g (IsPartCleared g zone good)
clear_way g zone good low some = record {
  same = λ d i image shape same. (
      let conv = ap (λ (s : Shape). s.conv) shape in
      let blocks = ap (λ (s : Shape). s.zone_blocks) shape in
      record {
        only = same_only (InSet g zone 0 1) d i image same;
        super = inl (same_block d i image same zone 0 (omega (arith, conv)) (omega (arith, blocks)));
      });
  then = λ a b c h k. record {
    only = only_then (InSet g zone 0 1) a b c h.only k.only;
    super = elim k.super [
      | inl stays ↦ elim h.super [
        | inl before ↦ inl (stays ∙ before)
        | inr bad ↦ inr (bad.0, same_good b c zone k.only.geometry stays ∙ bad.1)
      ]
      | inr bad ↦ inr bad
    ];
  };
}

pub super_way : (g : Shape) (c : Choice) → c.other < g.conv → 0 < g.zone_blocks → IsWay g (HasPartOfSuper g c)
super_way g choice low some = record {
  same = λ d i image shape same. (
      let conv = ap (λ (s : Shape). s.conv) shape in
      let blocks = ap (λ (s : Shape). s.zone_blocks) shape in
      record {
        only = same_only (InSet g choice.other 0 1) d i image same;
        super = inl (same_block d i image same choice.other 0 (omega (arith, conv)) (omega (arith, blocks)));
      });
  then = λ a b c h k. record {
    only = only_then (InSet g choice.other 0 1) a b c h.only k.only;
    super = elim k.super [
      | inl stays ↦ elim h.super [
        | inl before ↦ inl (stays ∙ before)
        | inr other ↦ elim other [
          | inl bad ↦ inr (inl (bad.0, same_good b c choice.other k.only.geometry stays ∙ bad.1))
          | inr put ↦ inr (inr (same_good b c choice.other k.only.geometry stays ∙ put))
        ]
      ]
      | inr other ↦ inr other
    ];
  };
}

module _ (g : Shape) (choice : Choice) (bytes : List ℕ) (placed : IsPlacedChoice g choice) (some : 0 < g.zone_blocks) where
  -- a block behind the super block stays, where that alone changes
  behind_front : (a b : Image) → a.geometry ≡ g → OnlyAt (InSet g choice.other 0 1) a b → (k : ℕ) → 1 ≤ k
      → k < used_blocks g choice.head.layout → set_block b choice.other k ≡ set_block a choice.other k
  behind_front a b shape only k above below =
      set_still g choice.other (InSet g choice.other 0 1) a b some shape only k (there_inside g choice bytes placed some k below)
      (outside g choice.other 0 1 k some (inr above))

  -- the super block, after the first two steps
  front_super : (a b c : Image) → a.geometry ≡ g → IsPartCleared g choice.other choice.other_good a b
      → HasPartOfBlocks g choice.other 1 (used_blocks g choice.head.layout) bytes b c
      → (block_at c choice.other 0 ≡ block_at a choice.other 0)
      ⊎ ((choice.other_good ≡ false) × (good_super c choice.other ≡ None))
  front_super a b c shape clear part =
      let front : block_at c choice.other 0 ≡ block_at b choice.other 0 =
      sym (first_block c choice.other)
      ∙ set_still g choice.other (InSet g choice.other 1 (used_blocks g choice.head.layout)) b c some (clear.only.geometry ∙ shape) part.only 0
      (there_inside g choice bytes placed some 0 (omega arith)) (outside g choice.other 1 (used_blocks g choice.head.layout) 0 some (inl (omega arith)))
      ∙ first_block b choice.other in
      elim clear.super [
        | inl stays ↦ inl (front ∙ stays)
        | inr bad ↦ inr (bad.0, same_good b c choice.other part.only.geometry front ∙ bad.1)
      ]

  pub way_cleared : (a b : Image) → a.geometry ≡ g → IsPartCleared g choice.other choice.other_good a b
      → IsOnTheWay g choice (used_blocks g choice.head.layout) a b
  way_cleared a b shape clear = record {
    only = only_more (InSet g choice.other 0 1) (InSet g choice.other 0 (used_blocks g choice.head.layout)) a b
        (λ z x p. (p.0, p.1, omega (arith, p.2), p.3, p.4)) clear.only;
    super = elim clear.super [ inl stays ↦ inl stays | inr bad ↦ inr (inl bad) ];
    marks = λ k above below. inl (ap has_magic (behind_front a b shape clear.only k above below));
  }

  pub way_copied : (a b c : Image) → a.geometry ≡ g → AreBlocks a choice.zone (used_blocks g choice.head.layout) bytes
      → IsPartCleared g choice.other choice.other_good a b
      → HasPartOfBlocks g choice.other 1 (used_blocks g choice.head.layout) bytes b c
      → IsOnTheWay g choice (used_blocks g choice.head.layout) a c
  way_copied a b c shape blocks clear part = record {
    only = only_then (InSet g choice.other 0 (used_blocks g choice.head.layout)) a b c
        (only_more (InSet g choice.other 0 1) (InSet g choice.other 0 (used_blocks g choice.head.layout)) a b
        (λ z x p. (p.0, p.1, omega (arith, p.2), p.3, p.4)) clear.only)
        (only_more (InSet g choice.other 1 (used_blocks g choice.head.layout)) (InSet g choice.other 0 (used_blocks g choice.head.layout)) b c
        (λ z x p. (p.0, omega arith, p.2, p.3, p.4)) part.only);
    super = elim (front_super a b c shape clear part) [ inl stays ↦ inl stays | inr bad ↦ inr (inl bad) ];
    marks = λ k above below. elim (part.marks k above below) [
      | inl stays ↦ inl (stays ∙ ap has_magic (behind_front a b shape clear.only k above below))
      | inr put ↦ inr (put ∙ ap has_magic (blocks.each k below))
    ];
  }

  pub way_put : (a b c d : Image) → a.geometry ≡ g → AreBlocks a choice.zone (used_blocks g choice.head.layout) bytes
      → IsPartCleared g choice.other choice.other_good a b
      → HasSetBlocks g choice.other 1 (used_blocks g choice.head.layout) bytes b c → HasPartOfSuper g choice c d
      → IsOnTheWay g choice (used_blocks g choice.head.layout) a d
  way_put a b c d shape blocks clear copied put =
      let part = done_blocks g choice.other 1 (used_blocks g choice.head.layout) bytes b c copied in
      let here = copied.only.geometry ∙ clear.only.geometry ∙ shape in
      let its : (k : ℕ) → 1 ≤ k → k < used_blocks g choice.head.layout → set_block d choice.other k ≡ set_block a choice.zone k = λ k above below.
      behind_front c d here put.only k above below ∙ copied.each k above below ∙ blocks.each k below in
      record {
        only = only_then (InSet g choice.other 0 (used_blocks g choice.head.layout)) a c d
            (way_copied a b c shape blocks clear part).only
            (only_more (InSet g choice.other 0 1) (InSet g choice.other 0 (used_blocks g choice.head.layout)) c d
            (λ z x p. (p.0, p.1, omega (arith, p.2), p.3, p.4)) put.only);
        super = elim put.super [
          | inl stays ↦ elim (front_super a b c shape clear part) [
            | inl before ↦ inl (stays ∙ before)
            | inr bad ↦ inr (inl (bad.0, same_good c d choice.other put.only.geometry stays ∙ bad.1))
          ]
          | inr other ↦ elim other [
            | inl bad ↦ inr (inl bad)
            | inr good ↦ inr (inr (good, its))
          ]
        ];
        marks = λ k above below. inr (ap has_magic (its k above below));
      }

-- what holds all the way
abbrev pub HoldsOnTheWay : Shape → Choice → (Image → Image → Type 0) → Type 0
HoldsOnTheWay g c P = (old new : Image) → old.geometry ≡ g → IsImage old → IsImage new → IsChoice c old
    → IsOnTheWay g c (used_blocks g c.head.layout) old new → P old new

-- a volume is kept
pub way_keeps : (g : Shape) (c : Choice) → IsShape g → IsPlacedChoice g c → HoldsOnTheWay g c (KeepsVolume (chosen_of c))
way_keeps g c shape placed old new same first second choice way =
    keeps_volume c old new first second (subst IsShape (sym same) shape) (subst (λ (h : Shape). IsPlacedChoice h c) (sym same) placed) choice
    (subst (λ (h : Shape). IsOnTheWay h c (used_blocks h c.head.layout) old new) (sym same) way)

-- and so is the choice, whatever the tables are
pub way_chooses : (g : Shape) (c : Choice) → IsShape g → IsPlacedChoice g c
    → HoldsOnTheWay g c (ChoosesSame (chosen_of c) (used_blocks g c.head.layout))
way_chooses g c shape placed old new same first second choice way =
    subst (λ (h : Shape). ChoosesSame (chosen_of c) (used_blocks h c.head.layout) old new) same
    (chooses_same c old new (subst IsShape (sym same) shape) (subst (λ (h : Shape). IsPlacedChoice h c) (sym same) placed) choice
    (subst (λ (h : Shape). IsOnTheWay h c (used_blocks h c.head.layout) old new) (sym same) way))
