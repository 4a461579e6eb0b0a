-- The stages of a set of one block behind its super block: the block is zeros before a commit and ones
-- after it.
use Rattle.std.proofs.Common.{◌≡◌, ◌==◌, ℕ, zero, suc, ◌<◌, ◌≤◌, ◌+◌, ◌⊎◌, cond, List, [], Some, get_or, replicate, inl, inr, refl, sym, ap, ◌∙◌, lit<, lit≤, arith}
use Rattle.zd_base.specs.Geometry.{Shape}
use Rattle.zd_model.specs.Image.{Image}
use Rattle.zd_model.specs.Volume.{good_super}
use Rattle.zd_model.specs.declared.metadata.Super.{Super}
use Rattle.zd_sets.specs.Equal.{head_at}
use Rattle.zd_sets.specs.Stages.{InStage, next_head, sector_in_set, sector_of_block}
use Rattle.zd_sets.specs.Stages.Stage.{Before, Mixed, Whole, After}
use Rattle.zd_sets.proofs.ChosenLaws.{one_is}

-- zones of one block, so that block 1 of the set in zone 1 stands in zone 2
abbrev tiny : Shape
tiny = record { zone_blocks = 1; conv = 6; seq = 0 }

abbrev zeros : List ℕ
zeros = replicate 8192 0

abbrev ones : List ℕ
ones = replicate 8192 1

for_block : (P : ℕ → ℕ → Type 0) → P 1 0 → P 1 1 → P 1 2 → P 1 3 → P 1 4 → P 1 5 → P 1 6 → P 1 7
    → (k j : ℕ) → 1 ≤ k → k < 2 → j < 8 → P k j
for_block P a b c d e f g h zero j above below few = absurd (omega (arith, above))
for_block P a b c d e f g h (suc zero) zero above below few = a
for_block P a b c d e f g h (suc zero) (suc zero) above below few = b
for_block P a b c d e f g h (suc zero) (suc (suc zero)) above below few = c
for_block P a b c d e f g h (suc zero) (suc (suc (suc zero))) above below few = d
for_block P a b c d e f g h (suc zero) (suc (suc (suc (suc zero)))) above below few = e
for_block P a b c d e f g h (suc zero) (suc (suc (suc (suc (suc zero))))) above below few = f
for_block P a b c d e f g h (suc zero) (suc (suc (suc (suc (suc (suc zero)))))) above below few = g
for_block P a b c d e f g h (suc zero) (suc (suc (suc (suc (suc (suc (suc zero))))))) above below few = h
for_block P a b c d e f g h (suc zero) (suc (suc (suc (suc (suc (suc (suc (suc j)))))))) above below few =
    absurd (omega (arith, few))
for_block P a b c d e f g h (suc (suc k)) j above below few = absurd (omega (arith, below))

-- the set with these sectors of its super block, and these of block 1
abbrev tiny_set : (ℕ → List ℕ) → (ℕ → List ℕ) → Image
tiny_set front block = record {
  geometry = tiny;
  held = λ z. 8;
  sector = λ z x. cond (z == 2) (block x) (front x);
}

-- as it was committed, and after the commit
abbrev old_set : (ℕ → List ℕ) → Image
old_set front = tiny_set front (λ x. replicate 512 0)

abbrev new_set : (ℕ → List ℕ) → Image
new_set front = tiny_set front (λ x. replicate 512 1)

-- sector 3 was written, and no other
abbrev torn : ℕ → List ℕ
torn x = replicate 512 (cond (x == 3) 1 0)

-- sector 3 was written with other bytes
abbrev strange : ℕ → List ℕ
strange x = replicate 512 (cond (x == 3) 2 0)

module _ (front : ℕ → List ℕ) (head : Super)
    (super : good_super (tiny_set front (λ x. [])) 1 ≡ Some (head_at tiny 1 head)) where
  committed : InStage Before tiny 1 2 head zeros ones (old_set front)
  committed = record {
    super = super;
    each = for_block (λ k j. sector_in_set tiny (old_set front) 1 k j ≡ sector_of_block zeros k j)
        refl refl refl refl refl refl refl refl;
  }

  cut_short : InStage Mixed tiny 1 2 head zeros ones (tiny_set front torn)
  cut_short = record {
    super = super;
    each = for_block (λ k j. (sector_in_set tiny (tiny_set front torn) 1 k j ≡ sector_of_block zeros k j)
        ⊎ (sector_in_set tiny (tiny_set front torn) 1 k j ≡ sector_of_block ones k j))
        (inl refl) (inl refl) (inl refl) (inr refl) (inl refl) (inl refl) (inl refl) (inl refl);
  }

  written : InStage Whole tiny 1 2 head zeros ones (new_set front)
  written = record {
    super = super;
    each = for_block (λ k j. sector_in_set tiny (new_set front) 1 k j ≡ sector_of_block ones k j)
        refl refl refl refl refl refl refl refl;
  }

  not_committed : InStage Before tiny 1 2 head zeros ones (tiny_set front torn) → ⊥
  not_committed h =
      let byte : 1 ≡ 0 =
      ap (λ (bytes : List ℕ). get_or bytes 0 9) (h.each 1 3 (lit≤ tt) (lit< tt) (lit< tt)) in
      absurd (omega (arith, byte))

  not_written : InStage Whole tiny 1 2 head zeros ones (tiny_set front torn) → ⊥
  not_written h =
      let byte : 0 ≡ 1 =
      ap (λ (bytes : List ℕ). get_or bytes 0 9) (h.each 1 4 (lit≤ tt) (lit< tt) (lit< tt)) in
      absurd (omega (arith, byte))

  not_between : InStage Mixed tiny 1 2 head zeros ones (tiny_set front strange) → ⊥
  not_between h = elim (h.each 1 3 (lit≤ tt) (lit< tt) (lit< tt)) [
    | inl old ↦
        let byte : 2 ≡ 0 = ap (λ (bytes : List ℕ). get_or bytes 0 9) old in
        absurd (omega (arith, byte))
    | inr new ↦
        let byte : 2 ≡ 1 = ap (λ (bytes : List ℕ). get_or bytes 0 9) new in
        absurd (omega (arith, byte))
  ]

  -- the head tells both from each other
  not_after : InStage After tiny 1 2 head zeros ones (new_set front) → ⊥
  not_after h =
      let one = one_is (head_at tiny 1 head) (head_at tiny 1 (next_head head)) (sym super ∙ h.super) in
      let same : head.generation ≡ head.generation + 1 = ap (λ (s : Super). s.generation) one in
      absurd (omega (arith, same))
