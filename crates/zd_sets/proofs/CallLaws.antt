-- How many writing calls the steps make, one after another.
use Rattle.std.proofs.Common.{◌≡◌, Option, is_some, Some, ℕ, ◌+◌, ◌-◌, ◌/◌, ◌<◌, ◌≤◌, Bool, false, true≢false, not, cond, List, [], sum_by, count_by, sum, sym, ap, ap₂, ◌∙◌, inl, inr, arith}
use Rattle.std.specs.List.{range_with_len}
use Rattle.std.specs.Str.{bytes_eq}
use Rattle.std.proofs.lemmas.Bool.{cases_Bool}
use Rattle.std.proofs.lemmas.List.Sums.{sum-map}
use Rattle.std.proofs.lemmas.Slice.Eq.{bytes_eq-Decides}
use Rattle.zd_base.specs.Geometry.{Shape}
use Rattle.zd_base.specs.Layout.{used_blocks}
use Rattle.zd_model.specs.Image.{Image, IsImage, Same, set_block}
use Rattle.zd_model.specs.declared.metadata.Super.{Super}
use Rattle.zd_model.proofs.SameLaws.{same_block, same_map}
use Rattle.zd_disk.specs.Told.{WhereTold}
use Rattle.zd_disk.specs.View.{View, Made, MadeOf, Turns}
use Rattle.zd_disk.proofs.RunLaws.{count_then}
use Rattle.zd_disk.proofs.ViewLaws.{read_as, turned}
use Rattle.zd_sets.specs.Blocks.{AreBlocks, blocks_of}
use Rattle.zd_sets.specs.Calls.{clear_calls, differ, differing, differing_from, equal_calls, passing}
use Rattle.zd_sets.specs.Choice.{IsChoice, IsPlacedChoice}
use Rattle.zd_sets.specs.declared.choice.Chosen.{Chosen as Choice}
use Rattle.zd_sets.specs.Equal.{HasSetBlocks, InSet, IsCleared}
use Rattle.zd_sets.proofs.EqualLaws.{here_inside, same_good, same_only, set_still, there_inside}
use Rattle.zd_sets.proofs.WayLaws.{outside}

sum_same : (f h : ℕ → ℕ) (a n : ℕ) → ((k : ℕ) → a ≤ k → k < a + n → f k ≡ h k) → sum_by f (range_with_len a n) ≡ sum_by h (range_with_len a n)
sum_same f h a n same =
    sym (sum-map f (range_with_len a n)) ∙ ap sum (same_map f h a n same) ∙ sum-map h (range_with_len a n)

-- a count by a test that answers the same
pub passing_same : (p q : ℕ → Bool) (from end : ℕ) → ((k : ℕ) → from ≤ k → k < end → p k ≡ q k) → passing p from end ≡ passing q from end
passing_same p q from end same =
    sum_same (λ k. cond (p k) 1 0) (λ k. cond (q k) 1 0) from (end - from)
    (λ k low high. ap {B = ℕ} (λ (b : Bool). cond b 1 0) (same k low (omega arith)))

-- one block alone
pub passing_one : (p : ℕ → Bool) (i : ℕ) → passing p i (i + 1) ≡ cond (p i) 1 0
passing_one p i =
    ap (λ (n : ℕ). count_by p (range_with_len i n)) (let e : i + 1 - i ≡ 1 = omega arith in e)
    ∙ (let e : 0 + cond (p i) 1 0 ≡ cond (p i) 1 0 = omega arith in e)

-- blocks that a comparison tells apart differ
pub differ_by : (there block : List ℕ) → bytes_eq block there ≡ false → ◌≡◌ {A = ℕ} (cond (differ there block) 1 0) 1
differ_by there block other = elim (cases_Bool (bytes_eq there block)) [
  | inl e ↦ absurd (true≢false (sym ((bytes_eq-Decides block there).1 (sym ((bytes_eq-Decides there block).0 e))) ∙ other))
  | inr e ↦ ap {B = ℕ} (λ (b : Bool). cond (not b) 1 0) e
]

-- blocks that were compared, and then those after them
pub counted_then : {g : Shape} {first from m end : ℕ} {bytes : List ℕ} {u v w : View}
    → 0 < g.zone_blocks → from ≤ m → m ≤ end → ((k : ℕ) → k < end → first + k / g.zone_blocks < g.conv) → v.calls ≤ w.calls
    → u.told ≡ Some g → Turns (HasSetBlocks g first from m bytes) u v → MadeOf (differing_from bytes first from m) u v
    → MadeOf (differing_from bytes first m end) v w → MadeOf (differing_from bytes first from end) u w
counted_then {g} {first} {from} {m} {end} {bytes} {u} {v} {w} some low high inside later told copied before here = record {
  number_is = λ few image e. (
      let there = turned copied image e in
      let same = passing_same (λ k. differ (set_block there.0 first k) (blocks_of bytes k 1))
      (λ k. differ (set_block image first k) (blocks_of bytes k 1)) m end (λ k above below.
      ap (λ (block : List ℕ). differ block (blocks_of bytes k 1))
      (set_still g first (InSet g first from m) image there.0 some (read_as {v = u} told image e).geometry there.2.only k (inside k below)
      (outside g first from m k some (inr above)))) in
      let all = count_then (λ k. differ (set_block image first k) (blocks_of bytes k 1)) from m end low high in
      omega (arith, before.number_is (omega (arith, few, later)) image e, here.number_is few there.0 there.1, same, all));
}

-- and a flush
pub counted_flush : {number : Image → ℕ} {u v w : View} → v.calls ≤ w.calls → MadeOf number u v → Made 1 v w
    → MadeOf (λ image. number image + 1) u w
counted_flush {number} {u} {v} {w} order before one = record {
  number_is = λ low image e.
      omega (arith, before.number_is (omega (arith, low, order)) image e, one.number_is low, low, order);
}

module _ (g : Shape) (choice : Choice) (placed : IsPlacedChoice g choice) (some : 0 < g.zone_blocks) where
  -- the blocks behind the first, as they read once the super block is cleared
  differing_cleared : (bytes : List ℕ) (a b : Image) → a.geometry ≡ g → AreBlocks a choice.zone (used_blocks g choice.head.layout) bytes
      → IsCleared g choice.other choice.other_good a b
      → differing_from bytes choice.other 1 (used_blocks g choice.head.layout) b ≡ differing choice (used_blocks g choice.head.layout) a
  differing_cleared bytes a b shape blocks clear =
      passing_same (λ k. differ (set_block b choice.other k) (blocks_of bytes k 1)) (λ k. differ (set_block a choice.other k) (set_block a choice.zone k)) 1 (used_blocks g choice.head.layout)
      (λ k low high. ap₂ differ
      (set_still g choice.other (InSet g choice.other 0 1) a b some shape clear.only k (there_inside g choice [] placed some k high)
      (outside g choice.other 0 1 k some (inr low)))
      (blocks.each k high))

  -- the three steps, one after another
  pub counted_equal : {bytes : List ℕ} {s t u v : View} → s.told ≡ Some g → t.calls ≤ u.calls → u.calls ≤ v.calls
      → WhereTold s.zones (IsChoice choice)
      → WhereTold s.zones (λ image. AreBlocks image choice.zone (used_blocks g choice.head.layout) bytes)
      → Turns (IsCleared g choice.other choice.other_good) s t → Made (clear_calls choice.other_good) s t
      → MadeOf (λ image. differing_from bytes choice.other 1 (used_blocks g choice.head.layout) image + 1) t u
      → Made 2 u v → MadeOf (equal_calls choice (used_blocks g choice.head.layout)) s v
  counted_equal {bytes} {s} {t} {u} {v} told later last chosen blocks cleared one two three = record {
    number_is = λ low image e. (
        let there = turned cleared image e in
        let same = differing_cleared bytes image there.0 (read_as {v = s} told image e).geometry (blocks image e) there.2 in
        let clear = ap clear_calls (chosen image e).other_good in
        omega (arith, one.number_is (omega (arith, low, later, last)), two.number_is (omega (arith, low, last)) there.0 there.1, three.number_is low, same, clear));
  }

  -- an image that holds the same needs as many
  pub equal_calls_same : (a b : Image) → a.geometry ≡ g → IsImage a → Same a b
      → equal_calls choice (used_blocks g choice.head.layout) b ≡ equal_calls choice (used_blocks g choice.head.layout) a
  equal_calls_same a b shape image same =
      let only = same_only (λ _ _. ⊥) a b image same in
      let conv = ap (λ (s : Shape). s.conv) shape in
      let blocks = ap (λ (s : Shape). s.zone_blocks) shape in
      let low = placed.other in
      ap₂ (λ (o : Option Super) (n : ℕ). clear_calls (is_some o) + n + 3)
      (same_good a b choice.other same.geometry (same_block a b image same choice.other 0 (omega (arith, conv)) (omega (arith, blocks))))
      (passing_same (λ k. differ (set_block b choice.other k) (set_block b choice.zone k)) (λ k. differ (set_block a choice.other k) (set_block a choice.zone k)) 1 (used_blocks g choice.head.layout)
      (λ k low high. ap₂ differ
      (set_still g choice.other (λ _ _. ⊥) a b some shape only k (there_inside g choice [] placed some k high) (λ none. none))
      (set_still g choice.zone (λ _ _. ⊥) a b some shape only k (here_inside g choice [] placed some k high) (λ none. none))))
