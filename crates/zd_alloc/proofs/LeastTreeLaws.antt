-- The tree of least numbers: what a mended node leaves, and that the root is the least of all.
use Rattle.std.proofs.Common.{◌≡◌, ◌≢◌, inl, inr, ℕ, zero, suc, ◌+◌, ◌-◌, ◌*◌, ◌/◌, ◌<◌, ◌≤◌, List, length, drop, slice_index, sym, ap, subst, ◌∙◌, arith}
use Rattle.std.proofs.lemmas.Bool.{cases_eq}
use Rattle.std.proofs.lemmas.List.{get_or-drop, length-drop}
use Rattle.std.proofs.Math.Nat.{min-le_left, min-le_right, le_trans}
use Rattle.zd_alloc.specs.declared.least_tree.TheConstants.{NEVER}
use Rattle.zd_alloc.specs.LeastTree.{least_under, IsLeastTree, IsLeastPlace, HasNoPlace}

-- each node is the least of the two under it, but this one
abbrev pub AreLeastBut : ℕ → ℕ → List ℕ → Type 0
AreLeastBut but count nodes = (j : ℕ) → 0 < j → j < count → j ≢ but → slice_index nodes j ≡ least_under nodes j

-- what stands under a node isn't less
child_above : (nodes : List ℕ) (j : ℕ) → slice_index nodes (j / 2) ≡ least_under nodes (j / 2) → slice_index nodes (j / 2) ≤ slice_index nodes j
child_above nodes j least =
    let left = slice_index nodes (2 * (j / 2)) in
    let right = slice_index nodes (2 * (j / 2) + 1) in
    elim (cases_eq j (2 * (j / 2))) [
      | inl e ↦ omega (arith, least, min-le_left left right, ap (slice_index nodes) e)
      | inr odd ↦
          let e : j ≡ 2 * (j / 2) + 1 = omega arith in
          omega (arith, least, min-le_right left right, ap (slice_index nodes) e)
    ]

root_within : (fuel : ℕ) (count : ℕ) (nodes : List ℕ) → IsLeastTree count nodes → (j : ℕ) → j ≤ fuel → 0 < j → j < 2 * count → slice_index nodes 1 ≤ slice_index nodes j
root_within zero count nodes is j less some inside = absurd (omega arith)
root_within (suc fuel) count nodes is j less some inside = elim (cases_eq j 1) [
  | inl e ↦ omega (arith, ap (slice_index nodes) e)
  | inr other ↦
      let up = root_within fuel count nodes is (j / 2) (omega arith) (omega arith) (omega arith) in
      le_trans up (child_above nodes j (is.least (j / 2) (omega arith) (omega arith)))
]

-- no place has a lesser number than the root
root_least : (count : ℕ) (nodes : List ℕ) → IsLeastTree count nodes → (place : ℕ) → place < count → slice_index nodes 1 ≤ slice_index (drop count nodes) place
root_least count nodes is place inside =
    let some = is.some in
    let least = root_within (count + place) count nodes is (count + place) (omega arith) (omega arith) (omega arith) in
    omega (arith, least, get_or-drop count nodes place 0)

-- so many places
places : (count : ℕ) (nodes : List ℕ) → IsLeastTree count nodes → length (drop count nodes) ≡ count
places count nodes is = omega (arith, length-drop count nodes, is.size)

pub no_place : (count : ℕ) (nodes : List ℕ) → IsLeastTree count nodes → NEVER ≤ slice_index nodes 1 → HasNoPlace (drop count nodes)
no_place count nodes is none place inside =
    le_trans none (root_least count nodes is place (omega (arith, inside, places count nodes is)))

-- a place that has the number of the root
pub least_place : (count : ℕ) (nodes : List ℕ) (i : ℕ) → IsLeastTree count nodes → slice_index nodes i ≡ slice_index nodes 1 → count ≤ i → i < 2 * count → slice_index nodes 1 < NEVER → IsLeastPlace (drop count nodes) (i - count)
least_place count nodes i is same past inside some =
    let size = places count nodes is in
    let at : count + (i - count) ≡ i = omega arith in
    let there : slice_index (drop count nodes) (i - count) ≡ slice_index nodes 1 =
    get_or-drop count nodes (i - count) 0 ∙ ap (slice_index nodes) at ∙ same in
    record {
      inside = omega (arith, size);
      some = subst (λ (x : ℕ). x < NEVER) (sym there) some;
      least = λ other less.
          subst (λ (x : ℕ). x ≤ slice_index (drop count nodes) other) (sym there)
          (root_least count nodes is other (omega (arith, less, size)));
    }
