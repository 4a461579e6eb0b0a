-- The patterns of the first sectors stand in their places, and all other sectors are as they were.
use Rattle.std.proofs.Common.{◌≡◌, ◌⊎◌, ℕ, ◌+◌, ◌<◌, ◌≤◌, length}
use Rattle.zd_disk.specs.Steps.{piece}
use Rattle.zd_model.specs.Plain.{pattern}
use Rattle.zd_state.proofs.filling.put_patterns.Given as goal

abbrev pub invariant-loop-i : goal.invariant-loop-i
invariant-loop-i l =
    (length l.out ≡ length l.initial.out)
    × ((j : ℕ) → j < l.i → piece l.out (l.at + j) ≡ pattern l.seed (l.sector + j))
    × ((j : ℕ) → (j < l.at) ⊎ (l.at + l.i ≤ j) → piece l.out j ≡ piece l.initial.out j)
