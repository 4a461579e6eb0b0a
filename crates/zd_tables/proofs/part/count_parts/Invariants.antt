-- Each block so far is counted.
use Rattle.std.proofs.Common.{◌≡◌, ℕ, ◌+◌, ◌<◌, length}
use Rattle.zd_sets.specs.Blocks.{blocks_of}
use Rattle.zd_tables.specs.Counts.{IsCounted, count_at}
use Rattle.zd_tables.proofs.part.count_parts.Given as goal

abbrev pub invariant-loop-i : goal.invariant-loop-i
invariant-loop-i l = (l.first + length l.counts.items ≡ l.i)
    × ((k : ℕ) → l.first + k < l.i → IsCounted (blocks_of l.blocks (l.first + k) 1) l.bits
    (count_at l.counts.items k))
