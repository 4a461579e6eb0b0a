-- The zones before zone i are as they start, the others are held.
use Rattle.std.proofs.Common.{◌≡◌, ℕ, ◌+◌, ◌<◌, ◌≤◌, false, length, get_or}
use Rattle.zd_alloc.specs.Zones.{use_at, use_at_start}
use Rattle.zd_alloc.specs.declared.uses.ZoneUse.TheVariants.{Held}
use Rattle.zd_alloc.proofs.alloc.started.Given as goal

abbrev pub invariant-loop-i : goal.invariant-loop-i
invariant-loop-i l = record {
  count : length l.zones ≡ l.count;
  before : (i : ℕ) → i < l.i → use_at l.zones i ≡ use_at_start l.first_data (get_or l.named (l.first + i) false) (l.first + i);
  held : (i : ℕ) → l.i ≤ i → i < l.count → use_at l.zones i ≡ Held;
}
