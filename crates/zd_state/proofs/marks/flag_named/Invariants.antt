use Rattle.std.proofs.Common.{◌≡◌, ◌↔◌, ◌<◌, ℕ, true, false, get_or, length}
use Rattle.zd_alloc.specs.Zones.{use_at}
use Rattle.zd_alloc.specs.declared.uses.ZoneUse.TheVariants.{Held}
use Rattle.zd_volume.specs.Uses.{IsMoved}
use Rattle.zd_state.proofs.marks.flag_named.Given as goal

abbrev pub invariant-loop-zone : goal.invariant-loop-zone
invariant-loop-zone l =
    (length l.named ≡ length l.fn.named)
    × ((z : ℕ) → z < l.zone → (get_or l.named z false ≡ true) ↔ ((use_at l.alloc.zones z ≡ Held) × (IsMoved l.job z → ⊥)))
