use Rattle.std.proofs.Common.{◌≡◌, drop, length, take}
use Rattle.zd_open.specs.OpenedVolume.{in_blocks}
use Rattle.zd_open.proofs.opening.in_blocks.Given as goal

abbrev pub invariant-loop-i : goal.invariant-loop-i
invariant-loop-i l =
    (length l.pointers.items ≡ length l.fn.pointers.items)
    × (take l.i l.pointers.items ≡ in_blocks (take l.i l.fn.pointers.items))
    × (drop l.i l.pointers.items ≡ drop l.i l.fn.pointers.items)
