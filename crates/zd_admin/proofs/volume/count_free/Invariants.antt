-- those of the zones so far
use Rattle.std.proofs.Common.{◌≡◌, count_by, not, take}
use Rattle.std.specs.List.{slice_range}
use Rattle.zd_admin.proofs.volume.count_free.Given as goal

abbrev pub invariant-loop-is_named : goal.invariant-loop-is_named
invariant-loop-is_named l = l.free ≡ count_by not (take l.is_named-index (slice_range l.named l.from l.end))
