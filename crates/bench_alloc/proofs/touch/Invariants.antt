-- The next chunk is one of the disk's.
use Rattle.std.proofs.Common.{◌≡◌, ◌<◌}
use Rattle.bench_alloc.proofs.touch.Given as goal

abbrev pub invariant-loop : goal.invariant-loop
invariant-loop l = record { inside : l.chunk < l.chunks; all : l.chunks ≡ l.volume.chunks }
