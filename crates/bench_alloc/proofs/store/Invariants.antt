-- The next chunk is one of the disk's.
use Rattle.std.proofs.Common.{◌≡◌, ◌<◌}
use Rattle.bench_alloc.proofs.store.Given as goal

abbrev pub invariant-loop-round : goal.invariant-loop-round
invariant-loop-round l = record { inside : l.chunk < l.chunks; all : l.chunks ≡ l.volume.chunks }
