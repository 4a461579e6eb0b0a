-- All chunks are the disk's.
use Rattle.std.proofs.Common.{◌≡◌}
use Rattle.bench_alloc.proofs.enter_all.Given as goal

abbrev pub invariant-loop-chunk : goal.invariant-loop-chunk
invariant-loop-chunk l = l.chunk-end ≡ l.volume.chunks
