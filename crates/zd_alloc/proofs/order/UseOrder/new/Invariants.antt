-- The chunks before the next one stand in the ring.
use Rattle.std.proofs.Common.{◌≡◌}
use Rattle.std.specs.List.{range_with_len}
use Rattle.zd_alloc.specs.Links.{end_of, IsRing}
use Rattle.zd_alloc.proofs.order.UseOrder.new.Given as goal

abbrev pub invariant-loop-chunk : goal.invariant-loop-chunk
invariant-loop-chunk l = record {
  end : end_of l.links ≡ l.chunks;
  ring : IsRing l.links (range_with_len 0 l.chunk);
}
