-- Each chunk is put after those before it.
use Rattle.std.proofs.Common.{◌≡◌, ℕ, List, sym, subst, ◌∙◌, arith}
use Rattle.std.specs.List.{range_with_len}
use Rattle.zd_alloc.specs.Links.{IsRing}
use Rattle.zd_alloc.proofs.OrderLaws.{range_more, times_past}
use Rattle.zd_alloc.proofs.UseOrderLaws.{started}
use Rattle.zd_alloc.proofs.order.UseOrder.new.Goals as goal

pub loop-chunk-preserved : goal.loop-chunk-preserved
loop-chunk-preserved c =
    let i = c.loop-chunk.chunk in
    record {
      end = c.append.ensures.end ∙ c.loop-chunk.invariant.end;
      ring = subst (λ (xs : List ℕ). IsRing c.append.new.self xs) (sym (range_more i))
          (c.append.ensures.ring (range_with_len 0 i) c.loop-chunk.invariant.ring (times_past i 0 i (omega arith)));
    }

pub invariant_of-result : goal.invariant_of-result
invariant_of-result c =
    let all : c.loop-chunk.chunk ≡ c.args.chunks = omega (arith, c.loop-chunk-test.false, c.loop-chunk.auto.chunk-end) in
    let ring = subst (λ (n : ℕ). IsRing c.loop-chunk.links (range_with_len 0 n)) all c.loop-chunk.invariant.ring in
    (started c.loop-chunk.links c.args.chunks ring c.loop-chunk.invariant.end c.requires.some).whole

pub returns : goal.returns
returns c =
    let all : c.loop-chunk.chunk ≡ c.args.chunks = omega (arith, c.loop-chunk-test.false, c.loop-chunk.auto.chunk-end) in
    let ring = subst (λ (n : ℕ). IsRing c.loop-chunk.links (range_with_len 0 n)) all c.loop-chunk.invariant.ring in
    (started c.loop-chunk.links c.args.chunks ring c.loop-chunk.invariant.end c.requires.some).is
