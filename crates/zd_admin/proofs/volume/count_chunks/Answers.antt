use Rattle.std.proofs.Common.{arith}
use Rattle.std.specs.Option.{is_some}
use Rattle.zd_tables.specs.Tables.{entry_in_blocks}
use Rattle.zd_admin.proofs.ShownLaws.{counted_low, counted_more, one_low}
use Rattle.zd_admin.proofs.volume.count_chunks.Goals as goal

pub overflow_add-mapped : goal.overflow_add-mapped
overflow_add-mapped c =
    let low = counted_low (λ e. is_some e.zone) (entry_in_blocks c.args.blocks.now) c.loop-chunk.chunk c.loop-chunk.mapped c.loop-chunk.invariant.mapped in
    let one = one_low c.is_some.result c.from-mapped.result c.from-mapped.ensures in
    let more = c.loop-chunk-test.true in
    record { fits = omega (arith, low, one, more) }

pub overflow_add-buffered : goal.overflow_add-buffered
overflow_add-buffered c =
    let low = counted_low (λ e. is_some e.buffer) (entry_in_blocks c.args.blocks.now) c.loop-chunk.chunk c.loop-chunk.buffered c.loop-chunk.invariant.buffered in
    let one = one_low c.is_some-in-loop-chunk.result c.from-buffered.result c.from-buffered.ensures in
    let more = c.loop-chunk-test.true in
    record { fits = omega (arith, low, one, more) }

pub loop-chunk-preserved : goal.loop-chunk-preserved
loop-chunk-preserved c = record {
  mapped = counted_more (λ e. is_some e.zone) (entry_in_blocks c.args.blocks.now) c.loop-chunk.chunk c.loop-chunk.mapped
      c.from-mapped.result c.is_some.result c.entry-entry.result c.loop-chunk.invariant.mapped
      c.from-mapped.ensures c.is_some.ensures c.entry-entry.ensures;
  buffered = counted_more (λ e. is_some e.buffer) (entry_in_blocks c.args.blocks.now) c.loop-chunk.chunk c.loop-chunk.buffered
      c.from-buffered.result c.is_some-in-loop-chunk.result c.entry-entry.result c.loop-chunk.invariant.buffered
      c.from-buffered.ensures c.is_some-in-loop-chunk.ensures c.entry-entry.ensures;
}
