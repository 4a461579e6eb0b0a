-- those of the chunks so far
use Rattle.std.proofs.Common.{◌≡◌, map}
use Rattle.std.specs.List.{range_with_len}
use Rattle.zd_tables.specs.Tables.{entry_in_blocks}
use Rattle.zd_admin.specs.Shown.{buffered_chunks, mapped_chunks}
use Rattle.zd_admin.proofs.volume.count_chunks.Given as goal

abbrev pub invariant-loop-chunk : goal.invariant-loop-chunk
invariant-loop-chunk l = record {
  mapped : l.mapped ≡ mapped_chunks (map (entry_in_blocks l.blocks) (range_with_len 0 l.chunk));
  buffered : l.buffered ≡ buffered_chunks (map (entry_in_blocks l.blocks) (range_with_len 0 l.chunk));
}
