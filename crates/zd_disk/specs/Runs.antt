-- Runs of blocks, each moved by one call.
use Rattle.std.specs.Prelude.{ℕ, ◌-◌, ◌/◌, ◌%◌, ◌==◌, max, Bool, List, length, count_by}
use Rattle.std.specs.List.{range_with_len}
use Rattle.zd_base.specs.Geometry.{Shape}

-- how many blocks these bytes are
abbrev pub blocks_in : List ℕ → ℕ
blocks_in bytes = length bytes / 4096

-- of the blocks from block `from` on, counted from the start of a zone, a run begins with the first
-- one and with the first of each zone, and 32 blocks after each such one in its zone
abbrev pub starts_run : Shape → ℕ → ℕ → Bool
starts_run g from k = (k - max from (k - k % g.zone_blocks)) % 32 == 0

-- how many runs the blocks from block `from` up to block `end` are
abbrev pub run_count : Shape → ℕ → ℕ → ℕ
run_count g from end = count_by (starts_run g from) (range_with_len from (end - from))
