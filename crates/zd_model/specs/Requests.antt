-- What a request touches, and which of the four operations it is. All else is said of requests in these
-- words. A sector is one of the logical device, and a block is eight of them.
use Rattle.std.specs.Prelude.{ℕ, ◌+◌, ◌*◌, ◌/◌, ◌%◌}
use Rattle.zd_base.specs.Layout.{rounded_up}
use Rattle.zd_model.specs.declared.requests.What.{What}
use Rattle.zd_model.specs.declared.requests.What.TheVariants.{Read, Write, Discard, Flush}
use Rattle.zd_model.specs.declared.requests.What.TheVariants.{ReadSectors, WriteSectors}

-- the first sector; of a flush 0
abbrev pub first_sector : What → ℕ
first_sector (Read block count) = 8 * block
first_sector (Write block count seed) = 8 * block
first_sector (Discard block count) = 8 * block
first_sector Flush = 0
first_sector (ReadSectors sector count) = sector
first_sector (WriteSectors sector count seed) = sector

-- how many sectors; of a flush none
abbrev pub sector_count : What → ℕ
sector_count (Read block count) = 8 * count
sector_count (Write block count seed) = 8 * count
sector_count (Discard block count) = 8 * count
sector_count Flush = 0
sector_count (ReadSectors sector count) = count
sector_count (WriteSectors sector count seed) = count

-- the first block that is touched, in part or whole
abbrev pub first_block : What → ℕ
first_block what = first_sector what / 8

-- how many blocks are touched, in part or whole
abbrev pub block_count : What → ℕ
block_count what = rounded_up (first_sector what % 8 + sector_count what) 8

-- the same at other sectors. A form in blocks stays one in blocks, so its bounds are those of blocks
abbrev pub at_sectors : What → ℕ → ℕ → What
at_sectors (Read block count) first n = Read (first / 8) (n / 8)
at_sectors (Write block count seed) first n = Write (first / 8) (n / 8) seed
at_sectors (Discard block count) first n = Discard (first / 8) (n / 8)
at_sectors Flush first n = Flush
at_sectors (ReadSectors sector count) first n = ReadSectors first n
at_sectors (WriteSectors sector count seed) first n = WriteSectors first n seed

-- what is done
pub data Operation : Type 0 where
  Reading : Operation
  Writing : Operation
  Discarding : Operation
  Flushing : Operation

abbrev pub operation_of : What → Operation
operation_of (Read block count) = Reading
operation_of (Write block count seed) = Writing
operation_of (Discard block count) = Discarding
operation_of Flush = Flushing
operation_of (ReadSectors sector count) = Reading
operation_of (WriteSectors sector count seed) = Writing

-- only a flush touches no sectors
abbrev pub Moves : Operation → Type 0
Moves Flushing = ⊥
Moves operation = Unit {0}
