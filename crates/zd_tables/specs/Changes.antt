-- What a changed entry, or changed bits of a zone, make of the blocks of a set and of the tables.
use Rattle.std.specs.Prelude.{◌≡◌, ◌≢◌, ◌⊎◌, ◌↔◌, ℕ, ◌+◌, ◌*◌, ◌/◌, ◌<◌, ◌≤◌, Bool, not}
use Rattle.std.specs.Prelude.{false, IsTrue, List}
use Rattle.zd_base.specs.Geometry.{Shape, per}
use Rattle.zd_base.specs.Layout.{rounded_up}
use Rattle.zd_base.specs.declared.layout.Layout.{Layout}
use Rattle.zd_bits.specs.Bits.{GivesOnly, Tells}
use Rattle.zd_model.specs.Tables.{Tables, entry_of, is_valid}
use Rattle.zd_model.specs.declared.metadata.MapEntry.{MapEntry}
use Rattle.zd_sets.specs.Blocks.{blocks_of}
use Rattle.zd_sets.specs.Lending.{OnlyBlocks}
use Rattle.zd_tables.specs.Tables.{bits_in_blocks, entry_in_blocks, tables_in}
use Rattle.zd_tables.specs.declared.part.ChangedParts.{ChangedParts}

-- the block with the entry of a chunk
abbrev pub entry_block : ℕ → ℕ
entry_block chunk = 1 + chunk / 512

-- the first bitmap block of a zone
abbrev pub bits_block : Shape → Layout → ℕ → ℕ
bits_block g l zone = 1 + l.map_blocks + zone * per g

-- one chunk has this entry now: its block alone may have changed, and no other entry has
pub record SetsEntry (chunk : ℕ) (entry : MapEntry) (old new : List ℕ) : Type 0 where
  pub only : OnlyBlocks (entry_block chunk) (entry_block chunk + 1) old new
  pub here : entry_in_blocks new chunk ≡ entry
  pub others : (c : ℕ) → c ≢ chunk → entry_in_blocks new c ≡ entry_in_blocks old c

-- the bits of a zone's blocks from `from` on, below `end`, are so now: no other bit of its bitmap has
-- changed, also of those that belong to no block, and only blocks of the set that hold bits of the
-- range may have
pub record SetsBits (bit : Bool) (g : Shape) (l : Layout) (zone from end : ℕ) (old new : List ℕ)
    : Type 0 where
  pub only : OnlyBlocks (bits_block g l zone + from / 32768)
      (bits_block g l zone + rounded_up end 32768) old new
  pub bits : GivesOnly bit from end (bits_in_blocks g l old zone) (bits_in_blocks g l new zone)

-- the same of one block of the set, with the answer whether a bit wasn't so
pub record SetsPart (bit : Bool) (block from end : ℕ) (old new : List ℕ) (changed : Bool)
    : Type 0 where
  pub only : OnlyBlocks block (block + 1) old new
  pub bits : GivesOnly bit from end (blocks_of old block 1) (blocks_of new block 1)
  pub tells : Tells changed bit (blocks_of old block 1) from end
  pub same : changed ≡ false → blocks_of new block 1 ≡ blocks_of old block 1

-- of the tables: one chunk has this entry now, and all else is as it was
pub record ChangesEntry (chunk : ℕ) (entry : MapEntry) (old new : Tables) : Type 0 where
  pub here : entry_of new chunk ≡ entry
  pub others : (c : ℕ) → c ≢ chunk → entry_of new c ≡ entry_of old c
  pub bits : (z x : ℕ) → is_valid new z x ≡ is_valid old z x

-- of the tables: a zone's blocks from `from` on, below `end`, are valid now, or none of them is, and
-- all else is as it was
pub record ChangesBits (bit : Bool) (zone from end : ℕ) (old new : Tables) : Type 0 where
  pub inside : (x : ℕ) → from ≤ x → x < end → is_valid new zone x ≡ bit
  pub outside : (x : ℕ) → (x < from) ⊎ (end ≤ x) → is_valid new zone x ≡ is_valid old zone x
  pub others : (z x : ℕ) → z ≢ zone → is_valid new z x ≡ is_valid old z x
  pub entries : (c : ℕ) → entry_of new c ≡ entry_of old c

-- part k of a zone's bitmap has a bit of the range that isn't so
abbrev pub Differs : Bool → Tables → ℕ → ℕ → ℕ → ℕ → Type 0
Differs bit t zone from end k =
    (x : ℕ) × (from ≤ x) × (x < end) × (x / 32768 ≡ k) × (is_valid t zone x ≡ not bit)

-- the answer says which parts of a zone's bitmap a change of its bits changed, and the others are
-- as they were
pub record TellsParts (bit : Bool) (g : Shape) (l : Layout) (zone from end : ℕ) (old new : List ℕ)
    (changed : ChangedParts) : Type 0 where
  pub first : IsTrue changed.first ↔ Differs bit (tables_in g l old) zone from end 0
  pub second : IsTrue changed.second ↔ Differs bit (tables_in g l old) zone from end 1
  pub same_first : changed.first ≡ false →
      blocks_of new (bits_block g l zone) 1 ≡ blocks_of old (bits_block g l zone) 1
  pub same_second : changed.second ≡ false →
      blocks_of new (bits_block g l zone + 1) 1 ≡ blocks_of old (bits_block g l zone + 1) 1
