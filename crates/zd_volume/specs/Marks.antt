-- Which flags of dirty blocks are set where blocks of the set change.
use Rattle.std.specs.Prelude.{◌≡◌, ◌≢◌, ◌↔◌, ℕ, ◌+◌, ◌<◌, Bool, true, false, ◌||◌, List, length}
use Rattle.std.specs.Prelude.{get_or, Option, Some, None}
use Rattle.zd_base.specs.Geometry.{Shape}
use Rattle.zd_base.specs.declared.layout.Layout.{Layout}
use Rattle.zd_sets.specs.Blocks.{blocks_of}
use Rattle.zd_tables.specs.Changes.{SetsBits, TellsParts, bits_block}
use Rattle.zd_tables.specs.declared.part.ChangedParts.{ChangedParts}

-- a block is clean now exactly where it was clean and its bytes are as they were
pub record MarksChanged (old_bytes new_bytes : List ℕ) (old new : List Bool) : Type 0 where
  pub size : length new ≡ length old
  pub clean : (k : ℕ) → k < length old → (get_or new k true ≡ false)
      ↔ ((get_or old k true ≡ false) × (blocks_of new_bytes k 1 ≡ blocks_of old_bytes k 1))

-- of two blocks, of which this is the first, those are dirty now that were, or changed; all others
-- are as they were
pub record MarksParts (block : ℕ) (changed : ChangedParts) (old new : List Bool) : Type 0 where
  pub size : length new ≡ length old
  pub first : get_or new block true ≡ (changed.first || get_or old block true)
  pub second : get_or new (block + 1) true ≡ (changed.second || get_or old (block + 1) true)
  pub others : (k : ℕ) → k ≢ block → k ≢ block + 1 → get_or new k true ≡ get_or old k true

-- the bits of a range of a zone's blocks are so now, and the blocks of the set that changed are
-- marked
pub record GivesBits (bit : Bool) (g : Shape) (l : Layout) (zone first end : ℕ) (old new : List ℕ)
    (dirty marked : List Bool) : Type 0 where
  pub changed : ChangedParts
  pub bits : SetsBits bit g l zone first end old new
  pub tells : TellsParts bit g l zone first end old new changed
  pub marks : MarksParts (bits_block g l zone) changed dirty marked

-- the same where there is a zone; else nothing changes
abbrev pub GivesBitsIn : Bool → Shape → Layout → Option ℕ → ℕ → ℕ → List ℕ → List ℕ → List Bool
    → List Bool → Type 0
GivesBitsIn bit g l None first end old new dirty marked = (new ≡ old) × (marked ≡ dirty)
GivesBitsIn bit g l (Some zone) first end old new dirty marked =
    GivesBits bit g l zone first end old new dirty marked
