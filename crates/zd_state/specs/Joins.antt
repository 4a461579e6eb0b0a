-- The blocks that are valid in one zone become valid in another.
use Rattle.std.specs.Prelude.{◌≡◌, ◌≢◌, ◌⊎◌, ℕ, ◌+◌, ◌/◌, ◌<◌, ◌≤◌, Bool, ◌||◌, true, false, List, Option, Some, None}
use Rattle.zd_base.specs.Geometry.{Shape, per}
use Rattle.zd_base.specs.declared.layout.Layout.{Layout}
use Rattle.zd_model.specs.Tables.{Tables, entry_of, is_valid}
use Rattle.zd_sets.specs.Blocks.{blocks_of}
use Rattle.zd_sets.specs.Lending.{OnlyBlocks}
use Rattle.zd_tables.specs.Changes.{bits_block}
use Rattle.zd_tables.specs.Tables.{tables_in}
use Rattle.zd_volume.specs.Marks.{MarksChanged}

-- of the tables: so it is for the blocks from `first` on, below `end`, and all else is as it was
pub record JoinsRange (from to first end : ℕ) (old new : Tables) : Type 0 where
  pub inside : (x : ℕ) → first ≤ x → x < end → is_valid new to x ≡ (is_valid old to x || is_valid old from x)
  pub outside : (x : ℕ) → (x < first) ⊎ (end ≤ x) → is_valid new to x ≡ is_valid old to x
  pub others : (z x : ℕ) → z ≢ to → is_valid new z x ≡ is_valid old z x
  pub entries : (c : ℕ) → entry_of new c ≡ entry_of old c

-- a bit of the range, in this block of the set, is set now and wasn't
abbrev pub HasRisen : Shape → Layout → ℕ → ℕ → ℕ → ℕ → Tables → Tables → Type 0
HasRisen g l to first end k old new =
    (x : ℕ) × (first ≤ x) × (x < end) × (bits_block g l to + x / 32768 ≡ k)
    × (is_valid old to x ≡ false) × (is_valid new to x ≡ true)

-- the same of the blocks of a set: those of the zone's bitmap alone change, each with a bit, and are marked
pub record JoinsBlocks (g : Shape) (l : Layout) (from to first end : ℕ) (old new : List ℕ) (dirty marked : List Bool)
    : Type 0 where
  pub tables : JoinsRange from to first end (tables_in g l old) (tables_in g l new)
  pub only : OnlyBlocks (bits_block g l to) (bits_block g l to + per g) old new
  pub changed : (k : ℕ) → (blocks_of new k 1 ≡ blocks_of old k 1)
      ⊎ HasRisen g l to first end k (tables_in g l old) (tables_in g l new)
  pub marks : MarksChanged old new dirty marked

-- the same of all blocks, where there is such a zone; else nothing changes
abbrev pub JoinsInto : Shape → Layout → ℕ → Option ℕ → List ℕ → List ℕ → List Bool → List Bool → Type 0
JoinsInto g l from None old new dirty marked = (new ≡ old) × (marked ≡ dirty)
JoinsInto g l from (Some to) old new dirty marked = JoinsBlocks g l from to 0 g.zone_blocks old new dirty marked
