-- The tables of a volume as contracts see them.
use Rattle.std.specs.Prelude.{◌≡◌, ℕ, List, Option, count_by, find}
use Rattle.std.specs.List.{range_with_len}
use Rattle.zd_base.specs.Geometry.{Shape}
use Rattle.zd_base.specs.declared.layout.Layout.{Layout}
use Rattle.zd_model.specs.Tables.{Tables, is_valid}
use Rattle.zd_tables.specs.Tables.{tables_in}

-- the bytes of the used blocks of a set, and what says where the tables stand in them
pub record HeldTables : Type 0 where
  pub geometry : Shape
  pub layout : Layout
  pub bytes : List ℕ

-- they stand in the same places
pub record SamePlace (old new : HeldTables) : Type 0 where
  pub geometry : new.geometry ≡ old.geometry
  pub layout : new.layout ≡ old.layout

-- the map and the bitmaps
abbrev pub tables_held : HeldTables → Tables
tables_held h = tables_in h.geometry h.layout h.bytes

-- how many blocks of a zone of b blocks are valid
abbrev pub valid_count : ℕ → Tables → ℕ → ℕ
valid_count b t zone = count_by (is_valid t zone) (range_with_len 0 b)

-- the first of them
abbrev pub first_valid_block : ℕ → Tables → ℕ → Option ℕ
first_valid_block b t zone = find (is_valid t zone) (range_with_len 0 b)
