-- The two sets of a volume: their tables, as they were committed and as they are now.
use Rattle.std.specs.Prelude.{◌≡◌, ℕ, ◌*◌, ◌≤◌, List, length}
use Rattle.zd_base.specs.Geometry.{IsShape, Shape}
use Rattle.zd_base.specs.Layout.{Fits, first_data_zone, set_zones, used_blocks}
use Rattle.zd_model.specs.Image.{Image, SameZone}
use Rattle.zd_model.specs.Super.{HasBlock}
use Rattle.zd_model.specs.Tables.{NamesZone, Tables, entry_of, sector_of}
use Rattle.zd_model.specs.declared.metadata.Super.{Super}
use Rattle.zd_sets.specs.Stages.{SetStays}
use Rattle.zd_tables.specs.Rules.{FollowRules}
use Rattle.zd_tables.specs.Tables.{tables_in}

-- the geometry, the fields of the committed super blocks, the used blocks of a set as they were
-- committed, and as they are now
pub record Sets : Type 0 where
  pub geometry : Shape
  pub head : Super
  pub old : List ℕ
  pub new : List ℕ

abbrev pub used : Sets → ℕ
used s = used_blocks s.geometry s.head.layout

-- the zone in which set 1 begins
abbrev pub second : Sets → ℕ
second s = set_zones s.geometry s.head.layout

-- the committed tables, and those of now
abbrev pub old_tables : Sets → Tables
old_tables s = tables_in s.geometry s.head.layout s.old

abbrev pub new_tables : Sets → Tables
new_tables s = tables_in s.geometry s.head.layout s.new

-- sector n of the device, by tables, from what an image holds
abbrev pub sector_by : Sets → Tables → Image → ℕ → List ℕ
sector_by s t i n = sector_of s.geometry.zone_blocks t i.sector n

-- how many sectors the device has
abbrev pub device_sectors : Sets → ℕ
device_sectors s = s.head.layout.chunks * s.geometry.zone_blocks * 8

-- the layout fits, both tables follow the rules, and a zone that both name is one chunk's
pub record AreSets (s : Sets) : Type 0 where
  pub shape : IsShape s.geometry
  pub fits : Fits s.geometry s.head.layout
  pub sizes : HasBlock s.head
  pub old_rules : FollowRules s.geometry s.head.layout s.old
  pub new_rules : FollowRules s.geometry s.head.layout s.new
  pub old_size : length s.old ≡ 4096 * used s
  pub new_size : length s.new ≡ 4096 * used s
  pub limbo : (c d z : ℕ) → NamesZone (entry_of (old_tables s) c) z
      → NamesZone (entry_of (new_tables s) d) z → c ≡ d

-- both sets are as they were
pub record BothStay (s : Sets) (i c : Image) : Type 0 where
  pub first : SetStays s.geometry 0 (used s) i c
  pub second : SetStays s.geometry (Rattle.zd_volume.specs.Sets.second s) (used s) i c

-- the data zones are as they were
pub record DataStays (s : Sets) (i c : Image) : Type 0 where
  pub zones : (z : ℕ) → first_data_zone s.geometry s.head.layout ≤ z → SameZone i c z
