-- The rules of a volume's tables, by the blocks that hold them.
use Rattle.std.specs.Prelude.{ℕ, ◌+◌, ◌*◌, ◌<◌, ◌≤◌, List, IsTrue}
use Rattle.zd_base.specs.Geometry.{Shape, zone_count, zone_sectors}
use Rattle.zd_base.specs.declared.layout.Layout.{Layout}
use Rattle.zd_model.specs.Tables.{BitsFollowRules, MapFollowsRules, Tables, is_valid}
use Rattle.zd_tables.specs.Tables.{entries_in, tables_in}

-- each valid block of a sequential zone is whole below the zone's pointer, which is so many sectors
abbrev pub AreBelow : Shape → (ℕ → ℕ) → Tables → Type 0
AreBelow g pointer t = (z x : ℕ) → g.conv ≤ z → z < zone_count g → x < g.zone_blocks →
    IsTrue (is_valid t z x) → 8 * x + 8 ≤ pointer z

-- the tables in these blocks follow all rules but that of pointers: they do as if all zones were full
pub record FollowRules (g : Shape) (l : Layout) (bytes : List ℕ) : Type 0 where
  pub map : MapFollowsRules g l (entries_in l bytes)
  pub bits : BitsFollowRules g (λ _. zone_sectors g) (tables_in g l bytes)
