-- What a volume starts as.
use Rattle.std.specs.Prelude.{◌≡◌, ◌↔◌, ℕ, ◌*◌, ◌<◌, Bool, true, false, List, length, get_or, replicate}
use Rattle.std.specs.Prelude.{Option, None, Some, set}
use Rattle.std.specs.List.{range_with_len}
use Rattle.zd_base.specs.Geometry.{Shape, zone_count}
use Rattle.zd_base.specs.Layout.{used_blocks}
use Rattle.zd_alloc.specs.Candidates.{IsInOrder, Standings, class_of}
use Rattle.zd_alloc.specs.Zones.{IsStart}
use Rattle.zd_model.specs.Tables.{NamesZone, Tables, entry_of}
use Rattle.zd_model.specs.declared.metadata.Super.{Super}
use Rattle.zd_tables.specs.Held.{HeldTables, tables_held}
use Rattle.zd_tables.specs.Tables.{tables_in}
use Rattle.zd_volume.specs.Jobs.{class_in}
use Rattle.zd_volume.specs.Starts.{started}
use Rattle.zd_volume.specs.Uses.{AreCandidates, FlagNamed}
use Rattle.zd_volume.specs.Volumes.{PlainVolume, sets_of}
use Rattle.zd_state.specs.Seen.{Seen}

-- one of the chunks below this one has an entry that names the zone
abbrev pub IsNamedBelow : Tables → ℕ → ℕ → Type 0
IsNamedBelow t end z = (c : ℕ) × (c < end) × NamesZone (entry_of t c) z

-- a flag for each zone of the disk: whether one of the first chunks names it
pub record FlagNamedBelow (g : Shape) (t : Tables) (end : ℕ) (flags : List Bool) : Type 0 where
  pub size : length flags ≡ zone_count g
  pub each : (z : ℕ) → z < zone_count g → (get_or flags z false ≡ true) ↔ IsNamedBelow t end z

-- the flags, with that of this zone raised
abbrev pub raised : Option ℕ → List Bool → List Bool
raised None flags = flags
raised (Some z) flags = set flags z true

-- the chunks below this one have their class, and all stand in the order of their numbers
pub record ClassesBelow (h : HeldTables) (pointers : List ℕ) (end : ℕ) (s : Standings) : Type 0 where
  pub count : length s.classes ≡ h.layout.chunks
  pub in_order : IsInOrder (range_with_len 0 h.layout.chunks) s.numbers
  pub each : (c : ℕ) → c < end → c < h.layout.chunks →
      class_of s.classes c ≡ class_in h.geometry pointers (tables_held h) c

-- A volume over a set with these blocks and pointers: no commit and no job is under way, no block is
-- dirty, nothing was answered, a zone is held where the map names it, and each chunk has its class.
pub record IsStarted (g : Shape) (head : Super) (bytes pointers : List ℕ) (v : PlainVolume) : Type 0 where
  pub plain : v ≡ started g head bytes (replicate (used_blocks g head.layout) false) v.division v.named
      pointers v.standings v.buffer
  pub division : IsStart g head.layout v.named v.division
  pub named : FlagNamed g (tables_in g head.layout bytes) v.named
  pub candidates : AreCandidates (sets_of v) pointers v.division.order v.standings
  pub buffer : length v.buffer ≡ 4096 * 32

-- the same over its disk, which it has not touched
pub record IsStartedVolume {D : Type 0} (g : Shape) (head : Super) (bytes pointers : List ℕ) (disk : D)
    (v : Seen D) : Type 0 where
  pub disk_is : v.disk ≡ disk
  pub opening : v.opening ≡ disk
  pub values : IsStarted g head bytes pointers v.plain
