-- When a volume may start over a disk, and what it starts as.
use Rattle.std.specs.Prelude.{◌≡◌, ℕ, ◌-◌, ◌%◌, ◌^◌, ◌<◌, ◌≤◌, List, [], Bool, None}
use Rattle.zd_base.specs.Geometry.{Shape}
use Rattle.zd_alloc.specs.Candidates.{Standings}
use Rattle.zd_alloc.specs.Zones.{Division}
use Rattle.zd_model.specs.Image.{Image}
use Rattle.zd_model.specs.declared.metadata.Super.{Super}
use Rattle.zd_disk.specs.Told.{WhereTold}
use Rattle.zd_disk.specs.View.{View}
use Rattle.zd_sets.specs.Stages.{HasSet}
use Rattle.zd_tables.specs.Rules.{AreBelow}
use Rattle.zd_volume.specs.declared.phase.Phase.TheVariants.{Idle}
use Rattle.zd_volume.specs.Jobs.{IsNamed}
use Rattle.zd_volume.specs.Sets.{Sets, device_sectors, new_tables, sector_by, used}
use Rattle.zd_volume.specs.Sets.{second as second_zone}
use Rattle.zd_volume.specs.Volumes.{HasPointers, PlainVolume}

-- an image with these tables in both sets, each with a good super block with the fields of the head
pub record HoldsTables (s : Sets) (i : Image) : Type 0 where
  pub first : HasSet s.geometry 0 (used s) s.head s.new i
  pub second : HasSet s.geometry (second_zone s) (used s) s.head s.new i
  pub below : AreBelow s.geometry i.held (new_tables s)

-- the pointers of the sequential zones that the map names stand at blocks' ends
pub record HasWholeZones (s : Sets) (i : Image) : Type 0 where
  pub at : (z : ℕ) → s.geometry.conv ≤ z → IsNamed (new_tables s) z → i.held z % 8 ≡ 0

-- what the disk reads as, and each image that a stop may leave, has these tables in both sets and
-- serves the same
pub record OpensAs (s : Sets) (pointers : List ℕ) (now : View) : Type 0 where
  pub reads : WhereTold now.zones (HoldsTables s)
  pub pointers_are : WhereTold now.zones (HasPointers s.geometry pointers)
  pub whole : WhereTold now.zones (HasWholeZones s)
  pub leaves : now.calls < 2 ^ 64 - 1 → WhereTold now.zones (λ _.
      (c : Image) → now.left now.calls c → HoldsTables s c)
  pub content : now.calls < 2 ^ 64 - 1 → WhereTold now.zones (λ r.
      (c : Image) → now.left now.calls c → (n : ℕ) → n < device_sectors s →
      sector_by s (new_tables s) c n ≡ sector_by s (new_tables s) r n)

-- a volume that starts: nothing is dirty, and nothing was answered
abbrev pub started : Shape → Super → List ℕ → List Bool → Division → List Bool → List ℕ → Standings
    → List ℕ → PlainVolume
started g head bytes dirty division named pointers standings buffer = record {
  geometry = g;
  head = head;
  phase = Idle;
  committed = bytes;
  fresh = bytes;
  dirty = dirty;
  division = division;
  named = named;
  pointers = pointers;
  standings = standings;
  job = None;
  buffer = buffer;
  history = [];
  since = 0;
  opening_generation = head.generation;
  stopped = None;
}
