-- The greatest numbers that choices may name at a stop of a disk in memory.
use Rattle.std.specs.Prelude.{◌↔◌, ◌⊎◌, ℕ, ◌<◌, ◌≤◌}
use Rattle.zd_memdisk.specs.Choices.{IsSectorThere, IsZoneThere}
use Rattle.zd_memdisk.specs.DiskChoices.{disk_moment}
use Rattle.zd_memdisk.specs.Disks.{disk_calls}
use Rattle.zd_memdisk.specs.declared.memory.MemDisk.{MemDisk}

-- so many calls have returned, and of the sector just the values up to this number are there
pub record HasValuesUpTo (d : MemDisk) (k zone sector last : ℕ) : Type 0 where
  pub within : k ≤ disk_calls d
  pub there : (n : ℕ) → IsSectorThere (disk_moment d k) (zone, sector, n) ↔ (n ≤ last)

-- fewer calls have returned, or of the sector no value is there
abbrev pub HasNoValue : MemDisk → ℕ → ℕ → ℕ → Type 0
HasNoValue d k zone sector =
    (disk_calls d < k) ⊎ ((n : ℕ) → IsSectorThere (disk_moment d k) (zone, sector, n) → ⊥)

-- so many calls have returned, and just so many of the zone's first events and fewer can be chosen
pub record HasPrefixesUpTo (d : MemDisk) (k zone longest : ℕ) : Type 0 where
  pub within : k ≤ disk_calls d
  pub there : (n : ℕ) → IsZoneThere (disk_moment d k) (zone, n) ↔ (n ≤ longest)

-- fewer calls have returned, or no number of the zone's events can be chosen
abbrev pub HasNoPrefix : MemDisk → ℕ → ℕ → Type 0
HasNoPrefix d k zone =
    (disk_calls d < k) ⊎ ((n : ℕ) → IsZoneThere (disk_moment d k) (zone, n) → ⊥)
