-- What is shown of two volumes whose numbers were worked out by hand.
use Rattle.std.specs.Prelude.{ℕ, [], ◌∷◌, replicate, Some, None}
use Rattle.zd_base.specs.Geometry.{Shape}
use Rattle.zd_base.specs.Layout.{formatted}
use Rattle.zd_base.specs.declared.layout.Layout.{Layout}
use Rattle.zd_model.specs.Tables.{Tables}
use Rattle.zd_model.specs.declared.metadata.MapEntry.{MapEntry}
use Rattle.zd_model.specs.declared.metadata.Super.{Super as Head}
use Rattle.zd_admin.specs.Shown.{CountsUse}
use Rattle.zd_admin.specs.declared.volume.VolumeStatus.{VolumeStatus}

-- a disk of 6 conventional and 6 sequential zones of 16 blocks, and the layout with two reserved zones: zones 0 and 1
-- hold metadata, and there are 8 chunks
abbrev pub small_disk : Shape
small_disk = record { zone_blocks = 16; conv = 6; seq = 6 }

abbrev pub small_layout : Layout
small_layout = formatted small_disk 2

-- so many chunks with a zone and a buffer, and so many free zones
abbrev pub status_of_counts : Head → ℕ → ℕ → ℕ → ℕ → VolumeStatus
status_of_counts head mapped buffered conventional sequential = record {
  head = head;
  mapped = mapped;
  buffered = buffered;
  free_conventional = conventional;
  free_sequential = sequential;
}

-- an entry that names no zone
abbrev pub no_zone : MapEntry
no_zone = record { zone = None; buffer = None }

-- nobody wrote: no chunk has a zone, and all data zones are free
abbrev pub fresh_tables : Tables
fresh_tables = record { entries = replicate small_layout.chunks no_zone; bits = [] }

abbrev pub CountsOfFresh : Type 0
CountsOfFresh = (head : Head) → CountsUse small_disk small_layout fresh_tables (status_of_counts head 0 0 4 6)

-- the first chunk is on zone 2, the third on zone 7 with buffer 4, the last on zone 11: zones 3 and 5 are free, and 6,
-- 8, 9 and 10
abbrev pub used_tables : Tables
used_tables = record {
  entries = record { zone = Some 2; buffer = None } ∷ no_zone ∷ record { zone = Some 7; buffer = Some 4 }
      ∷ no_zone ∷ no_zone ∷ no_zone ∷ no_zone ∷ record { zone = Some 11; buffer = None } ∷ [];
  bits = [];
}

abbrev pub CountsOfUsed : Type 0
CountsOfUsed = (head : Head) → CountsUse small_disk small_layout used_tables (status_of_counts head 3 1 2 4)
